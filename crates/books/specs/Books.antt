-- The layout of a book: a header of 12 bytes, and a block of amounts for each channel, wherever the
-- header puts it.
use Rattle.std.specs.Prelude.{◌≡◌, ℕ, ◌+◌, ◌-◌, ◌*◌, ◌%◌, ◌<◌, ◌≤◌, Bool, false, if◌then◌else◌, ◌&&◌, ◌||◌, ◌⊎◌, List, [], length, Some, None, Option, ◌==◌, nat_le, nat_lt, slice_index}
use Rattle.terms.specs.Answers.{Answer, gives, tested}
use Rattle.terms.specs.declared.channels.Channel.{Channel}
use Rattle.terms.specs.declared.channels.Channel.TheVariants.{C, G}
use Rattle.terms.specs.declared.channels.Place.{Place}
use Rattle.readings.specs.Places.{Readings}
use Rattle.books.specs.Bytes.{word, long}
use Rattle.books.specs.declared.headers.Header.{Header}

-- what stands in the first 12 bytes: how many points and intervals there are, and at which bytes the
-- blocks of C and G begin
abbrev pub header_of : List ℕ → Header
header_of bs = record { points = word bs 0; intervals = word bs 2; c = long bs 4; g = long bs 8 }

-- 1 to 128 points; 12 to 8,928 intervals, in whole hours
abbrev pub counts_lawful : ℕ → ℕ → Bool
counts_lawful n t = nat_le 1 n && nat_le n 128 && nat_le 12 t && nat_le t 8928 && t % 12 == 0

-- blocks of that size at c and g begin behind the header, lie inside the bytes and share no byte
abbrev pub blocks_lawful : ℕ → ℕ → ℕ → ℕ → Bool
blocks_lawful len size c g =
    nat_le 12 c && nat_le 12 g && nat_le (c + size) len && nat_le (g + size) len && (nat_le (c + size) g || nat_le (g + size) c)

-- the rules on a book of len bytes with this header; an amount takes 4 bytes
abbrev pub lawful : ℕ → Header → Bool
lawful len x = nat_le 12 len && counts_lawful x.points x.intervals && blocks_lawful len (4 * (x.points * x.intervals)) x.c x.g

abbrev pub well_formed : List ℕ → Bool
well_formed bs = lawful (length bs) (header_of bs)

-- the header of a book that keeps every rule
abbrev pub lawful_header : List ℕ → Option Header
lawful_header bs = if well_formed bs then Some (header_of bs) else None

-- the points 1 to n and the intervals 0 to t - 1
abbrev pub holds : Header → Place → Bool
holds x p = nat_le 1 p.point && nat_le p.point x.points && nat_lt p.interval x.intervals

abbrev pub block_of : Header → Channel → ℕ
block_of x C = x.c
block_of x G = x.g

-- where the amount of a place begins: in the channel's block, point after point
abbrev pub offset : Header → Place → ℕ
offset x p = block_of x p.channel + 4 * ((p.point - 1) * x.intervals + p.interval)

-- the same, if a book with this header has the place
abbrev pub offset_in : Option Header → Place → Option ℕ
offset_in None p = None
offset_in (Some x) p = if holds x p then Some (offset x p) else None

-- FFFFFFFF means nothing
abbrev pub entry : ℕ → Option ℕ
entry v = if v == 0xffffffff then None else Some v

-- the places of a book with this header; where a rule is broken there is none
abbrev pub places_by : Option Header → Place → Bool
places_by None p = false
places_by (Some x) p = holds x p

-- what the bytes of a book with this header have at a place
abbrev pub amount_by : List ℕ → Option Header → Place → Option ℕ
amount_by bs None p = None
amount_by bs (Some x) p = if holds x p then entry (long bs (offset x p)) else None

-- the places of a book
abbrev pub extent : List ℕ → Place → Bool
extent bs p = places_by (lawful_header bs) p

-- what a book has at a place
unfoldable pub book_at : List ℕ → Readings
book_at bs p = amount_by bs (lawful_header bs) p

-- every byte but the four of a place is as it was
pub record KeptBut (p : Place) (before after : List ℕ) : Type 0 where
  pub bytes : (k : ℕ) → (k < offset (header_of before) p) ⊎ (offset (header_of before) p + 4 ≤ k) → slice_index after k ≡ slice_index before k

-- the book check
abbrev pub book_tests : List ℕ → Answer (Unit {0})
book_tests bs = tested (well_formed bs) 6 [] (gives tt)
