-- Where the places of a book lie, and what a write at one of them leaves.
use Rattle.std.proofs.Common.{◌≡◌, ℕ, ◌+◌, ◌-◌, ◌*◌, ◌/◌, ◌%◌, ◌<◌, ◌≤◌, Bool, true, false, cond, ◌⊎◌, List, length, get_or, Some, None, Option, IfSome, sym, refl, ap, ◌∙◌, subst, inl, inr, arith, w32}
use lib.Arith.{digits_lt, digits_div, digits_mod}
use Rattle.std.specs.Int.{to_be_bytes}
use Rattle.std.proofs.lemmas.Bool.{cases_lt}
use Rattle.std.proofs.lemmas.Bool.Decides.{nat_tests}
use borrow.Rule.Slice.PartMut.{put_mid}
use Rattle.terms.specs.declared.channels.Channel.{Channel}
use Rattle.terms.specs.declared.channels.Channel.TheVariants.{C, G}
use Rattle.terms.specs.declared.channels.Place.{Place}
use Rattle.terms.proofs.Places.{same_place}
use Rattle.readings.specs.Places.{limit, Corrected}
use Rattle.books.specs.Books.{header_of, lawful, lawful_header, holds, block_of, offset, offset_in, entry, amount_by, book_at, KeptBut}
use Rattle.books.specs.Bytes.{word, long}
use Rattle.books.specs.declared.headers.Header.{Header}
use Rattle.books.proofs.Puts.{Put, put}
use Rattle.books.proofs.Rules.{Rules, Inside, inside_by, was_read}

-- equal bytes make equal numbers
word_same : (xs bs : List ℕ) (o : ℕ) → ((j : ℕ) → o ≤ j → j < o + 2 → get_or xs j 0 ≡ get_or bs j 0) → word xs o ≡ word bs o
word_same xs bs o e =
    let a = e o (omega arith) (omega arith) in
    let b = e (o + 1) (omega arith) (omega arith) in
    omega arith

long_same : (xs bs : List ℕ) (o : ℕ) → ((j : ℕ) → o ≤ j → j < o + 4 → get_or xs j 0 ≡ get_or bs j 0) → long xs o ≡ long bs o
long_same xs bs o e =
    let a = e o (omega arith) (omega arith) in
    let b = e (o + 1) (omega arith) (omega arith) in
    let c = e (o + 2) (omega arith) (omega arith) in
    let d = e (o + 3) (omega arith) (omega arith) in
    omega arith

module _ (len : ℕ) (x : Header) (r : Rules len x) where
  -- the place of an amount in its block
  abbrev index : Place → ℕ
  index p = (p.point - 1) * x.intervals + p.interval

  index_lt : (p : Place) → Inside x p → index p < x.points * x.intervals
  index_lt p h =
      let a = h.from_one in
      let b = h.to_n in
      digits_lt {q = p.point - 1} {m = x.points} {r = p.interval} {c = x.intervals} (omega arith) h.below

  block_low : (c : Channel) → 12 ≤ block_of x c
  block_low C = r.low_c
  block_low G = r.low_g

  block_fits : (c : Channel) → block_of x c + 4 * (x.points * x.intervals) ≤ len
  block_fits C = r.high_c
  block_fits G = r.high_g

  -- two places of one block have the same index only if they have the same point and interval
  index_same : (p q : Place) → Inside x p → Inside x q → index q ≡ index p → (q.point ≡ p.point) × (q.interval ≡ p.interval)
  index_same p q h k e =
      let a : q.point - 1 ≡ p.point - 1 = sym (digits_div (q.point - 1) k.below) ∙ (ap (λ n. n / x.intervals) e ∙ digits_div (p.point - 1) h.below) in
      let b : q.interval ≡ p.interval = sym (digits_mod (q.point - 1) k.below) ∙ (ap (λ n. n % x.intervals) e ∙ digits_mod (p.point - 1) h.below) in
      let y = h.from_one in
      let z = k.from_one in
      (omega arith, b)

  within_block : (c : Channel) (p q : Place) → Inside x p → Inside x q → ((q.point ≡ p.point) × (q.interval ≡ p.interval) → ⊥)
      → (block_of x c + 4 * index q + 4 ≤ block_of x c + 4 * index p) ⊎ (block_of x c + 4 * index p + 4 ≤ block_of x c + 4 * index q)
  within_block c p q h k ne = elim (cases_lt (index q) (index p)) [
    | inl lt ↦ inl (omega arith)
    | inr ge ↦ elim (cases_lt (index p) (index q)) [ inl lt ↦ inr (omega arith) | inr le ↦ absurd (ne (index_same p q h k (omega arith))) ]
  ]

  -- amounts of other places share no byte with that of a place
  apart_on : (c d : Channel) (p q : Place) → Inside x p → Inside x q → ((q.point ≡ p.point) × (d ≡ c) × (q.interval ≡ p.interval) → ⊥)
      → (block_of x d + 4 * index q + 4 ≤ block_of x c + 4 * index p) ⊎ (block_of x c + 4 * index p + 4 ≤ block_of x d + 4 * index q)
  apart_on C C p q h k ne = within_block C p q h k (λ s. ne (s.0, refl, s.1))
  apart_on G G p q h k ne = within_block G p q h k (λ s. ne (s.0, refl, s.1))
  apart_on C G p q h k ne = elim r.apart [ inl a ↦ inr (omega (arith, index_lt p h, index_lt q k)) | inr b ↦ inl (omega (arith, index_lt p h, index_lt q k)) ]
  apart_on G C p q h k ne = elim r.apart [ inl a ↦ inl (omega (arith, index_lt p h, index_lt q k)) | inr b ↦ inr (omega (arith, index_lt p h, index_lt q k)) ]

  offset_apart : (p q : Place) → Inside x p → Inside x q → (q ≡ p → ⊥) → (offset x q + 4 ≤ offset x p) ⊎ (offset x p + 4 ≤ offset x q)
  offset_apart p q h k ne = apart_on p.channel q.channel p q h k (λ s. ne (same_place q p s.0 s.1 s.2))

-- the amount of a place lies inside the bytes
pub offset_inside : (bs : List ℕ) (x : Header) (p : Place) → Some x ≡ lawful_header bs → holds x p ≡ true → offset x p + 4 ≤ length bs
offset_inside bs x p read inside =
    let r = (was_read bs x read).1 in
    omega (arith, block_fits (length bs) x r p.channel, index_lt (length bs) x r p (inside_by x p inside))

-- the header that has a place
record Found (bs : List ℕ) (p : Place) (at : ℕ) : Type 0 where
  pub header : Header
  pub read : Some header ≡ lawful_header bs
  pub inside : holds header p ≡ true
  pub begins : at ≡ offset header p

found : (bs : List ℕ) (p : Place) (at : ℕ) → Some at ≡ offset_in (lawful_header bs) p → Found bs p at
found bs p at e = go (lawful_header bs) refl e
  where
    go : (o : Option Header) → o ≡ lawful_header bs → Some at ≡ offset_in o p → Found bs p at
    go None read f = let z : ◌≡◌ {A = ℕ} 0 1 = cc in absurd (omega arith)
    go (Some x) read f = by (holds x p) refl f
      where
        by : (t : Bool) → holds x p ≡ t → Some at ≡ cond t (Some (offset x p)) None → Found bs p at
        by true h g = record { header = x; read = read; inside = h; begins = cc }
        by false h g = let z : ◌≡◌ {A = ℕ} 0 1 = cc in absurd (omega arith)

at_inside : (bs : List ℕ) (p : Place) (at : ℕ) → Some at ≡ offset_in (lawful_header bs) p → at + 4 ≤ length bs
at_inside bs p at e = let f = found bs p at e in omega (arith, f.begins, offset_inside bs f.header p f.read f.inside)

pub offset_fits : (bs : List ℕ) (p : Place) (o : Option ℕ) → o ≡ offset_in (lawful_header bs) p → IfSome o (λ at. at + 4 ≤ length bs)
offset_fits bs p None e = tt
offset_fits bs p (Some at) e = at_inside bs p at e

entry_some : (v : ℕ) → v ≤ limit → entry v ≡ Some v
entry_some v h = grind (arith, nat_tests)

-- a book with an amount v written at a place is xs
module _ (bs xs : List ℕ) (x : Header) (p : Place) (v : ℕ) (read : Some x ≡ lawful_header bs) (inside : holds x p ≡ true) (put : Put (offset x p) v bs xs) where
  rules_of : Rules (length bs) x
  rules_of = (was_read bs x read).1

  head_same : (k : ℕ) → k < 12 → get_or xs k 0 ≡ get_or bs k 0
  head_same k low = put.others k (inl (omega (arith, block_low (length bs) x rules_of p.channel)))

  header_same : header_of xs ≡ header_of bs
  header_same =
      let n = word_same xs bs 0 (λ j a b. head_same j (omega arith)) in
      let t = word_same xs bs 2 (λ j a b. head_same j (omega arith)) in
      let o = long_same xs bs 4 (λ j a b. head_same j (omega arith)) in
      let g = long_same xs bs 8 (λ j a b. head_same j (omega arith)) in
      cc

  header_kept : lawful_header xs ≡ lawful_header bs
  header_kept =
      ap (λ n. cond (lawful n (header_of xs)) (Some (header_of xs)) None) put.len
      ∙ ap (λ h. cond (lawful (length bs) h) (Some h) None) header_same

  -- what the two books have at a place, by the one header
  before_is : (q : Place) → book_at bs q ≡ amount_by bs (Some x) q
  unfolding book_at
  before_is q = ap (λ h. amount_by bs h q) (sym read)

  after_is : (q : Place) → book_at xs q ≡ amount_by xs (Some x) q
  unfolding book_at
  after_is q = ap (λ h. amount_by xs h q) (header_kept ∙ sym read)

  other_same : (q : Place) → (q ≡ p → ⊥) → (t : Bool) → holds x q ≡ t
      → cond t (entry (long xs (offset x q))) None ≡ cond t (entry (long bs (offset x q))) None
  other_same q ne true h =
      ap entry (long_same xs bs (offset x q) (λ k low high. put.others k
      (elim (offset_apart (length bs) x rules_of p q (inside_by x p inside) (inside_by x q h) ne) [ inl before ↦ inl (omega arith) | inr after ↦ inr (omega arith) ])))
  other_same q ne false h = refl

  corrected : v ≤ limit → Corrected (book_at bs) (book_at xs) p v
  corrected low = record {
    here = after_is p ∙ (ap (λ t. cond t (entry (long xs (offset x p))) None) inside ∙ (ap entry put.here ∙ entry_some v low));
    others = λ q ne. after_is q ∙ (other_same q ne (holds x q) refl ∙ sym (before_is q));
  }

  kept : KeptBut p bs xs
  kept = record { bytes = subst (λ h. (k : ℕ) → (k < offset h p) ⊎ (offset h p + 4 ≤ k) → get_or xs k 0 ≡ get_or bs k 0) (was_read bs x read).0 put.others }

-- what a write of an amount at a place does to a book
pub record Rewritten (bs xs : List ℕ) (p : Place) (v : ℕ) : Type 0 where
  pub header : lawful_header xs ≡ lawful_header bs
  pub places : Corrected (book_at bs) (book_at xs) p v
  pub kept : KeptBut p bs xs

pub rewritten : (bs ys : List ℕ) (p : Place) (at v : ℕ) → Some at ≡ offset_in (lawful_header bs) p → v ≤ limit → ys ≡ to_be_bytes w32 v
    → Rewritten bs (put_mid at (at + 4 - at) bs ys) p v
rewritten bs ys p at v e low amount =
    let f = found bs p at e in
    let there : Put (offset f.header p) v bs (put_mid at (at + 4 - at) bs ys) = subst (λ o. Put o v bs (put_mid at (at + 4 - at) bs ys)) f.begins (put at v bs ys (at_inside bs p at e) low amount) in
    record {
      header = header_kept bs _ f.header p v f.read f.inside there;
      places = corrected bs _ f.header p v f.read f.inside there low;
      kept = kept bs _ f.header p v f.read f.inside there;
    }
