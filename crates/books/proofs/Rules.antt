-- What the rules on a book say of its header.
use Rattle.std.proofs.Common.{◌≡◌, ℕ, ◌+◌, ◌*◌, ◌<◌, ◌≤◌, Bool, true, false, cond, ◌⊎◌, List, length, Some, None, refl, arith}
use Rattle.std.proofs.lemmas.Bool.Decides.{nat_tests}
use Rattle.books.specs.Books.{header_of, lawful, well_formed, lawful_header, holds}
use Rattle.terms.specs.declared.channels.Place.{Place}
use Rattle.books.specs.declared.headers.Header.{Header}

pub record Rules (len : ℕ) (x : Header) : Type 0 where
  pub head : 12 ≤ len
  pub low_c : 12 ≤ x.c
  pub low_g : 12 ≤ x.g
  pub high_c : x.c + 4 * (x.points * x.intervals) ≤ len
  pub high_g : x.g + 4 * (x.points * x.intervals) ≤ len
  pub apart : (x.c + 4 * (x.points * x.intervals) ≤ x.g) ⊎ (x.g + 4 * (x.points * x.intervals) ≤ x.c)

pub rules : (len : ℕ) (x : Header) → lawful len x ≡ true → Rules len x
rules len x e = record {
  head = grind (arith, nat_tests);
  low_c = grind (arith, nat_tests);
  low_g = grind (arith, nat_tests);
  high_c = grind (arith, nat_tests);
  high_g = grind (arith, nat_tests);
  apart = grind (arith, nat_tests);
}

-- a place of a book
pub record Inside (x : Header) (p : Place) : Type 0 where
  pub from_one : 1 ≤ p.point
  pub to_n : p.point ≤ x.points
  pub below : p.interval < x.intervals

pub inside_by : (x : Header) (p : Place) → holds x p ≡ true → Inside x p
inside_by x p e = record { from_one = grind (arith, nat_tests); to_n = grind (arith, nat_tests); below = grind (arith, nat_tests) }

-- a header that was read is the book's, and the book keeps the rules
pub was_read : (bs : List ℕ) (x : Header) → Some x ≡ lawful_header bs → (x ≡ header_of bs) × Rules (length bs) x
was_read bs x e = go (well_formed bs) refl e
  where
    go : (t : Bool) → well_formed bs ≡ t → Some x ≡ cond t (Some (header_of bs)) None → (x ≡ header_of bs) × Rules (length bs) x
    go true w f = let same : x ≡ header_of bs = cc in (same, rules (length bs) x (rw same w))
    go false w f = let z : ◌≡◌ {A = ℕ} 0 1 = cc in absurd (omega arith)
