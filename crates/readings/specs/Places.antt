-- What a source has at a place, and corrections.
use Rattle.std.specs.Prelude.{◌≡◌, ℕ, ◌≤◌, Bool, Some, None, Option, ◌≢◌, nat_le}
use Rattle.terms.specs.Answers.{Answer, gives, refuses, tested}
use Rattle.terms.specs.Refusals.{numbers_of}
use Rattle.terms.specs.declared.channels.Place.{Place}

-- an amount in Wh, or nothing, at each place
abbrev pub Readings : Type 0
Readings = Place → Option ℕ

-- the limit of one interval, in Wh
abbrev pub limit : ℕ
limit = 15000000

-- the first amount, or the second where the first is nothing
abbrev pub or_else : Option ℕ → Option ℕ → Option ℕ
or_else (Some a) o = Some a
or_else None o = o

-- A correction tests that its place is inside the extent, and then the limit.
abbrev pub correction_tests : Bool → Place → ℕ → Answer (Unit {0})
correction_tests inside p a = tested inside 7 (numbers_of p) (tested (nat_le a limit) 9 (numbers_of p) (gives tt))

-- an accepted correction puts the amount at its place, and leaves every other
pub record Corrected (before after : Readings) (p : Place) (a : ℕ) : Type 0 where
  pub here : after p ≡ Some a
  pub others : (q : Place) → (q ≢ p) → after q ≡ before q

-- A place whose amount is needed tests that there is one, and then the limit.
abbrev pub needed : Option ℕ → Place → Answer ℕ
needed None p = refuses 8 (numbers_of p)
needed (Some a) p = tested (nat_le a limit) 9 (numbers_of p) (gives a)

-- an amount is there, and within the limit
abbrev pub Usable : Option ℕ → Type 0
Usable None = ⊥
Usable (Some a) = a ≤ limit
