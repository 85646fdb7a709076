-- What a call answers: a value, or a refusal by its number and its place.
use Rattle.std.specs.Prelude.{ℕ, zero, suc, Bool, if◌then◌else◌, List, Ok, Err, Result}
use Rattle.terms.specs.Refusals.{number_of, place_of}
use Rattle.terms.specs.declared.refusals.Refusal.{Refusal}

-- It is no Result over the cases of a refusal: what is promised is the number and the place, which two cases may share.
pub data Answer (T : Type 0) : Type 0 where
  gives : T → Answer T
  refuses : ℕ → List ℕ → Answer T

abbrev pub answered : {T : Type 0} → Result T Refusal → Answer T
answered (Ok x) = gives x
answered (Err e) = refuses (number_of e) (place_of e)

-- One test in a row of them: where it passes, what follows decides, else it is refusal n at this place.
abbrev pub tested : {T : Type 0} → Bool → ℕ → List ℕ → Answer T → Answer T
tested passes n place next = if passes then next else refuses n place

infixr 20 ◌thereafter◌
-- Tests after other tests: the first refusal decides.
abbrev pub ◌thereafter◌ : {S T : Type 0} → Answer S → Answer T → Answer T
◌thereafter◌ (gives x) next = next
◌thereafter◌ (refuses n place) next = refuses n place

-- An answer without its value.
abbrev pub passing : {T : Type 0} → Answer T → Answer (Unit {0})
passing (gives x) = gives tt
passing (refuses n place) = refuses n place

-- The first k tests of a row, one after the other.
abbrev pub in_order : {T : Type 0} → (ℕ → Answer T) → ℕ → Answer (Unit {0})
in_order tests zero = gives tt
in_order tests (suc k) = in_order tests k thereafter passing (tests k)
