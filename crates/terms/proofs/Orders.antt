-- Tests in a row: they pass if each passes, and otherwise the first that refuses decides.
use Rattle.std.proofs.Common.{◌≡◌, ℕ, zero, suc, ◌<◌, List, refl, ap, ◌∙◌, inl, inr, arith}
use Rattle.std.proofs.lemmas.Bool.{cases_lt}
use Rattle.terms.specs.Answers.{Answer, gives, refuses, passing, in_order}

module _ {T : Type 0} where
  abbrev pub Passes : Answer T → Type 0
  Passes (gives x) = Unit {0}
  Passes (refuses n place) = ⊥

  passes_on : (a : Answer T) → Passes a → passing a ≡ gives (tt {0})
  passes_on (gives x) p = refl
  passes_on (refuses n place) p = absurd p

  pub all_pass : (tests : ℕ → Answer T) (n : ℕ) → ((k : ℕ) → k < n → Passes (tests k)) → in_order tests n ≡ gives (tt {0})
  all_pass tests zero each = refl
  all_pass tests (suc n) each =
      let before : in_order tests n ≡ gives (tt {0}) = all_pass tests n (λ k lt. each k (omega arith)) in
      rw before (passes_on (tests n) (each n (omega arith)))

  pub first_refusal : (tests : ℕ → Answer T) (n j m : ℕ) (place : List ℕ) → j < n → ((k : ℕ) → k < j → Passes (tests k))
      → tests j ≡ refuses m place → in_order tests n ≡ refuses m place
  first_refusal tests zero j m place lt each e = absurd (omega arith)
  first_refusal tests (suc n) j m place lt each e = elim (cases_lt j n) [
    | inl less ↦ rw (first_refusal tests n j m place less each e) refl
    | inr more ↦
        let same : n ≡ j = omega arith in
        let before : in_order tests n ≡ gives (tt {0}) = all_pass tests n (λ k less. each k (omega arith)) in
        let here : tests n ≡ refuses m place = ap tests same ∙ e in
        rw (before, here) refl
  ]
