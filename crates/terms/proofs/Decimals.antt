-- What stands behind the point of a figure in MWh: the last six digits, with zeros among them.
use Rattle.std.proofs.Common.{◌≡◌, ℕ, zero, suc, ◌+◌, ◌-◌, ◌/◌, ◌%◌, ◌^◌, ◌<◌, [], ◌∷◌, ◌++◌, length, decimal, false, add-one, ap, ◌∙◌, sym, refl, inl, inr, arith}
use Rattle.std.proofs.lemmas.Bool.{cases_lt}
use Rattle.std.proofs.lemmas.Fmt.{decimal_digit, decimal_step}
use Rattle.std.proofs.lemmas.List.{append_assoc, append-nil, length-append, replicate_more}
use Rattle.std.specs.Prelude.{replicate}
use Rattle.std.specs.Fmt.{padded_integral, char_count, format_spec, styled_decimal}
use Rattle.terms.specs.Figures.{last_digits, unsigned_mwh}

zeros : (k : ℕ) → last_digits k 0 ≡ replicate k 48
zeros zero = refl
zeros (suc k) = rw (zeros k) (replicate_more {X = ℕ} k 48 ∙ ap (λ n. replicate n 48) (add-one k))

some_digit : (k n : ℕ) → 0 < n → n < 10 ^ k → 0 < k
some_digit zero n more low = absurd (omega arith)
some_digit (suc k) n more low = omega arith

with_zeros : (k n : ℕ) → n < 10 ^ k → n < 2 ^ 64 → 0 < k → replicate (k - length (decimal n)) 48 ++ decimal n ≡ last_digits k n
with_zeros zero n low small some = absurd (omega arith)
with_zeros (suc k) n low small some = elim (cases_lt n 10) [
  | inl one ↦
      let none : n / 10 ≡ 0 = omega arith in
      let same : n % 10 ≡ n = omega arith in
      let left : suc k - length ((48 + n) ∷ []) ≡ k = omega arith in
      rw (decimal_digit n one, left, none, same, zeros k) refl
  | inr more ↦
      let step = decimal_step n more small in
      let below : n / 10 < 10 ^ k = omega arith in
      let before = with_zeros k (n / 10) below (omega arith) (some_digit k (n / 10) (omega (arith, more)) below) in
      let left : suc k - length (decimal (n / 10) ++ (48 + n % 10) ∷ []) ≡ k - length (decimal (n / 10)) = omega (arith, length-append (decimal (n / 10)) ((48 + n % 10) ∷ [])) in
      rw (step, left, sym before) (sym (append_assoc (replicate (k - length (decimal (n / 10))) 48) (decimal (n / 10)) ((48 + n % 10) ∷ [])))
]

padded : (n : ℕ) → padded_integral (format_spec 32 0 4 6 (2 ^ 64 - 1)) false [] (decimal n) ≡ replicate (6 - length (decimal n)) 48 ++ decimal n
unfolding padded_integral char_count
padded n =
    let short : 6 - length (decimal n) - 0 - 0 ≡ 6 - length (decimal n) = omega arith in
    simp append-nil (ap (λ k. replicate k 48 ++ decimal n) short)

rest_digits : (n : ℕ) → last_digits 6 (n % 1000000) ≡ last_digits 6 n
rest_digits n =
    let a : n % 1000000 / 10 / 10 / 10 / 10 / 10 % 10 ≡ n / 10 / 10 / 10 / 10 / 10 % 10 = omega arith in
    let b : n % 1000000 / 10 / 10 / 10 / 10 % 10 ≡ n / 10 / 10 / 10 / 10 % 10 = omega arith in
    let c : n % 1000000 / 10 / 10 / 10 % 10 ≡ n / 10 / 10 / 10 % 10 = omega arith in
    let d : n % 1000000 / 10 / 10 % 10 ≡ n / 10 / 10 % 10 = omega arith in
    let e : n % 1000000 / 10 % 10 ≡ n / 10 % 10 = omega arith in
    let f : n % 1000000 % 10 ≡ n % 10 = omega arith in
    rw (a, b, c, d, e, f) refl

six_digits : (n : ℕ) → styled_decimal (format_spec 32 0 4 6 (2 ^ 64 - 1)) (n % 1000000) ≡ last_digits 6 n
six_digits n = padded (n % 1000000) ∙ (with_zeros 6 (n % 1000000) (omega arith) (omega arith) (omega arith) ∙ rest_digits n)

-- what is written of n watt-hours, by whole MWh and the rest
pub in_mwh : (n : ℕ) → decimal (n / 1000000) ++ (46 ∷ styled_decimal (format_spec 32 0 4 6 (2 ^ 64 - 1)) (n % 1000000)) ≡ unsigned_mwh n
in_mwh n = ap (λ ds. decimal (n / 1000000) ++ (46 ∷ ds)) (six_digits n)
