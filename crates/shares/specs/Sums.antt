-- Sums over the numbers from 1 to n.
use Rattle.std.specs.Prelude.{ℕ, zero, suc, ◌+◌, Bool, if◌then◌else◌, ℤ, pos, ◌+ℤ◌}

-- f 1 + … + f n, of natural numbers
unfoldable pub total : ℕ → (ℕ → ℕ) → ℕ
total zero f = 0
total (suc n) f = total n f + f (suc n)

-- f 1 + … + f n, of integers
unfoldable pub sum_to : ℕ → (ℕ → ℤ) → ℤ
sum_to zero f = pos 0
sum_to (suc n) f = sum_to n f +ℤ f (suc n)

-- the same, of the terms alone whose numbers a test picks
unfoldable pub total_where : ℕ → (ℕ → Bool) → (ℕ → ℕ) → ℕ
total_where n picks f = total n (λ j. if picks j then f j else 0)

unfoldable pub sum_where : ℕ → (ℕ → Bool) → (ℕ → ℤ) → ℤ
sum_where n picks f = sum_to n (λ j. if picks j then f j else pos 0)
