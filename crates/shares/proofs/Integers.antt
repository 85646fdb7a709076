-- Laws of the integers that products want. An integer z is read as `up z - down z`, as the set `ints` reads it.
use Rattle.std.proofs.Common.{◌≡◌, ℕ, ◌+◌, ◌*◌, ℤ, pos, ◌+ℤ◌, ◌*ℤ◌, neg_ℤ, ap, arith}
use borrow.Author.Differences.{up, down, same_in, sum_is_lem, neg_is, product_is, ints}

-- ---- the two parts of a product

pub up-*ℤ : (a b : ℤ) → up (a *ℤ b) ≡ up a * up b + down a * down b
up-*ℤ a b = (product_is a b).0

pub down-*ℤ : (a b : ℤ) → down (a *ℤ b) ≡ up a * down b + down a * up b
down-*ℤ a b = (product_is a b).1

pub up_pos : (n : ℕ) → up (pos n) ≡ n
up_pos n = omega (arith, ints)

pub down_pos : (n : ℕ) → down (pos n) ≡ 0
down_pos n = omega (arith, ints)

-- ---- ring laws

pub one-*ℤ : (a : ℤ) → pos 1 *ℤ a ≡ a
one-*ℤ a = same_in (pos 1 *ℤ a) a (simp (up-*ℤ, down-*ℤ, up_pos, down_pos) (omega arith))

pub *ℤ-+ℤ : (a b c : ℤ) → a *ℤ (b +ℤ c) ≡ (a *ℤ b) +ℤ (a *ℤ c)
*ℤ-+ℤ a b c = omega (arith, ints, ap (λ (n : ℕ). up a * n) (sum_is_lem b c), ap (λ (n : ℕ). down a * n) (sum_is_lem b c))

pub +ℤ-*ℤ : (a b c : ℤ) → (a +ℤ b) *ℤ c ≡ (a *ℤ c) +ℤ (b *ℤ c)
+ℤ-*ℤ a b c = omega (arith, ints, ap (λ (n : ℕ). n * up c) (sum_is_lem a b), ap (λ (n : ℕ). n * down c) (sum_is_lem a b))

pub negℤ-*ℤ : (a b : ℤ) → neg_ℤ a *ℤ b ≡ neg_ℤ (a *ℤ b)
negℤ-*ℤ a b = same_in (neg_ℤ a *ℤ b) (neg_ℤ (a *ℤ b)) (simp (up-*ℤ, down-*ℤ, up_neg, down_neg) (omega arith))
  where
    up_neg : (z : ℤ) → up (neg_ℤ z) ≡ down z
    up_neg z = (neg_is z).0

    down_neg : (z : ℤ) → down (neg_ℤ z) ≡ up z
    down_neg z = (neg_is z).1
