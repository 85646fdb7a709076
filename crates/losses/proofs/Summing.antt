-- One turn of a sum over the points.
use Rattle.std.proofs.Common.{◌≡◌, ℕ, suc, ◌+◌, Bool, true, false, cond, refl, ap, ◌∙◌, add-one, arith}
use Rattle.shares.specs.Sums.{total, total_where}

pub where_none : (b : ℕ → Bool) (f : ℕ → ℕ) → total_where 0 b f ≡ 0
unfolding total_where total
where_none b f = refl

where_more : (b : ℕ → Bool) (f : ℕ → ℕ) (i : ℕ) → total_where (i + 1) b f ≡ total_where i b f + cond (b (suc i)) (f (suc i)) 0
unfolding total_where total
where_more b f i = rw add-one refl

-- the next term, where it is picked and where it is not
pub where_yes : (b : ℕ → Bool) (f : ℕ → ℕ) (i : ℕ) → b (suc i) ≡ true → total_where (i + 1) b f ≡ total_where i b f + f (suc i)
where_yes b f i e = where_more b f i ∙ ap (λ (t : Bool). total_where i b f + cond t (f (suc i)) 0) e

pub where_no : (b : ℕ → Bool) (f : ℕ → ℕ) (i : ℕ) → b (suc i) ≡ false → total_where (i + 1) b f ≡ total_where i b f
where_no b f i e = let more = where_more b f i ∙ ap (λ (t : Bool). total_where i b f + cond t (f (suc i)) 0) e in omega arith
