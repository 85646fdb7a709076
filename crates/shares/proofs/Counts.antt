-- How many points a test picks, and the limits on the sums of a network.
use Rattle.std.proofs.Common.{◌≡◌, ℕ, zero, suc, ◌+◌, ◌≤◌, Bool, cond, List, length, get_or, take, count_by, sym, refl, ap, ◌∙◌, add-one, arith}
use Rattle.std.proofs.lemmas.List.{take_all}
use Rattle.std.proofs.lemmas.List.Sums.{sum_by_more}
use Rattle.points.specs.Classes.{is_root}
use Rattle.points.specs.Points.{no_point, point, class_of, member_of, joins, roots, members}
use Rattle.points.specs.Rules.{Limited}
use Rattle.points.specs.declared.classes.Point.{Point}
use Rattle.readings.specs.Hours.{hour_most}
use Rattle.shares.specs.Sums.{total, total_where}
use Rattle.shares.specs.Trees.{member_sum, monitor_sum}
use Rattle.shares.specs.Rules.{sum_limit}
use Rattle.shares.proofs.Sums.{where_le}

-- among the first k points
count_to : (ps : List Point) (f : Point → Bool) (k : ℕ) → k ≤ length ps → total_where k (λ p. f (point ps p)) (λ p. 1) ≡ count_by f (take k ps)
unfolding total total_where
count_to ps f zero h = refl
count_to ps f (suc k) h =
    ap (λ (n : ℕ). n + cond (f (get_or ps k no_point)) 1 0) (count_to ps f k (omega arith))
    ∙ sym (sum_by_more (λ q. cond (f q) 1 0) ps k no_point (omega arith))
    ∙ ap (λ (i : ℕ). count_by f (take i ps)) (add-one k)

pub count_is : (ps : List Point) (f : Point → Bool) → total_where (length ps) (λ p. f (point ps p)) (λ p. 1) ≡ count_by f ps
count_is ps f = count_to ps f (length ps) (omega arith) ∙ ap (count_by f) (take_all (length ps) ps (omega arith))

-- ---- the sums that a loss rule is given are in its range

module _ (ps : List Point) (limited : Limited ps) (h : ℕ → ℕ) (most : (p : ℕ) → h p ≤ hour_most) where
  pub members_limit : (m : ℕ) → member_sum ps h m ≤ sum_limit
  unfolding member_sum
  members_limit m =
      let few : members ps m ≤ 32 = limited.2 m in
      let all = where_le (length ps) 180000000 (joins ps m) h (λ p _ _. most p) in
      let count = count_is ps (member_of m) in
      omega arith

  pub monitors_limit : (m : ℕ) → monitor_sum ps h m ≤ sum_limit
  unfolding monitor_sum
  monitors_limit zero =
      let few : roots ps ≤ 4 = limited.1 in
      let all = where_le (length ps) 180000000 (λ p. is_root (class_of ps p)) h (λ p _ _. most p) in
      let count = count_is ps (λ q. is_root q.class) in
      omega arith
  monitors_limit (suc k) = omega (arith, most (suc k))
