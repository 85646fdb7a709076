-- The way up from a point.
use Rattle.std.proofs.Common.{◌≡◌, ℕ, ◌<◌, List, ap, arith}
use Rattle.points.specs.Points.{no_point, point, parent_of, Beneath, child, deeper}
use Rattle.points.specs.declared.classes.Point.{Point}

module _ (ps : List Point) (m : ℕ) where
  -- a number that no point has lies beneath nothing
  pub nothing_above : 0 < m → (p : ℕ) → point ps p ≡ no_point → Beneath ps m p → ⊥
  nothing_above some p none (child e) = omega (arith, ap (λ (q : Point). q.parent) none, e)
  nothing_above some p none (deeper b) =
      let top : parent_of ps p ≡ 0 = ap (λ (q : Point). q.parent) none in
      nothing_above some (parent_of ps p) (ap (point ps) top) b

  -- what does not name m lies beneath m by its parent alone
  pub by_parent : (p : ℕ) → (parent_of ps p ≡ m → ⊥) → Beneath ps m p → Beneath ps m (parent_of ps p)
  by_parent p other (child e) = absurd (other e)
  by_parent p other (deeper b) = b
