use Rattle.std.proofs.Common.{◌≡◌, ℕ, ◌*◌, ◌≤◌, Bool, pos, unsigned_abs}
use Rattle.points.specs.Points.{point}
use Rattle.points.specs.declared.classes.Point.{Point}
use Rattle.readings.specs.Hours.{hour_most}
use Rattle.shares.specs.Sums.{total_where}
use Rattle.losses.specs.Blocks.{values_in}
use Rattle.losses.specs.Metered.{Tests}
use Rattle.losses.proofs.hours.MeteredHour.sum_where.Given as goal

abbrev pub invariant-loop-i : goal.invariant-loop-i
invariant-loop-i g l = record {
  small : unsigned_abs l.sum ≤ l.i * hour_most;
  summed : (t : Point → Bool) → Tests (goal.F-post g l.is_meant) t → l.sum ≡ pos (total_where l.i (λ (p : ℕ). t (point l.self.points.now p)) (values_in l.self.values.now g.A.Amount.on));
}
