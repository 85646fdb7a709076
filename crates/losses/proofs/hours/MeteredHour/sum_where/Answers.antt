use Rattle.std.proofs.Common.{◌≡◌, ℕ, length, pos, sym, ap, ◌∙◌, arith}
use Rattle.std.proofs.lemmas.Int.{ints}
use Rattle.points.specs.Points.{point}
use Rattle.shares.specs.Sums.{total_where}
use Rattle.losses.specs.Metered.{values_on}
use Rattle.losses.proofs.Summing.{where_none, where_yes, where_no}
use Rattle.losses.proofs.hours.MeteredHour.sum_where.Goals as goal
use Rattle.losses.proofs.hours.MeteredHour.sum_where.Goals.{then-is_meant, else-is_meant}

pub loop-i-init : goal.loop-i-init
loop-i-init g c = record { small = omega (arith, ints); summed = λ t so. ap pos (sym (where_none _ _)) }

pub loop-i-preserved : goal.loop-i-preserved
loop-i-preserved g c =
    let x = c.args.self.now in
    let f = values_on g.A.Amount.on x in
    elim c.if-is_meant.branch [
      | then-is_meant w ↦ record {
        small = omega (arith, ints, w.sum-is, w.wh-sum.ensures, w.value_at.ensures.small, c.loop-i.invariant.small);
        summed = λ t so.
            let more = where_yes (λ (p : ℕ). t (point x.points.now p)) f c.loop-i.i (sym (so _ _ c.is_meant.ensures) ∙ w.if-is_meant.true) in
            omega (arith, ints, more, w.wh-sum.ensures, w.value_at.ensures.value, w.sum-is, c.loop-i.invariant.summed t so);
      }
      | else-is_meant w ↦ record {
        small = omega (arith, ints, w.sum-is, c.loop-i.invariant.small);
        summed = λ t so.
            let more = where_no (λ (p : ℕ). t (point x.points.now p)) f c.loop-i.i (sym (so _ _ c.is_meant.ensures) ∙ w.if-is_meant.false) in
            omega (arith, ints, more, w.sum-is, c.loop-i.invariant.summed t so);
      }
    ]

pub returns : goal.returns
returns g c = λ t so.
    let x = c.args.self.now in
    let all : c.loop-i.i ≡ length x.points.now = omega arith in
    c.from_wh.ensures ∙ c.loop-i.invariant.summed t so
    ∙ ap (λ (n : ℕ). pos (total_where n (λ (p : ℕ). t (point x.points.now p)) (values_on g.A.Amount.on x))) all
