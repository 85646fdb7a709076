use Rattle.std.proofs.Common.{List, sym, refl, ◌∙◌, subst, ⊎_elim, arith}
use Rattle.std.proofs.lemmas.Bool.{cases_lt, eq-eqb, eqb-true}
use Rattle.points.specs.Points.{Beneath, child, deeper}
use Rattle.points.specs.declared.classes.Point.{Point}
use Rattle.points.proofs.Upwards.{by_parent, nothing_above}
use Rattle.topology.specs.Tables.{listed}
use Rattle.topology.proofs.Asking.{none_at, parent_none, parent_some}
use Rattle.topology.proofs.tables.Table.leads_to.Goals as goal

pub loop-q-preserved : goal.loop-q-preserved
loop-q-preserved c =
    let ps : List Point = listed c.args.self.now in
    let up = parent_some ps c.loop-q.at c.in-Some.q (sym c.in-Some.is ∙ c.point_at.ensures) in (
      (λ b. c.loop-q.invariant.0 (deeper (subst (Beneath ps c.args.above) (sym up) b))),
      (λ b. subst (Beneath ps c.args.above) up
          (by_parent ps c.args.above c.loop-q.at (λ e. c.if-at-above.false (sym up ∙ e)) (c.loop-q.invariant.1 b))),
    )

pub returns-then-at-above : goal.returns-then-at-above
returns-then-at-above c =
    let ps : List Point = listed c.args.self.now in
    let up = parent_some ps c.loop-q.at c.in-Some.q (sym c.in-Some.is ∙ c.point_at.ensures) in
    ((λ _. c.loop-q.invariant.0 (child (up ∙ c.if-at-above.true))), (λ _. refl))

pub returns-in_default : goal.returns-in_default
returns-in_default c =
    let ps : List Point = listed c.args.self.now in
    let asked = sym c.in_default.is ∙ c.point_at.ensures in
    let top = parent_none ps c.loop-q.at asked in (
      (λ zero. c.loop-q.invariant.0 (child (top ∙ sym (eqb-true c.args.above 0 zero)))),
      (λ b. ⊎_elim
          (λ some. absurd (nothing_above ps c.args.above some c.loop-q.at (none_at ps c.loop-q.at asked) (c.loop-q.invariant.1 b)))
          (λ few. eq-eqb c.args.above 0 (omega arith))
          (cases_lt 0 c.args.above)),
    )
