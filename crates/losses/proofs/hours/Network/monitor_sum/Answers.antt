use Rattle.std.proofs.Common.{◌≡◌, ℕ, suc, ◌-◌, pos, sym, ap, ◌∙◌, arith, rules}
use Rattle.points.specs.Classes.{is_root}
use Rattle.points.specs.declared.classes.Point.{Point}
use Rattle.shares.specs.Trees.{monitor_sum}
use Rattle.losses.specs.Metered.{values_on}
use Rattle.losses.proofs.hours.Network.monitor_sum.Goals as goal

pub returns-then-self-eq0 : goal.returns-then-self-eq0
unfolding monitor_sum
returns-then-self-eq0 g c =
    let x = c.args.self.now.hour in
    let roots = c.sum_where.ensures (λ (q : Point). is_root q.class) (λ q r e. search rules) in
    roots ∙ ap (λ (m : ℕ). pos (monitor_sum x.points.now (values_on g.A.Amount.on x) m)) (sym c.if-self-eq0.true)

pub returns-else-self-eq0 : goal.returns-else-self-eq0
unfolding monitor_sum
returns-else-self-eq0 g c =
    let x = c.args.self.now.hour in
    let up : suc (c.args.self.now.number - 1) ≡ c.args.self.now.number = omega (arith, c.if-self-eq0.false) in
    c.value_at.ensures.value ∙ ap (λ (m : ℕ). pos (monitor_sum x.points.now (values_on g.A.Amount.on x) m)) up
