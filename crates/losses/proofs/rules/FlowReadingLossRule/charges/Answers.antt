use Rattle.std.proofs.Common.{arith}
use Rattle.std.proofs.lemmas.Int.{ints}
use Rattle.losses.proofs.Charging.{flow_in, flow_out}
use Rattle.losses.proofs.rules.FlowReadingLossRule.charges.Goals as goal

pub returns-then-sub-ge0 : goal.returns-then-sub-ge0
returns-then-sub-ge0 c =
    let by = flow_in c.args.sums (omega (arith, ints, c.sub.ensures)) in
    rw by (omega (arith, ints, c.on.ensures.c, c.loss-loss.ensures), c.on.ensures.g)

pub returns-else-sub-ge0 : goal.returns-else-sub-ge0
returns-else-sub-ge0 c =
    let by = flow_out c.args.sums (omega (arith, ints, c.sub.ensures)) in
    rw by (c.on-else-sub-ge0.ensures.c, omega (arith, ints, c.on-else-sub-ge0.ensures.g, c.loss-loss.ensures))
