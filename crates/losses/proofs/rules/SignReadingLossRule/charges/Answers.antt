use Rattle.std.proofs.Common.{arith}
use Rattle.std.proofs.lemmas.Int.{ints}
use Rattle.losses.proofs.Charging.{sign_in, sign_out, loss_small}
use Rattle.losses.proofs.rules.SignReadingLossRule.charges.Goals as goal

pub returns-then-loss-ge0 : goal.returns-then-loss-ge0
returns-then-loss-ge0 c =
    let by = sign_in c.args.sums (omega (arith, ints, c.loss-loss.ensures)) in
    rw by (omega (arith, ints, c.on.ensures.c, c.loss-loss.ensures), c.on.ensures.g)

pub overflow_sub-loss : goal.overflow_sub-loss
overflow_sub-loss c = omega (arith, ints, c.loss-loss.ensures, loss_small c.args.sums)

pub returns-else-loss-ge0 : goal.returns-else-loss-ge0
returns-else-loss-ge0 c =
    let by = sign_out c.args.sums (omega (arith, ints, c.loss-loss.ensures)) in
    rw by (c.on-else-loss-ge0.ensures.c, omega (arith, ints, c.on-else-loss-ge0.ensures.g, c.loss-loss.ensures, loss_small c.args.sums))
