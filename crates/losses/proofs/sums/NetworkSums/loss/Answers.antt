use Rattle.std.proofs.Common.{arith}
use Rattle.std.proofs.lemmas.Int.{ints}
use Rattle.losses.proofs.Charging.{loss_is}
use Rattle.losses.proofs.sums.NetworkSums.loss.Goals as goal

pub returns : goal.returns
returns c = let s = c.args.self in omega (arith, ints, loss_is s, s.mc, s.mg, s.sc, s.sg, c.sub.ensures, c.sub-2.ensures)
