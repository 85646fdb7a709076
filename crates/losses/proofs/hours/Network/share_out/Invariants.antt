use Rattle.losses.specs.Metered.{values_on}
use Rattle.losses.proofs.Turns.{Sharing}
use Rattle.losses.proofs.hours.Network.share_out.Given as goal

abbrev pub invariant-loop-i : goal.invariant-loop-i
invariant-loop-i g l = Sharing l.self.hour.points.now (values_on g.A.Amount.on l.self.hour) l.self.number l.burden.wh l.total l.initial.borne l.borne l.carry l.i
