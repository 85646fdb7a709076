use Rattle.std.proofs.Common.{rules}
use Rattle.points.specs.Points.{member_of}
use Rattle.shares.specs.Trees.{member_sum}
use Rattle.losses.proofs.hours.Network.member_sum.Goals as goal

pub returns : goal.returns
unfolding member_sum
returns g c = c.sum_where.ensures (member_of c.args.self.now.number) (λ q r e. search rules)
