use Rattle.std.proofs.Common.{refl}
use Rattle.points.proofs.Depths.{depth_step}
use Rattle.topology.specs.Trees.{points_of}
use Rattle.topology.proofs.trees.Tree.path_len.Goals as goal

pub returns-clause-rule : goal.returns-clause-rule
returns-clause-rule c = (refl, depth_step (points_of c.args.self.now) c.args.self.now.table.placed)
