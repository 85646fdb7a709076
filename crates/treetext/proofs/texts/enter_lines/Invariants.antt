use Rattle.std.proofs.Common.{length}
use Rattle.topology.specs.Trees.{points_in}
use Rattle.treetext.proofs.Reading.{SoFar}
use Rattle.treetext.proofs.texts.enter_lines.Given as goal

abbrev pub invariant-loop-rest : goal.invariant-loop-rest
invariant-loop-rest l = SoFar (points_in l.draft) l.text l.rest

abbrev pub decreases-loop-rest : goal.decreases-loop-rest
decreases-loop-rest l = length l.rest
