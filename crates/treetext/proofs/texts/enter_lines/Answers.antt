use Rattle.std.proofs.Common.{Ok, subst}
use Rattle.topology.specs.Entries.{judged, Entered}
use Rattle.topology.specs.Trees.{points_in}
use Rattle.treetext.proofs.Reading.{so_far_more}
use Rattle.treetext.proofs.texts.enter_lines.Goals as goal

pub loop-rest-preserved : goal.loop-rest-preserved
loop-rest-preserved c =
    let ps = points_in c.loop-rest.draft in
    so_far_more ps c.args.text.now c.loop-rest.rest.now c.loop-rest.invariant
    c.in-Some.line.letter c.in-Some.line.parent c.in-Some.line.rest.now c.in-Some.ensures
    (points_in c.enter.new.self) c.in_ok-enter.field-0
    (subst (λ letter. Entered ps (judged ps letter c.in-Some.line.parent) (Ok c.in_ok-enter.field-0) (points_in c.enter.new.self))
    c.from.ensures c.in_ok-enter.ensures)
