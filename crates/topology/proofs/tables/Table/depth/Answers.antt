use Rattle.std.proofs.Common.{List, sym, ap, ◌∙◌, arith}
use Rattle.points.specs.Points.{depth}
use Rattle.points.specs.declared.classes.Point.{Point}
use Rattle.points.proofs.Depths.{parent_earlier, depth_step}
use Rattle.topology.specs.Tables.{listed}
use Rattle.topology.proofs.Asking.{parent_none, parent_some, some_at}
use Rattle.topology.proofs.tables.Table.depth.Goals as goal

pub loop-at-preserved : goal.loop-at-preserved
loop-at-preserved c =
    let ps : List Point = listed c.args.self.now in
    let asked = sym c.in-Some.is ∙ c.point_at.ensures in
    let up = parent_some ps c.loop-at.at c.in-Some.q asked in
    let deeper = depth_step ps c.args.self.now.placed c.loop-at.at c.loop-at-test.true in
    let less = parent_earlier ps c.args.self.now.placed c.loop-at.at c.loop-at-test.true in
    (omega (arith, deeper, ap (depth ps) up), omega (arith, up, less, (some_at ps c.loop-at.at c.in-Some.q asked).0.1))

pub returns-in_default : goal.returns-in_default
returns-in_default c =
    let ps : List Point = listed c.args.self.now in
    let main = ap (depth ps) (parent_none ps c.loop-at.at (sym c.in_default.is ∙ c.point_at.ensures)) in
    omega (arith, depth_step ps c.args.self.now.placed c.loop-at.at c.loop-at-test.true, main)
