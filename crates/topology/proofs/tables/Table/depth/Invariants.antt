use Rattle.std.proofs.Common.{◌≡◌, ◌+◌, ◌≤◌, length, min}
use Rattle.points.specs.Points.{depth}
use Rattle.topology.specs.Tables.{listed}
use Rattle.topology.proofs.tables.Table.depth.Given as goal

-- what was counted and what is left above make the depth; a parent is a point's or 0
abbrev pub invariant-loop-at : goal.invariant-loop-at
invariant-loop-at l =
    (l.steps + depth (listed l.self) l.at ≡ 1 + depth (listed l.self) l.network)
    × (l.steps + min l.at (length (listed l.self) + 1) ≤ length (listed l.self) + 2)

abbrev pub decreases-loop-at : goal.decreases-loop-at
decreases-loop-at l = l.at
