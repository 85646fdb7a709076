use Rattle.points.specs.Points.{Beneath}
use Rattle.topology.specs.Tables.{listed}
use Rattle.topology.proofs.tables.Table.leads_to.Given as goal

-- what lies beneath from here on up does so from the start, and the other way round
abbrev pub invariant-loop-q : goal.invariant-loop-q
invariant-loop-q l =
    (Beneath (listed l.self) l.above l.at → Beneath (listed l.self) l.above l.point)
    × (Beneath (listed l.self) l.above l.point → Beneath (listed l.self) l.above l.at)

abbrev pub decreases-loop-q : goal.decreases-loop-q
decreases-loop-q l = l.at
