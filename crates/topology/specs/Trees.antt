-- The points of a draft and of a tree in service.
use Rattle.std.specs.Prelude.{List}
use Rattle.topology.specs.Tables.{listed}
use Rattle.points.specs.declared.classes.Point.{Point}
use Rattle.topology.specs.declared.trees.Draft.{Draft}
use Rattle.topology.specs.declared.trees.Tree.{Tree}

abbrev pub points_in : Draft → List Point
points_in d = listed d.table

abbrev pub points_of : Tree → List Point
points_of t = listed t.table
