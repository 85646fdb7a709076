-- The list that a table holds.
use Rattle.std.specs.Prelude.{List, vec_items}
use Rattle.points.specs.declared.classes.Point.{Point}
use Rattle.topology.specs.declared.tables.Table.{Table}

abbrev pub listed : Table → List Point
listed t = vec_items t.records
