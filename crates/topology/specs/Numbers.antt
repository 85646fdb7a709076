-- What an iterator over numbers of points has yet to give.
use Rattle.std.specs.Prelude.{◌≡◌, ℕ, ◌+◌, ◌-◌, Bool, List, [], ◌∷◌, length, Some, None, Option}
use Rattle.points.specs.Points.{joins, is_network}
use Rattle.topology.specs.Questions.{picked}
use Rattle.topology.specs.Tables.{listed}
use Rattle.points.specs.declared.classes.Point.{Point}
use Rattle.topology.specs.declared.numbers.Choice.{Choice}
use Rattle.topology.specs.declared.numbers.Choice.TheVariants.{MembersOf, Networks}
use Rattle.topology.specs.declared.numbers.Numbers.{Numbers}

abbrev pub picks : List Point → Choice → ℕ → Bool
picks ps (MembersOf m) p = joins ps m p
picks ps Networks p = is_network ps p

-- from p on
abbrev pub picked_from : List Point → Choice → ℕ → List ℕ
picked_from ps choice p = picked (picks ps choice) p (length ps + 1 - p)

-- of the numbers that are yet to be looked at, those that are chosen
abbrev pub numbers_left : Numbers → List ℕ
numbers_left s = picked (picks (listed s.table.now) s.choice) s.left.start (s.left.end - s.left.start)

-- a list gives its first number, and then there are the others; the empty list gives nothing
abbrev pub Gives : List ℕ → Option ℕ → List ℕ → Type 0
Gives xs None ys = xs ≡ []
Gives xs (Some x) ys = xs ≡ x ∷ ys
