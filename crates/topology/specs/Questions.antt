-- What a tree is asked, over the list of its points.
use Rattle.std.specs.Prelude.{◌≡◌, ℕ, zero, suc, ◌+◌, Bool, true, List, [], ◌∷◌, length, Some, None, Option, if◌then◌else◌}
use Rattle.std.specs.Option.{option_map}
use Rattle.points.specs.Classes.{is_member, is_monitor}
use Rattle.points.specs.Points.{point, class_of, point_at, joins, is_network, depth, Beneath}
use Rattle.points.specs.declared.classes.Class.{Class}
use Rattle.points.specs.declared.classes.Point.{Point}

-- the class and the parent of point p, if there is one
abbrev pub class_at : List Point → ℕ → Option Class
class_at ps p = option_map (λ q. q.class) (point_at ps p)

abbrev pub parent_at : List Point → ℕ → Option ℕ
parent_at ps p = option_map (λ q. q.parent) (point_at ps p)

-- of the k numbers from p on, those that are picked, in order
abbrev pub picked : (ℕ → Bool) → ℕ → ℕ → List ℕ
picked picks p zero = []
picked picks p (suc k) = if picks p then p ∷ picked picks (p + 1) k else picked picks (p + 1) k

-- the numbers of the members of network m
abbrev pub members_of : List Point → ℕ → List ℕ
members_of ps m = picked (joins ps m) 0 (length ps + 1)

-- the networks, the main one first
abbrev pub networks_of : List Point → List ℕ
networks_of ps = picked (is_network ps) 0 (length ps + 1)

-- A member's path is the network that it joins and those above, up to the main one: as many networks
-- as the network that it joins is deep.
abbrev pub path_by : List Point → Point → Option ℕ
path_by ps q = if is_member q.class then Some (depth ps q.parent) else None

abbrev pub path_length : List Point → ℕ → Option ℕ
path_length ps p = path_by ps (point ps p)

-- p is beneath the monitor m
abbrev pub BeneathMonitor : List Point → ℕ → ℕ → Type 0
BeneathMonitor ps m p = (is_monitor (class_of ps m) ≡ true) × Beneath ps m p
