-- The rules and limits that the points of a draft and of a tree in service keep.
use Rattle.std.specs.Prelude.{◌≡◌, ℕ, ◌<◌, ◌≤◌, Bool, true, ◌&&◌, ◌||◌, List, length, ◌==◌, nat_le, nat_lt, slice_index_or}
use Rattle.points.specs.Classes.{is_monitor, hosts}
use Rattle.points.specs.Points.{no_point, class_of, is_network, roots, members, networks, depth}
use Rattle.points.specs.declared.classes.Class.{Class}
use Rattle.points.specs.declared.classes.Class.TheVariants.{Root, Member, Monitor, Embedded}
use Rattle.points.specs.declared.classes.Point.{Point}

-- A point of class c that comes behind the first n points may name m: a root names 0, a member or a
-- monitor 0 or an earlier monitor, an embedded point an earlier member or embedded point.
abbrev pub parent_fits : List Point → ℕ → Class → ℕ → Bool
parent_fits ps n Root m = m == 0
parent_fits ps n Member m = m == 0 || (nat_le m n && is_monitor (class_of ps m))
parent_fits ps n Monitor m = m == 0 || (nat_le m n && is_monitor (class_of ps m))
parent_fits ps n Embedded m = nat_le m n && hosts (class_of ps m)

-- The limits leave room for one more point of class c under m: 4 roots, 32 members in a network, 16
-- networks, and networks at most 4 deep.
abbrev pub has_room : List Point → Class → ℕ → Bool
has_room ps Root m = nat_lt (roots ps) 4
has_room ps Member m = nat_lt (members ps m) 32
has_room ps Monitor m = nat_lt (members ps m) 32 && nat_lt (networks ps) 16 && nat_lt (depth ps m) 4
has_room ps Embedded m = true

-- every point names an earlier point that its class may name, or 0
abbrev pub Placed : List Point → Type 0
Placed ps = (k : ℕ) → k < length ps → parent_fits ps k (slice_index_or ps k no_point).class (slice_index_or ps k no_point).parent ≡ true

-- every network is at most four deep
abbrev pub Shallow : List Point → Type 0
Shallow ps = (m : ℕ) → is_monitor (class_of ps m) ≡ true → depth ps m ≤ 4

-- the limits on points, roots, members of a network, and networks and their depth
abbrev pub Limited : List Point → Type 0
Limited ps =
    (length ps ≤ 128) × (roots ps ≤ 4) × ((m : ℕ) → members ps m ≤ 32) × ((networks ps ≤ 16) × Shallow ps)

-- there is a root, and every network has a member
abbrev pub Complete : List Point → Type 0
Complete ps = (0 < roots ps) × ((m : ℕ) → is_network ps m ≡ true → 0 < members ps m)
