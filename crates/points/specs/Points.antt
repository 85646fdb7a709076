-- A tree as the list of its points. Points are numbered from 1 in the order of the list. Networks
-- have numbers too: 0 is the main network, any other has the number of its monitor.
use Rattle.std.specs.Prelude.{◌≡◌, ℕ, zero, suc, ◌+◌, ◌<◌, ◌≤◌, Bool, if◌then◌else◌, ◌&&◌, ◌||◌, List, length, Some, None, count_by, Option, ◌==◌, nat_le, nat_lt, slice_index_or}
use Rattle.points.specs.Classes.{is_root, is_member, is_monitor, is_embedded}
use Rattle.points.specs.declared.classes.Class.{Class}
use Rattle.points.specs.declared.classes.Class.TheVariants.{Root}
use Rattle.points.specs.declared.classes.Point.{Point}

-- what a number reads that no point has: a root that joins no network and is embedded in nothing
abbrev pub no_point : Point
no_point = record { class = Root; parent = 0 }

-- point p
abbrev pub point : List Point → ℕ → Point
point ps zero = no_point
point ps (suc k) = slice_index_or ps k no_point

abbrev pub class_of : List Point → ℕ → Class
class_of ps p = (point ps p).class

abbrev pub parent_of : List Point → ℕ → ℕ
parent_of ps p = (point ps p).parent

-- point p, if there is one
abbrev pub point_at : List Point → ℕ → Option Point
point_at ps p = if nat_lt 0 p && nat_le p (length ps) then Some (point ps p) else None

-- p is the number of a point
abbrev pub IsPoint : List Point → ℕ → Type 0
IsPoint ps p = (0 < p) × (p ≤ length ps)

-- the point is a member of network m
abbrev pub member_of : ℕ → Point → Bool
member_of m q = is_member q.class && q.parent == m

-- p is a member of network m
abbrev pub joins : List Point → ℕ → ℕ → Bool
joins ps m p = member_of m (point ps p)

-- q is embedded directly in p
abbrev pub embeds : List Point → ℕ → ℕ → Bool
embeds ps p q = is_embedded (class_of ps q) && parent_of ps q == p

-- m is a network
abbrev pub is_network : List Point → ℕ → Bool
is_network ps m = m == 0 || is_monitor (class_of ps m)

-- how many roots there are
abbrev pub roots : List Point → ℕ
roots ps = count_by (λ q. is_root q.class) ps

-- how many members network m has
abbrev pub members : List Point → ℕ → ℕ
members ps m = count_by (member_of m) ps

-- how many networks there are, with the main one
abbrev pub networks : List Point → ℕ
networks ps = 1 + count_by (λ q. is_monitor q.class) ps

-- The depth of network m: 1 for the main network, else one more than that of the network which the
-- monitor joins. A parent is an earlier point, so that m steps up reach the main network.
abbrev pub depth_in : List Point → ℕ → ℕ → ℕ
depth_in ps zero m = 1
depth_in ps (suc k) m = if m == 0 then 1 else 1 + depth_in ps k (parent_of ps m)

abbrev pub depth : List Point → ℕ → ℕ
depth ps m = depth_in ps m m

-- what makes up the depth of each network, one by one
abbrev pub DepthRule : List Point → Type 0
DepthRule ps = (depth ps 0 ≡ 1) × ((m : ℕ) → 0 < m → depth ps m ≡ 1 + depth ps (parent_of ps m))

-- p lies beneath m: following parents from p leads to m
pub data Beneath (ps : List Point) (m : ℕ) : ℕ → Type 0 where
  child : {p : ℕ} → parent_of ps p ≡ m → Beneath ps m p
  deeper : {p : ℕ} → Beneath ps m (parent_of ps p) → Beneath ps m p
