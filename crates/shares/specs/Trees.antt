-- Sums over the points of a tree: by class, by network, and over what is embedded in a point.
use Rattle.std.specs.Prelude.{ℕ, zero, suc, Bool, List, length, ℤ, ◌+ℤ◌}
use Rattle.points.specs.Classes.{is_root, is_monitor}
use Rattle.points.specs.Points.{class_of, joins, embeds}
use Rattle.points.specs.declared.classes.Class.{Class}
use Rattle.points.specs.declared.classes.Point.{Point}
use Rattle.shares.specs.Sums.{total_where, sum_where}

-- over the points of the classes that a test picks
unfoldable pub over_class : List Point → (Class → Bool) → (ℕ → ℤ) → ℤ
over_class ps picks f = sum_where (length ps) (λ p. picks (class_of ps p)) f

-- over the members of network m
unfoldable pub over_members : List Point → ℕ → (ℕ → ℤ) → ℤ
over_members ps m f = sum_where (length ps) (joins ps m) f

-- over the points that are embedded directly in p
unfoldable pub over_embedded : List Point → ℕ → (ℕ → ℤ) → ℤ
over_embedded ps p f = sum_where (length ps) (embeds ps p) f

-- over the networks: the main one, and one for each monitor
unfoldable pub over_networks : List Point → (ℕ → ℤ) → ℤ
over_networks ps f = f 0 +ℤ over_class ps is_monitor f

-- the sum S of the members of network m, by the values h of the points on a channel
unfoldable pub member_sum : List Point → (ℕ → ℕ) → ℕ → ℕ
member_sum ps h m = total_where (length ps) (joins ps m) h

-- the sum of the monitors of network m: the roots monitor the main network, a monitor its own
unfoldable pub monitor_sum : List Point → (ℕ → ℕ) → ℕ → ℕ
monitor_sum ps h zero = total_where (length ps) (λ p. is_root (class_of ps p)) h
monitor_sum ps h (suc k) = h (suc k)
