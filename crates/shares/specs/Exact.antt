-- The exact loss: the same sharing without rounding.
use Rattle.std.specs.Prelude.{◌≡◌, ℕ, zero, suc, ◌*◌, ◌<◌, if◌then◌else◌, List, [], ◌∷◌, ℤ, pos, ◌+ℤ◌, ◌-ℤ◌, ◌*ℤ◌, unsigned_abs}
use Rattle.terms.specs.declared.channels.Channel.{Channel}
use Rattle.points.specs.Classes.{is_member}
use Rattle.points.specs.Points.{class_of, parent_of, IsPoint}
use Rattle.points.specs.declared.classes.Point.{Point}
use Rattle.shares.specs.Trees.{member_sum}
use Rattle.shares.specs.Hours.{Hour, charge}

-- ---- fractions

-- a whole numerator over a whole denominator, which is positive wherever a law speaks of it
pub record Fraction : Type 0 where
  pub num : ℤ
  pub den : ℕ

abbrev pub whole : ℤ → Fraction
whole z = record { num = z; den = 1 }

-- a / s, and 0 where s is 0
abbrev pub ratio : ℕ → ℕ → Fraction
ratio a zero = whole (pos 0)
ratio a (suc s) = record { num = pos a; den = suc s }

abbrev pub times : Fraction → Fraction → Fraction
times x y = record { num = x.num *ℤ y.num; den = x.den * y.den }

-- z + x, z * x and x + y
abbrev pub plus : ℤ → Fraction → Fraction
plus z x = record { num = (z *ℤ pos x.den) +ℤ x.num; den = x.den }

abbrev pub scaled : ℤ → Fraction → Fraction
scaled z x = record { num = z *ℤ x.num; den = x.den }

abbrev pub sum_of : Fraction → Fraction → Fraction
sum_of x y = record { num = (x.num *ℤ pos y.den) +ℤ (y.num *ℤ pos x.den); den = x.den * y.den }

-- equal by cross products
abbrev pub Same : Fraction → Fraction → Type 0
Same x y = x.num *ℤ pos y.den ≡ y.num *ℤ pos x.den

-- the whole number z and the fraction x differ by less than k, by cross products
abbrev pub Within : ℕ → ℤ → Fraction → Type 0
Within k z x = (0 < x.den) × (unsigned_abs ((z *ℤ pos x.den) -ℤ x.num) < k * x.den)

-- ---- on one channel, by the hour values h and the charges chg

-- command 14: the participation of a member is its part in the sum of its network
abbrev pub participation : List Point → (ℕ → ℕ) → ℕ → Fraction
participation ps h p = ratio (h p) (member_sum ps h (parent_of ps p))

abbrev pub exact_burden_by : (ℕ → ℤ) → (ℕ → Fraction) → ℕ → Fraction
exact_burden_by chg losses zero = whole (chg zero)
exact_burden_by chg losses (suc m) = plus (chg (suc m)) (losses (suc m))

-- each member has its participation in the exact burden of the network that it joins
abbrev pub ByExactRule : List Point → (ℕ → ℕ) → (ℕ → ℤ) → (ℕ → Fraction) → Type 0
ByExactRule ps h chg losses =
    (p : ℕ) → IsPoint ps p
    → losses p ≡ (if is_member (class_of ps p) then times (exact_burden_by chg losses (parent_of ps p)) (participation ps h p) else whole (pos 0))

-- the losses that obey it, with as many steps up as the first number says
unfoldable pub exact_in : List Point → (ℕ → ℕ) → (ℕ → ℤ) → ℕ → ℕ → Fraction
exact_in ps h chg zero p = whole (pos 0)
exact_in ps h chg (suc k) p =
    if is_member (class_of ps p) then times (exact_burden_by chg (exact_in ps h chg k) (parent_of ps p)) (participation ps h p) else whole (pos 0)

abbrev pub exact_on : List Point → (ℕ → ℕ) → (ℕ → ℤ) → ℕ → Fraction
exact_on ps h chg p = exact_in ps h chg p p

-- ---- command 15

-- the members from p up to the main network: p, then the monitor of the network that it joins, and so on
unfoldable pub way_in : List Point → ℕ → ℕ → List ℕ
way_in ps zero p = []
way_in ps (suc k) p = if is_member (class_of ps p) then p ∷ way_in ps k (parent_of ps p) else []

abbrev pub way_up : List Point → ℕ → List ℕ
way_up ps p = way_in ps p p

-- The sum, over the networks that the members of a way join, of the network's charge times the product of the
-- participations of the members up to there. `product` is the product so far.
unfoldable pub by_networks : List Point → (ℕ → ℕ) → (ℕ → ℤ) → Fraction → List ℕ → Fraction
by_networks ps h chg product [] = whole (pos 0)
by_networks ps h chg product (p ∷ up) =
    sum_of (scaled (chg (parent_of ps p)) (times product (participation ps h p))) (by_networks ps h chg (times product (participation ps h p)) up)

-- ---- of an hour

unfoldable pub exact : Hour → Channel → ℕ → Fraction
exact x c p = exact_on x.points (x.values c) (charge x c) p

unfoldable pub expanded : Hour → Channel → ℕ → Fraction
expanded x c p = by_networks x.points (x.values c) (charge x c) (whole (pos 1)) (way_up x.points p)
