-- What holds of the figures of an hour.
use Rattle.std.specs.Prelude.{◌≡◌, ℕ, true, List, length, ℤ, pos, ◌+ℤ◌, ◌-ℤ◌, ◌≤ℤ◌}
use Rattle.terms.specs.declared.channels.Channel.{Channel}
use Rattle.terms.specs.declared.channels.Channel.TheVariants.{C, G}
use Rattle.points.specs.Classes.{is_member, is_monitor}
use Rattle.points.specs.Points.{class_of, parent_of, is_network, depth, IsPoint, Beneath}
use Rattle.points.specs.Rules.{Placed, Limited}
use Rattle.points.specs.declared.classes.Point.{Point}
use Rattle.shares.specs.Trees.{over_members}
use Rattle.shares.specs.Rules.{Meaning, flow_reading, sign_reading}
use Rattle.shares.specs.Carry.{ByCarryRule}
use Rattle.shares.specs.Hours.{Hour, InRange, loss, charge, borne, burden, unborne_of, adjusted, final, root_net, billed_net, unborne, excess}
use Rattle.shares.specs.Exact.{Fraction, Same, Within, ByExactRule, exact, expanded, way_up}

-- Exactly one assignment of losses to points obeys the carry rule, and it is what the points bear. So does one
-- assignment of fractions obey the exact rule.
pub record Decided (x : Hour) (c : Channel) : Type 0 where
  pub carried : ByCarryRule x.points (x.values c) (charge x c) (borne x c)
  pub only : (bears : ℕ → ℤ) → ByCarryRule x.points (x.values c) (charge x c) bears → (p : ℕ) → IsPoint x.points p → bears p ≡ borne x c p
  pub exactly : ByExactRule x.points (x.values c) (charge x c) (exact x c)
  pub only_exact : (losses : ℕ → Fraction) → ByExactRule x.points (x.values c) (charge x c) losses → (p : ℕ) → IsPoint x.points p → losses p ≡ exact x c p

-- in each network the losses that the members bear and what is unborne add up to the burden
abbrev pub AddUp : Hour → Channel → Type 0
AddUp x c = (m : ℕ) → is_network x.points m ≡ true → over_members x.points m (borne x c) +ℤ unborne_of x c m ≡ burden x c m

-- the billed net is the root net less what is unborne, and with the sign excess
abbrev pub Balanced : Hour → Type 0
Balanced x = billed_net x ≡ root_net x -ℤ unborne x C -ℤ unborne x G +ℤ excess x

-- there is no sign excess unless some network has a negative loss
abbrev pub NoExcess : Hour → Type 0
NoExcess x = ((m : ℕ) → is_network x.points m ≡ true → pos 0 ≤ℤ loss x m) → excess x ≡ pos 0

-- the loss that a member bears and its exact loss differ by less than the number of networks on its path
abbrev pub Near : Hour → Channel → Type 0
Near x c = (p : ℕ) → is_member (class_of x.points p) ≡ true → Within (depth x.points (parent_of x.points p)) (borne x c p) (exact x c p)

-- The exact loss of a member is command 15 written out, which goes over as many networks as its path has.
pub record IsCommand15 (x : Hour) (c : Channel) (p : ℕ) : Type 0 where
  pub same : Same (exact x c p) (expanded x c p)
  pub long : length (way_up x.points p) ≡ depth x.points (parent_of x.points p)

abbrev pub Expanded : Hour → Channel → Type 0
Expanded x c = (p : ℕ) → is_member (class_of x.points p) ≡ true → IsCommand15 x c p

-- the hour values of two hours agree at every point that is not beneath m
abbrev pub AgreeBeyond : List Point → ℕ → (Channel → ℕ → ℕ) → (Channel → ℕ → ℕ) → Type 0
AgreeBeyond ps m v w = (c : Channel) (p : ℕ) → IsPoint ps p → (Beneath ps m p → ⊥) → v c p ≡ w c p

-- at point p, two hours have the same figures on channel c
pub record SameAt (x y : Hour) (c : Channel) (p : ℕ) : Type 0 where
  pub borne_same : borne x c p ≡ borne y c p
  pub adjusted_same : adjusted x c p ≡ adjusted y c p
  pub final_same : final x c p ≡ final y c p

-- the same points and rule with other hour values
abbrev pub with_values : Hour → (Channel → ℕ → ℕ) → Hour
with_values x w = record { points = x.points; rule = x.rule; values = w }

-- What happens beneath a dependent monitor changes nothing elsewhere: whatever other hour values agree at every
-- point that is not beneath it, the figures at these points are the same.
abbrev pub Comparable : Hour → Type 0
Comparable x =
    (m : ℕ) → is_monitor (class_of x.points m) ≡ true → (w : Channel → ℕ → ℕ) → AgreeBeyond x.points m x.values w
    → (c : Channel) (p : ℕ) → IsPoint x.points p → (Beneath x.points m p → ⊥) → SameAt x (with_values x w) c p

pub record Laws (x : Hour) : Type 0 where
  pub decided : (c : Channel) → Decided x c
  pub add_up : (c : Channel) → AddUp x c
  pub balanced : Balanced x
  pub no_excess : NoExcess x
  pub near : (c : Channel) → Near x c
  pub expanded_so : (c : Channel) → Expanded x c
  pub comparable : Comparable x

-- They hold of every hour of a tree in service, under every loss rule.
abbrev pub LawsHold : Type 0
LawsHold = (x : Hour) → Placed x.points → Limited x.points → Meaning x.rule → InRange x → Laws x

-- both supplied readings are loss rules
abbrev pub ReadingsAreRules : Type 0
ReadingsAreRules = Meaning flow_reading × Meaning sign_reading
