-- The figures of one hour, by the tree's points, the loss rule, and the hour values of the points.
use Rattle.std.specs.Prelude.{ℕ, zero, suc, ◌≤◌, if◌then◌else◌, List, [], ◌∷◌, ◌++◌, length, ℤ, pos, ◌+ℤ◌, ◌-ℤ◌, nat_lt}
use Rattle.terms.specs.declared.channels.Channel.{Channel}
use Rattle.terms.specs.declared.channels.Channel.TheVariants.{C, G}
use Rattle.points.specs.Classes.{is_root, is_billing}
use Rattle.points.specs.declared.classes.Point.{Point}
use Rattle.readings.specs.Hours.{hour_sum, hour_most}
use Rattle.readings.specs.Places.{Readings}
use Rattle.shares.specs.Trees.{over_class, over_embedded, over_networks, member_sum, monitor_sum}
use Rattle.shares.specs.Rules.{Rule, loss_of}
use Rattle.shares.specs.Carry.{left_over, burden_by, borne_on}

pub record Hour : Type 0 where
  pub points : List Point
  pub rule : Rule
  -- the hour value of each point on each channel
  pub values : Channel → ℕ → ℕ

-- the hour values of the points 1 to n in hour h; a number that no point has has 0
abbrev pub values_of : Readings → ℕ → ℕ → Channel → ℕ → ℕ
values_of at n h c zero = 0
values_of at n h c (suc k) = if nat_lt k n then hour_sum at (suc k) c h else 0

abbrev pub hour_of : List Point → Rule → Readings → ℕ → Hour
hour_of ps rule at h = record { points = ps; rule = rule; values = values_of at (length ps) h }

-- no hour value is above twelve times the limit of an interval
abbrev pub InRange : Hour → Type 0
InRange x = (c : Channel) (p : ℕ) → x.values c p ≤ hour_most

-- command 11
unfoldable pub loss : Hour → ℕ → ℤ
loss x m =
    loss_of (monitor_sum x.points (x.values C) m) (monitor_sum x.points (x.values G) m)
    (member_sum x.points (x.values C) m) (member_sum x.points (x.values G) m)

-- both charges of network m: what the rule gives for its four sums (commands 12 and 13)
unfoldable pub charges : Hour → ℕ → ℤ × ℤ
charges x m =
    x.rule (monitor_sum x.points (x.values C) m) (monitor_sum x.points (x.values G) m)
    (member_sum x.points (x.values C) m) (member_sum x.points (x.values G) m)

unfoldable pub charge : Hour → Channel → ℕ → ℤ
charge x C m = (charges x m).0
charge x G m = (charges x m).1

-- the sign excess of network m: both charges together minus the loss
unfoldable pub excess_of : Hour → ℕ → ℤ
excess_of x m = (charge x C m +ℤ charge x G m) -ℤ loss x m

-- the loss that p bears on a channel
unfoldable pub borne : Hour → Channel → ℕ → ℤ
borne x c p = borne_on x.points (x.values c) (charge x c) p

unfoldable pub burden : Hour → Channel → ℕ → ℤ
burden x c m = burden_by (charge x c) (borne x c) m

unfoldable pub unborne_of : Hour → Channel → ℕ → ℤ
unborne_of x c m = left_over (member_sum x.points (x.values c) m) (burden x c m)

-- command 16: a loss b adds to an hour value v on C, and takes from it on G
abbrev pub adjusted_by : Channel → ℕ → ℤ → ℤ
adjusted_by C v b = pos v +ℤ b
adjusted_by G v b = pos v -ℤ b

unfoldable pub adjusted : Hour → Channel → ℕ → ℤ
adjusted x c p = adjusted_by c (x.values c p) (borne x c p)

-- commands 24 and 25: the adjusted value less those of the points that are embedded directly
unfoldable pub final : Hour → Channel → ℕ → ℤ
final x c p = adjusted x c p -ℤ over_embedded x.points p (adjusted x c)

-- ---- the account of the hour

-- the net of the root readings
unfoldable pub root_net : Hour → ℤ
root_net x = over_class x.points is_root (λ p. pos (x.values C p) -ℤ pos (x.values G p))

-- the final net of the billing points
unfoldable pub billed_net : Hour → ℤ
billed_net x = over_class x.points is_billing (λ p. final x C p -ℤ final x G p)

unfoldable pub unborne : Hour → Channel → ℤ
unborne x c = over_networks x.points (unborne_of x c)

unfoldable pub excess : Hour → ℤ
excess x = over_networks x.points (excess_of x)

-- ---- all figures, in the order in which they are stored

unfoldable pub account : Hour → List ℤ
account x = root_net x ∷ billed_net x ∷ unborne x C ∷ unborne x G ∷ excess x ∷ []

unfoldable pub point_figures : Hour → ℕ → List ℤ
point_figures x p = borne x C p ∷ borne x G p ∷ final x C p ∷ final x G p ∷ []

-- the account, and then the figures of the points 1 to k
unfoldable pub figures_to : Hour → ℕ → List ℤ
figures_to x zero = account x
figures_to x (suc k) = figures_to x k ++ point_figures x (suc k)

abbrev pub figures_of : Hour → List ℤ
figures_of x = figures_to x (length x.points)
