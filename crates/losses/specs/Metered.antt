-- What a metered hour and its networks come to.
use Rattle.std.specs.Prelude.{◌≡◌, ℕ, Bool, List, length, ℤ, pos, ◌+ℤ◌}
use Rattle.terms.specs.declared.channels.Channel.{Channel}
use Rattle.terms.specs.declared.channels.Channel.TheVariants.{C, G}
use Rattle.points.specs.Points.{point}
use Rattle.points.specs.declared.classes.Point.{Point}
use Rattle.shares.specs.Hours.{Hour}
use Rattle.shares.specs.Rules.{Rule}
use Rattle.shares.specs.Sums.{total_where}
use Rattle.shares.specs.Trees.{member_sum, monitor_sum}
use Rattle.losses.specs.Blocks.{entry, hour_in, values_in}
use Rattle.losses.specs.Sharing.{SharedOut}
use Rattle.losses.specs.declared.hours.MeteredHour.{MeteredHour}
use Rattle.losses.specs.declared.hours.Network.{Network}
use Rattle.losses.specs.declared.sums.NetworkSums.{NetworkSums}

-- the hour under a rule
abbrev pub hour_by : Rule → MeteredHour → Hour
hour_by rule x = hour_in x.points.now rule x.values.now

-- the hour values on a channel
abbrev pub values_on : Channel → MeteredHour → ℕ → ℕ
values_on c x = values_in x.values.now c

-- whatever a test answers of a point, t says the same
abbrev pub Tests : (Point → Bool → Type 0) → (Point → Bool) → Type 0
Tests answers t = (q : Point) (r : Bool) → answers q r → r ≡ t q

-- z is the sum on a channel of the hour values of the points that a test picks
abbrev pub SumsWhere : (Point → Bool → Type 0) → Channel → MeteredHour → ℤ → Type 0
SumsWhere answers c x z =
    (t : Point → Bool) → Tests answers t → z ≡ pos (total_where (length x.points.now) (λ p. t (point x.points.now p)) (values_on c x))

-- the sums of the members and of the monitors of a network on a channel
abbrev pub members_on : Channel → Network → ℕ
members_on c n = member_sum n.hour.points.now (values_on c n.hour) n.number

abbrev pub monitors_on : Channel → Network → ℕ
monitors_on c n = monitor_sum n.hour.points.now (values_on c n.hour) n.number

-- these are the four sums of a network
pub record SumsAt (n : Network) (s : NetworkSums) : Type 0 where
  pub monitors_c : s.monitors_c.0 ≡ pos (monitors_on C n)
  pub monitors_g : s.monitors_g.0 ≡ pos (monitors_on G n)
  pub members_c : s.members_c.0 ≡ pos (members_on C n)
  pub members_g : s.members_g.0 ≡ pos (members_on G n)

-- a charge together with what the monitor of the network bears
abbrev pub with_borne : ℤ → Network → List ℤ → ℤ
with_borne z n bs = z +ℤ entry bs n.number

-- its members have their shares of the burden z, and every other entry is as it was
abbrev pub SharesOut : Channel → Network → ℤ → List ℤ → List ℤ → Type 0
SharesOut c n z old new = SharedOut n.hour.points.now (values_on c n.hour) n.number z old new (length n.hour.points.now)
