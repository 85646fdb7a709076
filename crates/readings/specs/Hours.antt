-- The integration of an hour (command 3). Hour h consists of the intervals 12 h to 12 h + 11, and a
-- point's hour values, its hour C and its hour G, sum its amounts there.
use Rattle.std.specs.Prelude.{◌≡◌, ℕ, zero, suc, ◌+◌, ◌-◌, ◌*◌, ◌<◌, ◌≤◌, if◌then◌else◌, ◌&&◌, ◌⊎◌, List, length, ℤ, pos, Some, None, Option, nat_le, slice_index_or}
use Rattle.terms.specs.Answers.{Answer, gives, refuses, ◌thereafter◌, in_order}
use Rattle.terms.specs.Channels.{ordinal, place_at}
use Rattle.terms.specs.declared.channels.Channel.{Channel}
use Rattle.terms.specs.declared.channels.Channel.TheVariants.{C, G}
use Rattle.terms.specs.declared.channels.Place.{Place}
use Rattle.readings.specs.Places.{Readings, limit, needed, Usable}

-- the amount, 0 for nothing
abbrev pub amount_of : Option ℕ → ℕ
amount_of None = 0
amount_of (Some a) = a

-- the sum of k amounts from interval i on
unfoldable pub sum_from : Readings → ℕ → Channel → ℕ → ℕ → ℕ
sum_from at p c i zero = 0
sum_from at p c i (suc k) = sum_from at p c i k + amount_of (at (place_at p c (i + k)))

-- the hour value of a point on a channel
abbrev pub hour_sum : Readings → ℕ → Channel → ℕ → ℕ
hour_sum at p c h = sum_from at p c (12 * h) 12

-- The tests of an hour: the points 1 to n in order, C before G, the twelve intervals in order.
abbrev pub channel_tests : Readings → ℕ → ℕ → Channel → Answer (Unit {0})
channel_tests at h p c = in_order (λ k. needed (at (place_at p c (12 * h + k))) (place_at p c (12 * h + k))) 12

abbrev pub point_tests : Readings → ℕ → ℕ → Answer (Unit {0})
point_tests at h p = channel_tests at h p C thereafter channel_tests at h p G

unfoldable pub hour_tests : Readings → ℕ → ℕ → Answer (Unit {0})
hour_tests at n h = in_order (λ k. point_tests at h (k + 1)) n

-- the points 1 to n, and the twelve intervals of hour h
abbrev pub InHour : ℕ → ℕ → Place → Type 0
InHour n h q = (1 ≤ q.point) × (q.point ≤ n) × (12 * h ≤ q.interval) × (q.interval < 12 * h + 12)

-- the order of places: point, channel (by its ordinal), interval
abbrev pub Before : Place → ℕ → ℕ → ℕ → Type 0
Before q p c i =
    (q.point < p) ⊎ ((q.point ≡ p) × ((ordinal q.channel < c) ⊎ ((ordinal q.channel ≡ c) × (q.interval < i))))

abbrev pub Earlier : Place → Place → Type 0
Earlier q p = Before q p.point (ordinal p.channel) p.interval

-- where an hour value stands among lent numbers: point after point, C and then G
abbrev pub slot : ℕ → ℕ → ℕ
slot p c = 2 * (p - 1) + c

-- the hour value that stands there, if there is room for the point
abbrev pub hour_value : List ℤ → ℕ → Channel → Option ℤ
hour_value hours p c = if nat_le 1 p && nat_le (2 * p) (length hours) then Some (slice_index_or hours (slot p (ordinal c)) (pos 0)) else None

-- the hour values that stand before a place are the sums, and from there on the memory is as it was
pub record Written (at : Readings) (h : ℕ) (old hours : List ℤ) (p c : ℕ) : Type 0 where
  pub sums : (q : ℕ) (d : Channel) → 1 ≤ q → (q < p) ⊎ ((q ≡ p) × (ordinal d < c)) → slice_index_or hours (slot q (ordinal d)) (pos 0) ≡ pos (hour_sum at q d h)
  pub rest : (k : ℕ) → slot p c ≤ k → slice_index_or hours k (pos 0) ≡ slice_index_or old k (pos 0)

-- the most that a point has in an hour on a channel: twelve times the limit of an interval
abbrev pub hour_most : ℕ
hour_most = 12 * limit

-- every place of the hour is usable, so that no hour value is above its limit, and all are written
pub record Integrated (at : Readings) (n h : ℕ) (old hours : List ℤ) : Type 0 where
  pub usable : (q : Place) → InHour n h q → Usable (at q)
  pub bounded : (q : ℕ) (d : Channel) → 1 ≤ q → q ≤ n → hour_sum at q d h ≤ hour_most
  pub written : Written at h old hours (n + 1) 0

-- refusal m names the first place of the hour that is not usable; the hour values before it are written
pub record FirstFault (at : Readings) (n h : ℕ) (old hours : List ℤ) (m : ℕ) (place : List ℕ) : Type 0 where
  pub fault : Place
  pub within : InHour n h fault
  pub faulty : needed (at fault) fault ≡ refuses m place
  pub first : (q : Place) → InHour n h q → Earlier q fault → Usable (at q)
  pub written : Written at h old hours fault.point (ordinal fault.channel)

-- what the integration of hour h answers, and what the memory holds then, of which it was old before
abbrev pub HourRead : Readings → ℕ → ℕ → List ℤ → List ℤ → Answer (Unit {0}) → Type 0
HourRead at n h old hours (gives u) = Integrated at n h old hours
HourRead at n h old hours (refuses m place) = FirstFault at n h old hours m place
