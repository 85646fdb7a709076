-- How large the hour values and the sums of a network are.
use Rattle.std.proofs.Common.{◌≡◌, ℕ, zero, suc, ◌≤◌, ℤ, pos, arith}
use Rattle.terms.specs.declared.channels.Channel.{Channel}
use Rattle.readings.specs.Hours.{hour_most}
use Rattle.shares.specs.Rules.{sum_limit}
use Rattle.shares.proofs.Counts.{members_limit, monitors_limit}
use Rattle.std.proofs.lemmas.Int.{ints}
use Rattle.losses.specs.Limits.{IsSum}
use Rattle.losses.specs.Metered.{members_on, monitors_on, values_on}
use Rattle.losses.specs.declared.hours.MeteredHour.{MeteredHour}
use Rattle.losses.specs.declared.hours.Network.{Network}

value_small : (c : Channel) (x : MeteredHour) (p : ℕ) → values_on c x p ≤ hour_most
value_small c x zero = omega arith
value_small c x (suc k) = (x.hourly _).1

pub members_small : (c : Channel) (n : Network) → members_on c n ≤ sum_limit
members_small c n = members_limit n.hour.points.now n.hour.limited (values_on c n.hour) (value_small c n.hour) n.number

pub monitors_small : (c : Channel) (n : Network) → monitors_on c n ≤ sum_limit
monitors_small c n = monitors_limit n.hour.points.now n.hour.limited (values_on c n.hour) (value_small c n.hour) n.number

-- a number that is the sum of a network
pub is_sum : (z : ℤ) (n : ℕ) → z ≡ pos n → n ≤ sum_limit → IsSum z
is_sum z n e low = (omega (arith, ints), omega (arith, ints))
