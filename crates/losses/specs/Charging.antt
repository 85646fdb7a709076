-- What a rule gives for the sums of a network.
use Rattle.std.specs.Prelude.{◌≡◌, ℤ, pos, unsigned_abs}
use Rattle.shares.specs.Rules.{Rule, loss_of}
use Rattle.terms.specs.declared.channels.Channel.{Channel}
use Rattle.terms.specs.declared.channels.Channel.TheVariants.{C, G}
use Rattle.terms.specs.declared.channels.AmountOn.{AmountOn}
use Rattle.terms.specs.declared.channels.Consumption.{Consumption}
use Rattle.terms.specs.declared.channels.Generation.{Generation}
use Rattle.losses.specs.declared.sums.NetworkSums.{NetworkSums}
use Rattle.losses.specs.declared.rules.Charges.{Charges}

-- the sums of a network are these
pub record SumsOf (mc : AmountOn Consumption) (mg : AmountOn Generation) (sc : AmountOn Consumption) (sg : AmountOn Generation) (s : NetworkSums) : Type 0 where
  pub monitors_c : s.monitors_c ≡ mc
  pub monitors_g : s.monitors_g ≡ mg
  pub members_c : s.members_c ≡ sc
  pub members_g : s.members_g ≡ sg

-- the loss by these sums
abbrev pub loss_by : NetworkSums → ℤ
loss_by s = loss_of (unsigned_abs s.monitors_c.0) (unsigned_abs s.monitors_g.0) (unsigned_abs s.members_c.0) (unsigned_abs s.members_g.0)

-- the charges by these sums, on C and on G
abbrev pub charges_by : Rule → NetworkSums → ℤ × ℤ
charges_by rule s = rule (unsigned_abs s.monitors_c.0) (unsigned_abs s.monitors_g.0) (unsigned_abs s.members_c.0) (unsigned_abs s.members_g.0)

-- all of a charge on one channel
abbrev pub all_on : Channel → ℤ → ℤ × ℤ
all_on C z = (z, pos 0)
all_on G z = (pos 0, z)

-- these charges are what the rule gives for the sums
abbrev pub Charged : Rule → NetworkSums → Charges → Type 0
Charged rule s r = (r.c.0 ≡ (charges_by rule s).0) × (r.g.0 ≡ (charges_by rule s).1)
