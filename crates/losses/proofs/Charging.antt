-- What the supplied readings charge for the sums of a network, and how large it is.
use Rattle.std.proofs.Common.{◌≡◌, ◌*◌, ◌<◌, ◌≤◌, ℤ, pos, negsuc, ◌-ℤ◌, nat_abs, ◌≤ℤ◌, ◌<ℤ◌, refl, ap, ◌∙◌, arith}
use Rattle.std.proofs.lemmas.Int.{ints}
use Rattle.shares.specs.Rules.{Rule, Meaning, loss_of, flow_reading, sign_reading, sum_limit}
use Rattle.shares.proofs.Rules.{charge_small, flow_on_c, flow_on_g, sign_on_c, sign_on_g}
use Rattle.losses.specs.Charging.{charges_by, loss_by, Charged}
use Rattle.losses.specs.declared.rules.Charges.{Charges}
use Rattle.losses.specs.declared.sums.NetworkSums.{NetworkSums}

-- a number that is not negative is its own size
pub whole_is : (z : ℤ) → pos 0 ≤ℤ z → pos (nat_abs z) ≡ z
whole_is (pos n) h = refl
whole_is (negsuc n) h = absurd h.le

module _ (s : NetworkSums) where
  pub loss_is : loss_by s ≡ (s.monitors_c.0 -ℤ s.monitors_g.0) -ℤ (s.members_c.0 -ℤ s.members_g.0)
  unfolding loss_of
  loss_is = rw (whole_is s.monitors_c.0 s.mc.0, whole_is s.monitors_g.0 s.mg.0, whole_is s.members_c.0 s.sc.0, whole_is s.members_g.0 s.sg.0) refl

  -- a loss is far within 64 bits
  pub loss_small : nat_abs (loss_by s) ≤ 4 * sum_limit
  loss_small = omega (arith, ints, loss_is, s.mc, s.mg, s.sc, s.sg)

  -- the charges by the flow reading, by which way the flow goes
  pub flow_in : pos 0 ≤ℤ (s.monitors_c.0 -ℤ s.monitors_g.0) → charges_by flow_reading s ≡ (loss_by s, pos 0)
  flow_in h =
      let low : nat_abs s.monitors_g.0 ≤ nat_abs s.monitors_c.0 = omega (arith, ints, s.mc, s.mg) in
      flow_on_c _ _ _ _ low

  pub flow_out : (s.monitors_c.0 -ℤ s.monitors_g.0) <ℤ pos 0 → charges_by flow_reading s ≡ (pos 0, loss_by s)
  flow_out h =
      let high : nat_abs s.monitors_c.0 < nat_abs s.monitors_g.0 = omega (arith, ints, s.mc, s.mg) in
      flow_on_g _ _ _ _ high

  -- the charges by the sign reading, by the loss
  pub sign_in : pos 0 ≤ℤ loss_by s → charges_by sign_reading s ≡ (loss_by s, pos 0)
  sign_in h = sign_on_c _ _ _ _ h

  pub sign_out : loss_by s <ℤ pos 0 → charges_by sign_reading s ≡ (pos 0, pos 0 -ℤ loss_by s)
  sign_out h =
      let size : pos (nat_abs (loss_by s)) ≡ pos 0 -ℤ loss_by s = omega (arith, ints) in
      sign_on_g _ _ _ _ h ∙ ap (λ (z : ℤ). (pos 0, z)) size

  -- no charge by a rule is beyond what the loss may be
  pub charged_small : (rule : Rule) → Meaning rule → (r : Charges) → Charged rule s r → (nat_abs r.c.0 ≤ 4 * sum_limit) × (nat_abs r.g.0 ≤ 4 * sum_limit)
  charged_small rule meaning r by =
      let both = charge_small (loss_by s) _ (meaning _ _ _ _ (omega (arith, ints, s.mc)) (omega (arith, ints, s.mg)) (omega (arith, ints, s.sc)) (omega (arith, ints, s.sg))) in
      (omega (arith, loss_small, both.0, ap nat_abs by.0), omega (arith, loss_small, both.1, ap nat_abs by.1))
