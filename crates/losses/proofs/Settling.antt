-- Settling one network: its tests, its charges and what it leaves, by the hour that stands among the lent numbers.
use Rattle.std.proofs.Common.{◌≡◌, ℕ, zero, suc, ◌*◌, ◌≤◌, true, leb, List, [], ◌∷◌, ℤ, ◌+ℤ◌, ◌-ℤ◌, nat_abs, sym, refl, ap, ◌∙◌, ⊎_elim, subst, arith}
use Rattle.std.proofs.lemmas.Int.{ints}
use Rattle.std.proofs.lemmas.Bool.{cases_Bool, cond-true, cond-false, leb-true}
use Rattle.terms.specs.Answers.{Answer, gives, refuses, ◌thereafter◌}
use Rattle.terms.specs.Channels.{ordinal}
use Rattle.terms.specs.declared.channels.Channel.{Channel}
use Rattle.terms.specs.declared.channels.Channel.TheVariants.{C, G}
use Rattle.points.specs.Points.{is_network}
use Rattle.shares.specs.Carry.{left_over}
use Rattle.shares.specs.Hours.{Hour, loss, charges, charge, burden, excess_of, unborne_of}
use Rattle.shares.specs.Trees.{member_sum}
use Rattle.shares.specs.Rules.{Rule}
use Rattle.shares.specs.Runs.{burden_limit, burden_test, limit_test, network_tests}
use Rattle.losses.specs.Blocks.{entry}
use Rattle.losses.specs.Charging.{loss_by, charges_by, Charged}
use Rattle.losses.specs.Rounds.{Done}
use Rattle.losses.specs.Metered.{hour_by, SumsAt}
use Rattle.losses.specs.declared.hours.Network.{Network}
use Rattle.losses.specs.declared.rules.Charges.{Charges}
use Rattle.losses.specs.declared.sums.NetworkSums.{NetworkSums}
use Rattle.losses.proofs.Rounds.{burden_entry}

-- ---- the tests of a network, C before G

module _ (x : Hour) (m : ℕ) (network : is_network x.points m ≡ true) where
  in_turn : (c g : Answer (Unit {0})) → c ≡ burden_test x m C → g ≡ burden_test x m G → (c thereafter g) ≡ network_tests x m
  in_turn c g e f =
      ap (λ (a : Answer (Unit {0})). a thereafter g) e ∙ ap (λ (a : Answer (Unit {0})). burden_test x m C thereafter a) f
      ∙ sym (cond-true (is_network x.points m) (burden_test x m C thereafter burden_test x m G) (gives tt) network)

  pub refused_on_c : (n : ℕ) (place : List ℕ) → refuses n place ≡ burden_test x m C → refuses n place ≡ network_tests x m
  refused_on_c n place e = in_turn (refuses n place) (burden_test x m G) e refl

  pub then_on_g : (g : Answer (Unit {0})) → gives tt ≡ burden_test x m C → g ≡ burden_test x m G → g ≡ network_tests x m
  then_on_g g e f = in_turn (gives tt) g e f

-- a burden that passes is within the limit
refuses_not_gives : (n : ℕ) (place : List ℕ) → gives (tt {0}) ≡ refuses n place → ⊥
refuses_not_gives n place e = cc

light_if_passed : (z : ℤ) (m : ℕ) (c : Channel) → gives (tt {0}) ≡ limit_test z m c → nat_abs z ≤ burden_limit
light_if_passed z m c e =
    ⊎_elim
    (λ yes. leb-true (nat_abs z) burden_limit yes)
    (λ no. absurd (refuses_not_gives 10 (m ∷ ordinal c ∷ []) (e ∙ cond-false (leb (nat_abs z) burden_limit) (gives tt) (refuses 10 (m ∷ ordinal c ∷ [])) no)))
    (cases_Bool (leb (nat_abs z) burden_limit))

-- what is unborne is no larger than the burden
left_small : (s : ℕ) (z : ℤ) → nat_abs z ≤ burden_limit → nat_abs (left_over s z) ≤ 1 * burden_limit
left_small zero z h = omega (arith, h)
left_small (suc s) z h = omega (arith, ints)

pub unborne_is : (x : Hour) (c : Channel) (m : ℕ) (z u : ℤ) → z ≡ burden x c m → gives (tt {0}) ≡ limit_test z m c
    → u ≡ left_over (member_sum x.points (x.values c) m) z → (u ≡ unborne_of x c m) × (nat_abs u ≤ 1 * burden_limit)
unfolding unborne_of
unborne_is x c m z u is passed e =
    let s = member_sum x.points (x.values c) m in
    (e ∙ ap (left_over s) is, subst (λ (v : ℤ). nat_abs v ≤ 1 * burden_limit) (sym e) (left_small s z (light_if_passed z m c passed)))

-- ---- charges and loss

-- a charge by its channel
abbrev pub charge_on : Charges → Channel → ℤ
charge_on r C = r.c.0
charge_on r G = r.g.0

-- what a rule gives goes by the four sums alone
by_sums : (rule : Rule) (mc mg sc sg mc' mg' sc' sg' : ℕ) → mc ≡ mc' → mg ≡ mg' → sc ≡ sc' → sg ≡ sg' → rule mc mg sc sg ≡ rule mc' mg' sc' sg'
by_sums rule mc mg sc sg mc' mg' sc' sg' a b c d = cc

module _ (n : Network) (rule : Rule) (s : NetworkSums) (at : SumsAt n s) (r : Charges) (by : Charged rule s r) where
  loss_at : loss_by s ≡ loss (hour_by rule n.hour) n.number
  unfolding loss
  loss_at = rw (ap nat_abs at.monitors_c, ap nat_abs at.monitors_g, ap nat_abs at.members_c, ap nat_abs at.members_g) refl

  -- the rule is asked at the four sums of the network
  asked_at : charges_by rule s ≡ charges (hour_by rule n.hour) n.number
  unfolding charges
  asked_at = by_sums rule _ _ _ _ _ _ _ _ (ap nat_abs at.monitors_c) (ap nat_abs at.monitors_g) (ap nat_abs at.members_c) (ap nat_abs at.members_g)

  -- on either channel the charge is the rule's own
  charge_at : (c : Channel) → charge_on r c ≡ charge (hour_by rule n.hour) c n.number
  unfolding charge
  charge_at C = by.0 ∙ ap (λ (both : ℤ × ℤ). both.0) asked_at
  charge_at G = by.1 ∙ ap (λ (both : ℤ × ℤ). both.1) asked_at

  -- with what the monitor bears it is the burden
  pub burden_at : (c : Channel) (bs : List ℤ) → Done (hour_by rule n.hour) c n.number bs → charge_on r c +ℤ entry bs n.number ≡ burden (hour_by rule n.hour) c n.number
  burden_at c bs done =
      ap (λ (z : ℤ). z +ℤ entry bs n.number) (charge_at c) ∙ burden_entry (hour_by rule n.hour) n.hour.placed c n.number bs n.within n.network done

  pub excess_at : ((r.c.0 +ℤ r.g.0) -ℤ loss_by s) ≡ excess_of (hour_by rule n.hour) n.number
  unfolding excess_of
  excess_at = rw (charge_at C, charge_at G, loss_at) refl
