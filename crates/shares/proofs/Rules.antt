-- The two supplied readings are loss rules, and no charge is larger than the loss.
use Rattle.std.proofs.Common.{◌≡◌, ℕ, ◌<◌, ◌≤◌, Bool, true, false, cond, leb, ◌⊎◌, ℤ, pos, negsuc, nat_abs, ◌≤ℤ◌, ◌<ℤ◌, refl, ap, inl, inr, ⊎_elim, arith}
use Rattle.std.proofs.lemmas.Int.{ints}
use Rattle.std.proofs.lemmas.Bool.{cond-true, cond-false, le-leb, lt-leb}
use lib.Signed.{non_neg}
use Rattle.shares.specs.Rules.{Charges, Meaning, loss_of, flow_reading, sign_reading}
use Rattle.shares.specs.Laws.{ReadingsAreRules}

flow_by : (l : ℤ) (t : Bool) → Charges l (cond t (l, pos 0) (pos 0, l))
flow_by l true = inl (refl, inl refl)
flow_by l false = inr (refl, inl refl)

sign_by : (l : ℤ) (t : Bool) → Charges l (cond t (l, pos 0) (pos 0, pos (nat_abs l)))
sign_by l true = inl (refl, inl refl)
sign_by l false = inr (refl, inr refl)

pub flow : Meaning flow_reading
unfolding flow_reading
flow mc mg sc sg _ _ _ _ = flow_by (loss_of mc mg sc sg) (leb mg mc)

pub sign : Meaning sign_reading
unfolding sign_reading
sign mc mg sc sg _ _ _ _ = sign_by (loss_of mc mg sc sg) (non_neg (loss_of mc mg sc sg))

-- each reading, by the test that it makes
pub flow_on_c : (mc mg sc sg : ℕ) → mg ≤ mc → flow_reading mc mg sc sg ≡ (loss_of mc mg sc sg, pos 0)
unfolding flow_reading
flow_on_c mc mg sc sg h = cond-true (leb mg mc) _ _ (le-leb mg mc h)

pub flow_on_g : (mc mg sc sg : ℕ) → mc < mg → flow_reading mc mg sc sg ≡ (pos 0, loss_of mc mg sc sg)
unfolding flow_reading
flow_on_g mc mg sc sg h = cond-false (leb mg mc) _ _ (lt-leb mg mc h)

sign_at : (z : ℤ) → pos 0 ≤ℤ z → non_neg z ≡ true
sign_at (pos n) h = refl
sign_at (negsuc n) h = absurd h.le

sign_below : (z : ℤ) → z <ℤ pos 0 → non_neg z ≡ false
sign_below (pos n) h = absurd (omega (arith, ints))
sign_below (negsuc n) h = refl

pub sign_on_c : (mc mg sc sg : ℕ) → pos 0 ≤ℤ loss_of mc mg sc sg → sign_reading mc mg sc sg ≡ (loss_of mc mg sc sg, pos 0)
unfolding sign_reading
sign_on_c mc mg sc sg h = cond-true (non_neg (loss_of mc mg sc sg)) _ _ (sign_at (loss_of mc mg sc sg) h)

pub sign_on_g : (mc mg sc sg : ℕ) → loss_of mc mg sc sg <ℤ pos 0 → sign_reading mc mg sc sg ≡ (pos 0, pos (nat_abs (loss_of mc mg sc sg)))
unfolding sign_reading
sign_on_g mc mg sc sg h = cond-false (non_neg (loss_of mc mg sc sg)) _ _ (sign_below (loss_of mc mg sc sg) h)

pub readings_are_rules : ReadingsAreRules
readings_are_rules = (flow, sign)

-- ---- the size of a charge

small : (l z : ℤ) → (z ≡ l) ⊎ (z ≡ pos (nat_abs l)) → nat_abs z ≤ nat_abs l
small l z e = ⊎_elim (λ h. omega (arith, ap nat_abs h)) (λ h. omega (arith, ap nat_abs h)) e

nothing : (l z : ℤ) → z ≡ pos 0 → nat_abs z ≤ nat_abs l
nothing l z e = omega (arith, ap nat_abs e)

pub charge_small : (l : ℤ) (c : ℤ × ℤ) → Charges l c → (nat_abs c.0 ≤ nat_abs l) × (nat_abs c.1 ≤ nat_abs l)
charge_small l c e =
    ⊎_elim
    (λ on_c. (small l c.0 on_c.1, nothing l c.1 on_c.0))
    (λ on_g. (nothing l c.0 on_g.0, small l c.1 on_g.1))
    e
