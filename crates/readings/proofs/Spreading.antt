-- The parts of an hour's amount add up to it, and none is above the limit of an interval.
use Rattle.std.proofs.Common.{◌≡◌, ℕ, zero, suc, ◌+◌, ◌*◌, ◌/◌, ◌%◌, ◌≤◌, true, eqb, List, get_or, Some, sym, refl, ap, ◌∙◌, subst, add-mul, one-mul, zero-mul, add-one, arith}
use Rattle.std.proofs.lemmas.Bool.{eq-eqb}
use Rattle.terms.specs.Channels.{place_at}
use Rattle.terms.specs.declared.channels.Channel.{Channel}
use Rattle.terms.specs.declared.channels.Channel.TheVariants.{C, G}
use Rattle.readings.specs.Places.{limit, Usable}
use Rattle.readings.specs.Hours.{amount_of, sum_from}
use Rattle.readings.specs.Profiles.{hour_limit, part, on_channel, profile_at, Within, Spread}

-- what a profile has at its own point
own : (point : ℕ) (amounts : List ℕ) (c : Channel) (i : ℕ) → profile_at point amounts (place_at point c i) ≡ Some (on_channel c (part (get_or amounts (i / 12 % 24) 0) (i % 12)))
own point amounts c i = let e : eqb point point ≡ true = eq-eqb point point refl in rw e refl

-- one more part
next : (a k : ℕ) → k * a / 12 + part a k ≡ (k + 1) * a / 12
next a k = let e : (k + 1) * a ≡ k * a + a = add-mul k 1 a ∙ ap (λ x. k * a + x) (one-mul a) in omega arith

module _ (point : ℕ) (amounts : List ℕ) (h : ℕ) where
  so_far : (k : ℕ) → k ≤ 12 → sum_from (profile_at point amounts) point C (12 * h) k ≡ k * get_or amounts (h % 24) 0 / 12
  unfolding sum_from
  so_far zero le = sym (ap (λ x. x / 12) (zero-mul (get_or amounts (h % 24) 0)))
  so_far (suc k) le =
      let a = get_or amounts (h % 24) 0 in
      let hh : (12 * h + k) / 12 ≡ h = omega arith in
      let kk : (12 * h + k) % 12 ≡ k = omega arith in
      let here : amount_of (profile_at point amounts (place_at point C (12 * h + k))) ≡ part a k =
      ap amount_of (own point amounts C (12 * h + k)) ∙ (ap (λ x. part (get_or amounts (x % 24) 0) ((12 * h + k) % 12)) hh ∙ ap (λ x. part a x) kk) in
      let before : sum_from (profile_at point amounts) point C (12 * h) k ≡ k * a / 12 = so_far k (omega arith) in
      let both : k * a / 12 + part a k ≡ (k + 1) * a / 12 = next a k in
      let one : (k + 1) * a / 12 ≡ suc k * a / 12 = ap (λ x. x * a / 12) (add-one k) in
      ap (λ x. x + amount_of (profile_at point amounts (place_at point C (12 * h + k)))) before ∙ (ap (λ x. k * a / 12 + x) here ∙ (both ∙ one))

small : (a k : ℕ) → a ≤ hour_limit → part a k ≤ limit
small a k le = let e : (k + 1) * a ≡ k * a + a = add-mul k 1 a ∙ ap (λ x. k * a + x) (one-mul a) in omega arith

on_channel_small : (c : Channel) (x : ℕ) → x ≤ limit → on_channel c x ≤ limit
on_channel_small C x le = le
on_channel_small G x le = omega arith

-- nothing on channel G
none : (point : ℕ) (amounts : List ℕ) (i k : ℕ) → sum_from (profile_at point amounts) point G i k ≡ 0
unfolding sum_from
none point amounts i zero = refl
none point amounts i (suc k) =
    let before : sum_from (profile_at point amounts) point G i k ≡ 0 = none point amounts i k in
    let here : amount_of (profile_at point amounts (place_at point G (i + k))) ≡ 0 = ap amount_of (own point amounts G (i + k)) in
    omega arith

pub spread : (point : ℕ) (amounts : List ℕ) → Within amounts → Spread point amounts
spread point amounts within = record {
  on_c = λ h. so_far point amounts h 12 (omega arith) ∙ omega arith;
  on_g = λ h. none point amounts (12 * h) 12;
  usable = λ c i. subst Usable (sym (own point amounts c i)) (on_channel_small c _ (small (get_or amounts (i / 12 % 24) 0) (i % 12) (within (i / 12 % 24) (omega arith))));
}
