-- What an integration answers is what the tests of the hour say.
use Rattle.std.proofs.Common.{◌≡◌, ℕ, ◌+◌, ◌-◌, ◌*◌, ◌<◌, ◌≤◌, List, ℤ, Some, None, Option, sym, refl, subst, inl, inr, arith}
use Rattle.std.proofs.lemmas.Bool.{le-leb}
use Rattle.terms.specs.Answers.{Answer, gives, refuses}
use Rattle.terms.specs.Channels.{ordinal, place_at}
use Rattle.terms.specs.declared.channels.Channel.{Channel}
use Rattle.terms.specs.declared.channels.Channel.TheVariants.{C, G}
use Rattle.terms.specs.declared.channels.Place.{Place}
use Rattle.terms.proofs.Orders.{Passes, all_pass, first_refusal}
use Rattle.readings.specs.Hours.{channel_tests, point_tests, hour_tests, HourRead}
use Rattle.readings.specs.Places.{Readings, limit, needed, Usable}

-- a usable place passes its tests
usable_passes : (o : Option ℕ) (p : Place) → Usable o → Passes (needed o p)
usable_passes None p u = u
usable_passes (Some a) p u = rw (le-leb a limit u) tt

module _ (at : Readings) (h : ℕ) where
  -- the twelve intervals of a point on a channel
  Whole : ℕ → Channel → Type 0
  Whole p c = (j : ℕ) → 12 * h ≤ j → j < 12 * h + 12 → Usable (at (place_at p c j))

  channel_passes : (p : ℕ) (c : Channel) → Whole p c → channel_tests at h p c ≡ gives (tt {0})
  unfolding Whole
  channel_passes p c u = all_pass _ 12 (λ k lt. usable_passes (at (place_at p c (12 * h + k))) (place_at p c (12 * h + k)) (u (12 * h + k) (omega arith) (omega arith)))

  point_passes : (p : ℕ) → Whole p C → Whole p G → point_tests at h p ≡ gives (tt {0})
  point_passes p c g = rw (channel_passes p C c) (channel_passes p G g)

  channel_refuses : (p : ℕ) (c : Channel) (i m : ℕ) (place : List ℕ) → 12 * h ≤ i → i < 12 * h + 12
      → ((j : ℕ) → 12 * h ≤ j → j < i → Usable (at (place_at p c j))) → needed (at (place_at p c i)) (place_at p c i) ≡ refuses m place → channel_tests at h p c ≡ refuses m place
  channel_refuses p c i m place low high before faulty =
      let e : 12 * h + (i - 12 * h) ≡ i = omega arith in
      first_refusal _ 12 (i - 12 * h) m place (omega arith)
      (λ k lt. usable_passes (at (place_at p c (12 * h + k))) (place_at p c (12 * h + k)) (before (12 * h + k) (omega arith) (omega arith)))
      (rw e faulty)

  point_refuses : (p : ℕ) (c : Channel) (m : ℕ) (place : List ℕ) → ((d : Channel) → ordinal d < ordinal c → Whole p d) → channel_tests at h p c ≡ refuses m place
      → point_tests at h p ≡ refuses m place
  point_refuses p C m place before e = rw e refl
  point_refuses p G m place before e = rw (channel_passes p C (before C (omega arith))) e

  pub judged : (n : ℕ) (old hours : List ℤ) (a : Answer (Unit {0})) → HourRead at n h old hours a → a ≡ hour_tests at n h
  unfolding hour_tests Whole
  judged n old hours (gives u) r =
      sym (all_pass _ n (λ k lt. subst Passes (sym (point_passes (k + 1)
      (λ j low high. r.usable (place_at (k + 1) C j) (omega arith, omega arith, low, high))
      (λ j low high. r.usable (place_at (k + 1) G j) (omega arith, omega arith, low, high)))) tt))
  judged n old hours (refuses m place) r =
      let p = r.fault.point in
      let c = r.fault.channel in
      let w = r.within in
      let e : p - 1 + 1 ≡ p = omega arith in
      sym (first_refusal _ n (p - 1) m place (omega arith)
      (λ k lt. subst Passes (sym (point_passes (k + 1)
      (λ j low high. r.first (place_at (k + 1) C j) (omega arith, omega arith, low, high) (inl (omega arith)))
      (λ j low high. r.first (place_at (k + 1) G j) (omega arith, omega arith, low, high) (inl (omega arith))))) tt)
      (rw e (point_refuses p c m place
      (λ d lt j low high. r.first (place_at p d j) (w.0, w.1, low, high) (inr (refl, inl lt)))
      (channel_refuses p c r.fault.interval m place w.2 w.3
      (λ j low lt. r.first (place_at p c j) (w.0, w.1, low, omega arith) (inr (refl, inr (refl, lt)))) r.faulty))))
