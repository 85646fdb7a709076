-- How far a reading of an hour has come: every earlier place is usable, and the hour values before are filled in.
use Rattle.std.proofs.Common.{◌≡◌, ℕ, zero, suc, ◌+◌, ◌-◌, ◌*◌, ◌<◌, ◌≤◌, ◌≢◌, ◌⊎◌, List, [], ◌∷◌, length, get_or, set, ℤ, pos, Some, None, Option, sym, refl, ap, ◌∙◌, subst, inl, inr, arith, get_or-set_other, get_or-set_same}
use Rattle.std.proofs.lemmas.Bool.{cases_lt}
use Rattle.terms.specs.Answers.{refuses}
use Rattle.terms.specs.Channels.{ordinal, place_at}
use Rattle.terms.specs.declared.channels.Channel.{Channel}
use Rattle.terms.specs.declared.channels.Channel.TheVariants.{C, G}
use Rattle.terms.specs.declared.channels.Place.{Place}
use Rattle.terms.proofs.Places.{same_place}
use Rattle.readings.specs.Hours.{InHour, Before, amount_of, sum_from, hour_sum, slot, Written, Integrated, FirstFault}
use Rattle.readings.specs.Places.{Readings, limit, needed, Usable}

-- every place of the hour that comes before point p, channel m, interval i is usable
abbrev pub Passed : Readings → ℕ → ℕ → ℕ → ℕ → Type 0
Passed at h p m i = (q : Place) → 1 ≤ q.point → 12 * h ≤ q.interval → q.interval < 12 * h + 12 → Before q p m i → Usable (at q)

pub ordinal_below : (c : Channel) → ordinal c < 2
ordinal_below C = omega arith
ordinal_below G = omega arith

pub ordinal_same : (c d : Channel) → ordinal c ≡ ordinal d → c ≡ d
ordinal_same C C e = refl
ordinal_same C G e = absurd (omega arith)
ordinal_same G C e = absurd (omega arith)
ordinal_same G G e = refl

-- the channels in their order
pub ordinal_at : (m : ℕ) → m < 2 → ordinal (get_or (C ∷ G ∷ []) m C) ≡ m
ordinal_at zero h = refl
ordinal_at (suc zero) h = refl
ordinal_at (suc (suc m)) h = absurd (omega arith)

usable_amount : (o : Option ℕ) → Usable o → amount_of o ≤ limit
usable_amount None u = absurd u
usable_amount (Some a) u = u

module _ (at : Readings) (h : ℕ) where
  pub passed_start : (p m i : ℕ) → i ≤ 12 * h → Passed at h p m 0 → Passed at h p m i
  passed_start p m i low old q a b e (inl lt) = old q a b e (inl lt)
  passed_start p m i low old q a b e (inr (same, inl lt)) = old q a b e (inr (same, inl lt))
  passed_start p m i low old q a b e (inr (same, inr (like, lt))) = absurd (omega arith)

  pub passed_place : (p : ℕ) (c : Channel) (m i n : ℕ) → ordinal c ≡ m → n ≡ i + 1 → Usable (at (place_at p c i)) → Passed at h p m i → Passed at h p m n
  passed_place p c m i n o next new old q a b e (inl lt) = old q a b e (inl lt)
  passed_place p c m i n o next new old q a b e (inr (same, inl lt)) = old q a b e (inr (same, inl lt))
  passed_place p c m i n o next new old q a b e (inr (same, inr (like, lt))) = go (cases_lt q.interval i)
    where
      go : (q.interval < i) ⊎ (i ≤ q.interval) → Usable (at q)
      go (inl less) = old q a b e (inr (same, inr (like, less)))
      go (inr more) =
          let jj : q.interval ≡ i = omega arith in
          let dd : q.channel ≡ c = ordinal_same q.channel c (like ∙ sym o) in
          let qq : place_at p c i ≡ q = same_place (place_at p c i) q (sym same) (sym dd) (sym jj) in
          subst (λ x. Usable (at x)) qq new

  pub passed_channel : (p m i : ℕ) → 12 * h + 12 ≤ i → Passed at h p m i → Passed at h p (m + 1) 0
  passed_channel p m i high old q a b e (inl lt) = old q a b e (inl lt)
  passed_channel p m i high old q a b e (inr (same, inl lt)) = go (cases_lt (ordinal q.channel) m)
    where
      go : (ordinal q.channel < m) ⊎ (m ≤ ordinal q.channel) → Usable (at q)
      go (inl less) = old q a b e (inr (same, inl less))
      go (inr more) = old q a b e (inr (same, inr (omega arith, omega arith)))
  passed_channel p m i high old q a b e (inr (same, inr (like, lt))) = absurd (omega arith)

  pub passed_point : (p : ℕ) → Passed at h p 2 0 → Passed at h (p + 1) 0 0
  passed_point p old q a b e (inl lt) = go (cases_lt q.point p)
    where
      go : (q.point < p) ⊎ (p ≤ q.point) → Usable (at q)
      go (inl less) = old q a b e (inl less)
      go (inr more) = old q a b e (inr (omega arith, inl (ordinal_below q.channel)))
  passed_point p old q a b e (inr (same, inl lt)) = absurd (omega arith)
  passed_point p old q a b e (inr (same, inr (like, lt))) = absurd (omega arith)

  pub written_on : (p m : ℕ) (old mid hours : List ℤ) → Written at h old mid p 0 → Written at h mid hours p m → Written at h old hours p m
  written_on p m old mid hours v w = record { sums = w.sums; rest = λ k le. w.rest k le ∙ v.rest k (omega arith) }

  pub written_channel : (p : ℕ) (c : Channel) (m s : ℕ) (old hours : List ℤ) (v : ℤ) → ordinal c ≡ m → 1 ≤ p → s ≡ slot p m → s < length hours → v ≡ pos (hour_sum at p c h) → Written at h old hours p m → Written at h old (set hours s v) p (m + 1)
  written_channel p c m s old hours v o one e lt ev w = record {
    sums = sums;
    rest = λ k le. let ne : k ≢ s = omega arith in get_or-set_other hours s k v (pos 0) ne ∙ w.rest k (omega arith);
  }
    where
      sums : (q : ℕ) (d : Channel) → 1 ≤ q → (q < p) ⊎ ((q ≡ p) × (ordinal d < m + 1)) → get_or (set hours s v) (slot q (ordinal d)) (pos 0) ≡ pos (hour_sum at q d h)
      sums q d a (inl less) =
          let x = ordinal_below d in
          let ne : slot q (ordinal d) ≢ s = omega arith in
          get_or-set_other hours s (slot q (ordinal d)) v (pos 0) ne ∙ w.sums q d a (inl less)
      sums q d a (inr (same, less)) = elim (cases_lt (ordinal d) m) [
        | inl under ↦
            let ne : slot q (ordinal d) ≢ s = omega arith in
            get_or-set_other hours s (slot q (ordinal d)) v (pos 0) ne ∙ w.sums q d a (inr (same, under))
        | inr over ↦
            let dd : d ≡ c = ordinal_same d c (omega arith) in
            let ss : slot q (ordinal d) ≡ s = omega arith in
            ap (λ k. get_or (set hours s v) k (pos 0)) ss ∙ (get_or-set_same hours s v (pos 0) lt ∙ (ev ∙ (ap (λ x. pos (hour_sum at p x h)) (sym dd) ∙ ap (λ x. pos (hour_sum at x d h)) (sym same))))
      ]

  pub written_point : (p : ℕ) (old hours : List ℤ) → 1 ≤ p → Written at h old hours p 2 → Written at h old hours (p + 1) 0
  written_point p old hours one w = record { sums = sums; rest = λ k le. w.rest k (omega arith) }
    where
      sums : (q : ℕ) (d : Channel) → 1 ≤ q → (q < p + 1) ⊎ ((q ≡ p + 1) × (ordinal d < 0)) → get_or hours (slot q (ordinal d)) (pos 0) ≡ pos (hour_sum at q d h)
      sums q d a (inl lt) = elim (cases_lt q p) [ inl less ↦ w.sums q d a (inl less) | inr more ↦ w.sums q d a (inr (omega arith, ordinal_below d)) ]
      sums q d a (inr (same, lt)) = absurd (omega arith)

  -- k usable amounts are at most k times the limit
  sum_bound : (p : ℕ) (c : Channel) (i k : ℕ) → ((j : ℕ) → i ≤ j → j < i + k → Usable (at (place_at p c j))) → sum_from at p c i k ≤ limit * k
  unfolding sum_from
  sum_bound p c i zero u = omega arith
  sum_bound p c i (suc k) u =
      let before : sum_from at p c i k ≤ limit * k = sum_bound p c i k (λ j low high. u j low (omega arith)) in
      let here : amount_of (at (place_at p c (i + k))) ≤ limit = usable_amount (at (place_at p c (i + k))) (u (i + k) (omega arith) (omega arith)) in
      omega arith

  pub all_read : (n p : ℕ) (old hours : List ℤ) → p ≡ n + 1 → Passed at h p 0 0 → Written at h old hours p 0 → Integrated at n h old hours
  all_read n p old hours over past w = record {
    usable = λ q r. past q r.0 r.2 r.3 (inl (omega arith));
    bounded = λ q d low high. sum_bound q d (12 * h) 12 (λ j from to. past (place_at q d j) low from to (inl (omega arith)));
    written = subst (λ x. Written at h old hours x 0) over w;
  }

  pub first_fault : (n p : ℕ) (c : Channel) (m i number : ℕ) (place : List ℕ) (old hours : List ℤ) → ordinal c ≡ m → InHour n h (place_at p c i)
      → refuses number place ≡ needed (at (place_at p c i)) (place_at p c i) → Passed at h p m i → Written at h old hours p m → FirstFault at n h old hours number place
  first_fault n p c m i number place old hours o within faulty past w = record {
    fault = place_at p c i;
    within = within;
    faulty = sym faulty;
    first = λ q r before. past q r.0 r.2 r.3 (subst (λ x. Before q p x i) o before);
    written = subst (λ x. Written at h old hours p x) (sym o) w;
  }

  -- the sum of no amounts, and of one more
  pub sum_none : (p : ℕ) (c : Channel) (i : ℕ) → i ≡ 12 * h → sum_from at p c (12 * h) (i - 12 * h) ≡ 0
  unfolding sum_from
  sum_none p c i e = let none : i - 12 * h ≡ 0 = omega arith in rw none refl

  pub sum_more : (p : ℕ) (c : Channel) (i n a s : ℕ) → n ≡ i + 1 → 12 * h ≤ i → at (place_at p c i) ≡ Some a → s ≡ sum_from at p c (12 * h) (i - 12 * h)
      → s + a ≡ sum_from at p c (12 * h) (n - 12 * h)
  unfolding sum_from
  sum_more p c i n a s more low is before =
      let next : n - 12 * h ≡ suc (i - 12 * h) = omega arith in
      let here : 12 * h + (i - 12 * h) ≡ i = omega arith in
      let new : amount_of (at (place_at p c (12 * h + (i - 12 * h)))) ≡ a = ap (λ j. amount_of (at (place_at p c j))) here ∙ ap amount_of is in
      rw next (omega arith)
