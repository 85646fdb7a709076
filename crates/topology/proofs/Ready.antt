-- Whether every network is ready, from the first that has no member.
use Rattle.std.proofs.Common.{◌≡◌, ℕ, ◌+◌, ◌<◌, ◌≤◌, Bool, true, false, not, if◌then◌else◌, ◌&&◌, ◌||◌, eqb, List, [], ◌∷◌, length, Some, None, Option, MatchOption, refl, sym, ap, ◌∙◌, inl, inr, ⊎_elim, arith}
use Rattle.std.specs.List.{count_by, list_any}
use Rattle.std.proofs.lemmas.Bool.Decides.{nat_tests}
use Rattle.std.proofs.lemmas.List.Sums.{sum_by-cons}
use Rattle.std.proofs.lemmas.Bool.{and_from, and_parts, cases_lt, eq-eqb, eqb-true, false≢true, or_cases}
use Rattle.points.specs.Classes.{is_monitor}
use Rattle.points.specs.Points.{is_network, point, members, roots}
use Rattle.points.specs.Rules.{Complete}
use Rattle.topology.specs.Service.{FirstUnready, Unready}
use Rattle.points.specs.declared.classes.Point.{Point}
use Rattle.points.proofs.ByNumber.{point_past}

-- that none passes is that none is counted
module _ {X : Type 0} (p : X → Bool) where
  none_more : (b some : Bool) (n : ℕ) → not some ≡ eqb n 0 → not (b || some) ≡ eqb ((if b then 1 else 0) + n) 0
  none_more true some n e = grind (arith, nat_tests)
  none_more false some n e = grind (arith, nat_tests)

  pub none_counted : (xs : List X) → not (list_any p xs) ≡ eqb (count_by p xs) 0
  none_counted [] = refl
  none_counted (x ∷ xs) =
      none_more (p x) (list_any p xs) (count_by p xs) (none_counted xs)
      ∙ ap (λ n. eqb n 0) (sym (sum_by-cons (λ y. if p y then 1 else 0) x xs))

-- m is a network without a member
abbrev pub memberless : List Point → ℕ → Bool
memberless ps m = is_network ps m && eqb (members ps m) 0

module _ (ps : List Point) (rooted : roots ps ≡ 0 → ⊥) where
  ready : (m : ℕ) → memberless ps m ≡ false → Unready ps m → ⊥
  ready m has (inl main) = rooted main.1
  ready m has (inr none) = false≢true (sym has ∙ and_from (is_network ps m) (eqb (members ps m) 0) none.0 (eq-eqb (members ps m) 0 none.1))

  -- a network is the main one or a point
  network_within : (m : ℕ) → is_network ps m ≡ true → m ≤ length ps
  network_within m is =
      ⊎_elim
      (λ past. ⊎_elim
      (λ main. omega (arith, eqb-true m 0 main))
      (λ mon. absurd (false≢true (sym (ap (λ (q : Point). is_monitor q.class) (point_past ps m past)) ∙ mon)))
      (or_cases (eqb m 0) (is_monitor (point ps m).class) is))
      (λ within. within)
      (cases_lt (length ps) m)

  -- the first network without a member, looked for among all numbers that a network may have
  pub ready_from : (low high : ℕ) → low ≡ 0 → high ≡ length ps + 1 → (r : Option ℕ)
      → MatchOption r ((k : ℕ) → low ≤ k → k < high → memberless ps k ≡ false)
      (λ m. (low ≤ m) × (m < high) × (memberless ps m ≡ true) × ((k : ℕ) → low ≤ k → k < m → memberless ps k ≡ false))
      → MatchOption r (Complete ps) (FirstUnready ps)
  ready_from low high start end None none = (
    ⊎_elim (λ h. h) (λ none-at-all. absurd (rooted (omega arith))) (cases_lt 0 (roots ps)),
    (λ m is. ⊎_elim (λ h. h)
        (λ lacks. absurd (ready m (none m (omega arith) (omega (arith, network_within m is))) (inr (is, omega arith))))
        (cases_lt 0 (members ps m))),
  )
  ready_from low high start end (Some m) first =
      let both = and_parts (is_network ps m) (eqb (members ps m) 0) first.2 in
      (inr (both.0, eqb-true (members ps m) 0 both.1), (λ k less. ready k (first.3 k (omega arith) less)))
