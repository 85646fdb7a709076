-- A value that is passed from parent to child is settled by its rule: parents are earlier, so that p steps suffice for point p.
use Rattle.std.proofs.Common.{◌≡◌, ℕ, zero, suc, ◌<◌, ◌≤◌, cond, List, [], ◌∷◌, ℤ, pos, sym, refl, ap, ◌∙◌, arith}
use Rattle.terms.specs.declared.channels.Channel.{Channel}
use Rattle.points.specs.Classes.{is_member}
use Rattle.points.specs.Points.{class_of, parent_of, IsPoint}
use Rattle.points.specs.Rules.{Placed}
use Rattle.points.specs.declared.classes.Point.{Point}
use Rattle.points.proofs.Depths.{parent_earlier}
use Rattle.points.proofs.Parents.{from_parents}
use Rattle.shares.specs.Carry.{burden_by, share, borne_in, ByCarryRule}
use Rattle.shares.specs.Hours.{Hour, charge, borne}
use Rattle.shares.specs.Exact.{Fraction, whole, plus, times, participation, exact_burden_by, ByExactRule, exact_in, exact, way_in, way_up}
use Rattle.shares.specs.Laws.{Decided}

-- `rule v p` is p's value by the rule, from the values v; it looks at the value of p's parent alone, where there is
-- one. `found n p` is the same with n steps up.
module _
    {A : Type 0} (ps : List Point) (placed : Placed ps) (rule : (ℕ → A) → ℕ → A) (found : ℕ → ℕ → A)
    (next : (n p : ℕ) → found (suc n) p ≡ rule (found n) p)
    (local : (v w : ℕ → A) (p : ℕ) → (0 < parent_of ps p → v (parent_of ps p) ≡ w (parent_of ps p)) → rule v p ≡ rule w p)
  where
    enough : (n k p : ℕ) → IsPoint ps p → p ≤ n → p ≤ k → found n p ≡ found k p
    enough zero k p at low low' = absurd (omega arith)
    enough (suc n) zero p at low low' = absurd (omega arith)
    enough (suc n) (suc k) p at low low' =
        let earlier : parent_of ps p < p = parent_earlier ps placed p at.0 in
        next n p
        ∙ local (found n) (found k) p (λ some. enough n k (parent_of ps p) (some, omega arith) (omega arith) (omega arith))
        ∙ sym (next k p)

    pub obeys : (p : ℕ) → IsPoint ps p → found p p ≡ rule (λ q. found q q) p
    obeys zero at = absurd (omega arith)
    obeys (suc n) at =
        let earlier : parent_of ps (suc n) < suc n = parent_earlier ps placed (suc n) at.0 in
        next n (suc n)
        ∙ local (found n) (λ q. found q q) (suc n)
        (λ some. enough n (parent_of ps (suc n)) (parent_of ps (suc n)) (some, omega arith) (omega arith) (omega arith))

    pub unique : (v : ℕ → A) → ((p : ℕ) → IsPoint ps p → v p ≡ rule v p) → (p : ℕ) → IsPoint ps p → v p ≡ found p p
    unique v by-rule =
        from_parents ps placed (λ p. v p ≡ found p p)
        (λ p at up.
        let earlier : parent_of ps p < p = parent_earlier ps placed p at.0 in
        by-rule p at ∙ local v (λ q. found q q) p (λ some. up (some, omega arith)) ∙ sym (obeys p at))

-- ---- the rules look at the parent alone

pub burden_same : (chg chg' bears bears' : ℕ → ℤ) (m : ℕ) → chg m ≡ chg' m → (0 < m → bears m ≡ bears' m) → burden_by chg bears m ≡ burden_by chg' bears' m
burden_same chg chg' bears bears' zero e f = e
burden_same chg chg' bears bears' (suc m) e f = cc (f (omega arith))

exact_burden_same : (chg : ℕ → ℤ) (v w : ℕ → Fraction) (m : ℕ) → (0 < m → v m ≡ w m) → exact_burden_by chg v m ≡ exact_burden_by chg w m
exact_burden_same chg v w zero e = refl
exact_burden_same chg v w (suc m) e = ap (plus (chg (suc m))) (e (omega arith))

module _ (ps : List Point) (h : ℕ → ℕ) (chg : ℕ → ℤ) where
  abbrev carry_rule : (ℕ → ℤ) → ℕ → ℤ
  carry_rule v p = cond (is_member (class_of ps p)) (share ps h (parent_of ps p) (burden_by chg v (parent_of ps p)) p) (pos 0)

  carry_local : (v w : ℕ → ℤ) (p : ℕ) → (0 < parent_of ps p → v (parent_of ps p) ≡ w (parent_of ps p)) → carry_rule v p ≡ carry_rule w p
  carry_local v w p e =
      ap (λ (z : ℤ). cond (is_member (class_of ps p)) (share ps h (parent_of ps p) z p) (pos 0)) (burden_same chg chg v w (parent_of ps p) refl e)

  carry_next : (n p : ℕ) → borne_in ps h chg (suc n) p ≡ carry_rule (borne_in ps h chg n) p
  unfolding borne_in
  carry_next n p = refl

  abbrev exact_rule : (ℕ → Fraction) → ℕ → Fraction
  exact_rule v p = cond (is_member (class_of ps p)) (times (exact_burden_by chg v (parent_of ps p)) (participation ps h p)) (whole (pos 0))

  exact_local : (v w : ℕ → Fraction) (p : ℕ) → (0 < parent_of ps p → v (parent_of ps p) ≡ w (parent_of ps p)) → exact_rule v p ≡ exact_rule w p
  exact_local v w p e =
      ap (λ (y : Fraction). cond (is_member (class_of ps p)) (times y (participation ps h p)) (whole (pos 0))) (exact_burden_same chg v w (parent_of ps p) e)

  exact_next : (n p : ℕ) → exact_in ps h chg (suc n) p ≡ exact_rule (exact_in ps h chg n) p
  unfolding exact_in
  exact_next n p = refl

-- ---- of an hour

module _ (x : Hour) (placed : Placed x.points) (c : Channel) where
  pub carried : ByCarryRule x.points (x.values c) (charge x c) (borne x c)
  unfolding borne
  carried =
      obeys x.points placed (carry_rule x.points (x.values c) (charge x c)) (borne_in x.points (x.values c) (charge x c))
      (carry_next x.points (x.values c) (charge x c)) (carry_local x.points (x.values c) (charge x c))

  pub only : (bears : ℕ → ℤ) → ByCarryRule x.points (x.values c) (charge x c) bears → (p : ℕ) → IsPoint x.points p → bears p ≡ borne x c p
  unfolding borne
  only =
      unique x.points placed (carry_rule x.points (x.values c) (charge x c)) (borne_in x.points (x.values c) (charge x c))
      (carry_next x.points (x.values c) (charge x c)) (carry_local x.points (x.values c) (charge x c))

  pub exactly : ByExactRule x.points (x.values c) (charge x c) (exact x c)
  unfolding exact
  exactly =
      obeys x.points placed (exact_rule x.points (x.values c) (charge x c)) (exact_in x.points (x.values c) (charge x c))
      (exact_next x.points (x.values c) (charge x c)) (exact_local x.points (x.values c) (charge x c))

  pub only_exact : (losses : ℕ → Fraction) → ByExactRule x.points (x.values c) (charge x c) losses → (p : ℕ) → IsPoint x.points p → losses p ≡ exact x c p
  unfolding exact
  only_exact =
      unique x.points placed (exact_rule x.points (x.values c) (charge x c)) (exact_in x.points (x.values c) (charge x c))
      (exact_next x.points (x.values c) (charge x c)) (exact_local x.points (x.values c) (charge x c))

pub decided : (x : Hour) → Placed x.points → (c : Channel) → Decided x c
decided x placed c =
    record { carried = carried x placed c; only = only x placed c; exactly = exactly x placed c; only_exact = only_exact x placed c }

-- ---- the members from a point up

abbrev way_from : (ℕ → List ℕ) → ℕ → List ℕ
way_from ways zero = []
way_from ways (suc m) = ways (suc m)

module _ (ps : List Point) where
  abbrev way_rule : (ℕ → List ℕ) → ℕ → List ℕ
  way_rule v p = cond (is_member (class_of ps p)) (p ∷ way_from v (parent_of ps p)) []

  way_from_is : (n m : ℕ) → way_in ps n m ≡ way_from (way_in ps n) m
  unfolding way_in
  way_from_is zero zero = refl
  way_from_is (suc n) zero = refl
  way_from_is n (suc m) = refl

  way_next : (n p : ℕ) → way_in ps (suc n) p ≡ way_rule (way_in ps n) p
  unfolding way_in
  way_next n p = ap (λ (up : List ℕ). cond (is_member (class_of ps p)) (p ∷ up) []) (way_from_is n (parent_of ps p))

  from_same : (v w : ℕ → List ℕ) (m : ℕ) → (0 < m → v m ≡ w m) → way_from v m ≡ way_from w m
  from_same v w zero e = refl
  from_same v w (suc m) e = e (omega arith)

  way_local : (v w : ℕ → List ℕ) (p : ℕ) → (0 < parent_of ps p → v (parent_of ps p) ≡ w (parent_of ps p)) → way_rule v p ≡ way_rule w p
  way_local v w p e = ap (λ (up : List ℕ). cond (is_member (class_of ps p)) (p ∷ up) []) (from_same v w (parent_of ps p) e)

  pub way_top : way_up ps 0 ≡ []
  unfolding way_in
  way_top = refl

  up_from : (m : ℕ) → way_from (way_up ps) m ≡ way_up ps m
  up_from zero = sym way_top
  up_from (suc m) = refl

  pub way_up_is : Placed ps → (p : ℕ) → IsPoint ps p → way_up ps p ≡ cond (is_member (class_of ps p)) (p ∷ way_up ps (parent_of ps p)) []
  way_up_is placed p at =
      obeys ps placed way_rule (way_in ps) way_next way_local p at
      ∙ ap (λ (up : List ℕ). cond (is_member (class_of ps p)) (p ∷ up) []) (up_from (parent_of ps p))
