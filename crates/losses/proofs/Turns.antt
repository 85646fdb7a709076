-- One turn of sharing out.
use Rattle.std.proofs.Common.{◌≡◌, ℕ, zero, suc, ◌+◌, ◌*◌, ◌%◌, ◌<◌, ◌≤◌, Bool, true, false, cond, ◌≢◌, List, length, get_or, set, ℤ, pos, nat_abs, sym, refl, ap, ◌∙◌, subst, inl, inr, add-one, arith, get_or-set_other, get_or-set_same, below_more}
use Rattle.std.proofs.lemmas.Bool.{cases_lt}
use Rattle.points.specs.Points.{joins}
use Rattle.points.specs.declared.classes.Point.{Point}
use Rattle.shares.specs.Carry.{carry, quota, share}
use Rattle.shares.specs.Trees.{member_sum}
use Rattle.shares.proofs.Shares.{carry_below}
use Rattle.losses.specs.Sharing.{SharedOut}

-- the points up to i have their shares, the others are as they were, and the carry is that of the rule where there is
-- anything to share by
pub record Sharing (ps : List Point) (h : ℕ → ℕ) (m : ℕ) (z : ℤ) (total : ℕ) (old new : List ℤ) (carried i : ℕ) : Type 0 where
  pub shared : SharedOut ps h m z old new i
  pub others : (k : ℕ) → i ≤ k → get_or new k (pos 0) ≡ get_or old k (pos 0)
  pub some : 0 < total → carried ≡ carry ps h m (nat_abs z) i
  pub none : total ≡ 0 → carried ≡ 0

pub sharing_none : (ps : List Point) (h : ℕ → ℕ) (m : ℕ) (z : ℤ) (total : ℕ) (old : List ℤ) → Sharing ps h m z total old old 0 0
unfolding carry
sharing_none ps h m z total old = record { shared = λ k low. absurd (omega arith); others = λ k high. refl; some = λ _. refl; none = λ _. refl }

-- where nothing is shared the whole to divide does not matter
same_quota : (s : ℕ) (z : ℤ) (t u : ℕ) → (0 < s → t ≡ u) → quota s z t ≡ quota s z u
same_quota zero z t u e = refl
same_quota (suc s) z t u e = ap (quota (suc s) z) (e (omega arith))

module _ (ps : List Point) (h : ℕ → ℕ) (m : ℕ) (z : ℤ) (total : ℕ) (is_sum : total ≡ member_sum ps h m) (old new : List ℤ) (carried i : ℕ) where
  share_is : (0 < total → carried ≡ carry ps h m (nat_abs z) i) → quota total z (nat_abs z * h (suc i) + carried) ≡ share ps h m z (suc i)
  unfolding share
  share_is e =
      same_quota total z (nat_abs z * h (suc i) + carried) (nat_abs z * h (suc i) + carry ps h m (nat_abs z) i) (λ some. ap (λ (c : ℕ). nat_abs z * h (suc i) + c) (e some))
      ∙ ap (λ (s : ℕ). quota s z (nat_abs z * h (suc i) + carry ps h m (nat_abs z) i)) is_sum

  -- the carry behind the next point, by whether it joins the network
  carry_next : (t : Bool) → joins ps m (suc i) ≡ t
      → carry ps h m (nat_abs z) (i + 1) ≡ cond t ((nat_abs z * h (suc i) + carry ps h m (nat_abs z) i) % member_sum ps h m) (carry ps h m (nat_abs z) i)
  unfolding carry
  carry_next t e = rw add-one (ap (λ (b : Bool). cond b ((nat_abs z * h (suc i) + carry ps h m (nat_abs z) i) % member_sum ps h m) (carry ps h m (nat_abs z) i)) e)

  -- the share s and the carry behind it are found by a number v, which is the hour value
  pub share_yes :
      (s : ℤ) (v rest : ℕ) → v ≡ h (suc i) → joins ps m (suc i) ≡ true → i < length new → Sharing ps h m z total old new carried i
      → s ≡ quota total z (nat_abs z * v + carried) → (0 < total → rest ≡ (nat_abs z * v + carried) % total) → (total ≡ 0 → rest ≡ carried)
      → Sharing ps h m z total old (set new i s) rest (i + 1)
  share_yes s v rest v-is joined inside inv s-is rest_is none = record {
    shared = below_more (λ k. get_or (set new i s) k (pos 0) ≡ cond (joins ps m (suc k)) (share ps h m z (suc k)) (get_or old k (pos 0))) i
        (λ k low. let ne : k ≢ i = omega arith in get_or-set_other new i k s (pos 0) ne ∙ inv.shared k low)
        (get_or-set_same new i s (pos 0) inside ∙ s-is ∙ quota_by ∙ share_is inv.some ∙ sym (ap (λ (t : Bool). cond t (share ps h m z (suc i)) (get_or old i (pos 0))) joined));
    others = λ k high. let ne : k ≢ i = omega arith in get_or-set_other new i k s (pos 0) ne ∙ inv.others k (omega arith);
    some = λ is. rest_is is ∙ ap (λ (t : ℕ). t % total) whole ∙ ap (λ (c : ℕ). (nat_abs z * h (suc i) + c) % total) (inv.some is)
        ∙ ap (λ (d : ℕ). (nat_abs z * h (suc i) + carry ps h m (nat_abs z) i) % d) is_sum ∙ sym (carry_next true joined);
    none = λ e. none e ∙ inv.none e;
  }
    where
      whole : nat_abs z * v + carried ≡ nat_abs z * h (suc i) + carried
      whole = cc

      quota_by : quota total z (nat_abs z * v + carried) ≡ quota total z (nat_abs z * h (suc i) + carried)
      quota_by = cc

  pub share_no : joins ps m (suc i) ≡ false → Sharing ps h m z total old new carried i → Sharing ps h m z total old new carried (i + 1)
  share_no apart inv = record {
    shared = below_more (λ k. get_or new k (pos 0) ≡ cond (joins ps m (suc k)) (share ps h m z (suc k)) (get_or old k (pos 0))) i inv.shared
        (inv.others i (omega arith) ∙ sym (ap (λ (t : Bool). cond t (share ps h m z (suc i)) (get_or old i (pos 0))) apart));
    others = λ k high. inv.others k (omega arith);
    some = λ is. inv.some is ∙ sym (carry_next false apart);
    none = inv.none;
  }

  pub carried_small : (bound : ℕ) → total ≤ bound → Sharing ps h m z total old new carried i → carried ≤ bound
  carried_small bound low inv =
      elim (cases_lt 0 total) [
        | inl some ↦
            let some' : 0 < member_sum ps h m = subst (λ (s : ℕ). 0 < s) is_sum some in
            omega (arith, inv.some some, carry_below ps h m (nat_abs z) some' i, is_sum)
        | inr none ↦ let none' : total ≡ 0 = omega arith in omega (arith, inv.none none')
      ]
