-- The shares of the members of a network add up to what is borne of its burden.
use Rattle.std.proofs.Common.{◌≡◌, ℕ, zero, suc, pred, ◌+◌, ◌*◌, ◌/◌, ◌%◌, ◌<◌, ◌≤◌, Bool, true, false, cond, eqb, List, length, ℤ, pos, negsuc, ◌+ℤ◌, neg_ℤ, nat_abs, sym, refl, ap, ◌∙◌, ⊎_elim, mul-le-mul_right, mod-lt, div-add-mod', arith}
use lib.Arith.{digits_div, digits_mod}
use Rattle.std.proofs.lemmas.Int.{ints}
use Rattle.std.proofs.lemmas.Bool.{and_from, cases_order, cond-true, eq-eqb}
use Rattle.terms.specs.declared.channels.Channel.{Channel}
use Rattle.points.specs.Classes.{is_member}
use Rattle.points.specs.Points.{class_of, parent_of, joins, IsPoint}
use Rattle.points.specs.declared.classes.Point.{Point}
use Rattle.points.proofs.Parents.{is_point, joins_parts}
use Rattle.shares.specs.Sums.{total, total_where, sum_where}
use Rattle.shares.specs.Trees.{over_members, member_sum}
use Rattle.shares.specs.Carry.{signed, quota, left_over, carry, share, burden_by, ByCarryRule}
use Rattle.shares.specs.Hours.{Hour, charge, borne, burden, unborne_of}
use Rattle.shares.specs.Laws.{AddUp}
use Rattle.shares.proofs.Sums.{le_total_where, where_same, where_none, where_neg, where_pos}

-- a member's hour value is at most the sum of its network
pub member_le : (ps : List Point) (h : ℕ → ℕ) (p : ℕ) → is_member (class_of ps p) ≡ true → h p ≤ member_sum ps h (parent_of ps p)
unfolding member_sum
member_le ps h p e =
    let at : IsPoint ps p = is_point ps is_member p refl e in
    le_total_where (length ps) (joins ps (parent_of ps p)) h p at.0 at.1
    (and_from (is_member (class_of ps p)) (eqb (parent_of ps p) (parent_of ps p)) e (eq-eqb (parent_of ps p) (parent_of ps p) refl))

-- ---- the carry

-- the size of a share
abbrev pub part : List Point → (ℕ → ℕ) → ℕ → ℕ → ℕ → ℕ
part ps h m b p = (b * h p + carry ps h m b (pred p)) / member_sum ps h m

-- The carry is below the members' sum S; and S times the shares so far, with the carry, is b times the hour values so far.
abbrev Carried : List Point → (ℕ → ℕ) → ℕ → ℕ → ℕ → Type 0
Carried ps h m b k =
    (carry ps h m b k < member_sum ps h m)
    × (total_where k (joins ps m) (part ps h m b) * member_sum ps h m + carry ps h m b k ≡ b * total_where k (joins ps m) h)

-- one more point, with hour value a, after the shares q, the carry c and the hour values v: it joins or it does not
turn : (j : Bool) (s b a q c v : ℕ) → 0 < s → (c < s) × (q * s + c ≡ b * v)
    → (cond j ((b * a + c) % s) c < s) × ((q + cond j ((b * a + c) / s) 0) * s + cond j ((b * a + c) % s) c ≡ b * (v + cond j a 0))
turn true s b a q c v p i = let d = div-add-mod' (b * a + c) s in (mod-lt (b * a + c) p, omega arith)
turn false s b a q c v p i = (i.0, omega arith)

-- a quotient is known by its remainder
known : (q b s c : ℕ) → c < s → q * s + c ≡ b * s → q ≡ b
known q b s c l e = ⊎_elim (λ h. h)
    (λ d. ⊎_elim (λ (h : q < b). absurd (omega (arith, mul-le-mul_right s h))) (λ (h : b < q). absurd (omega (arith, mul-le-mul_right s h))) d)
    (cases_order q b)

module _ (ps : List Point) (h : ℕ → ℕ) (m b : ℕ) (some : 0 < member_sum ps h m) where
  carried : (k : ℕ) → Carried ps h m b k
  unfolding total total_where carry
  carried zero = (some, omega arith)
  carried (suc k) = turn (joins ps m (suc k)) (member_sum ps h m) b (h (suc k)) _ (carry ps h m b k) _ some (carried k)

  pub carry_below : (k : ℕ) → carry ps h m b k < member_sum ps h m
  carry_below k = (carried k).0

  -- in closed form: after the points up to k, the carry and the shares are those of b times the hour values so far
  pub carry_is : (k : ℕ) → carry ps h m b k ≡ (b * total_where k (joins ps m) h) % member_sum ps h m
  carry_is k =
      let a = carried k in
      sym (digits_mod (total_where k (joins ps m) (part ps h m b)) a.0) ∙ ap (λ x. x % member_sum ps h m) a.1

  pub parts_are : (k : ℕ) → total_where k (joins ps m) (part ps h m b) ≡ (b * total_where k (joins ps m) h) / member_sum ps h m
  parts_are k =
      let a = carried k in
      sym (digits_div (total_where k (joins ps m) (part ps h m b)) a.0) ∙ ap (λ x. x / member_sum ps h m) a.1

  parts : total_where (length ps) (joins ps m) (part ps h m b) ≡ b
  unfolding member_sum
  parts = let a = carried (length ps) in known _ b (member_sum ps h m) _ a.0 a.1

-- ---- the sign

signed_sum : (n : ℕ) (z : ℤ) (b : ℕ → Bool) (q : ℕ → ℕ) → sum_where n b (λ p. signed z (q p)) ≡ signed z (total_where n b q)
signed_sum n (pos x) b q = where_pos n b q
signed_sum n (negsuc x) b q = where_neg n b (λ p. pos (q p)) ∙ ap neg_ℤ (where_pos n b q)

signed_abs : (z : ℤ) → signed z (nat_abs z) ≡ z
signed_abs (pos x) = refl
signed_abs (negsuc x) = refl

shared : (ps : List Point) (h : ℕ → ℕ) (m : ℕ) (z : ℤ) → over_members ps m (share ps h m z) +ℤ left_over (member_sum ps h m) z ≡ z
unfolding over_members share
shared ps h m z = by (member_sum ps h m) refl
  where
    due : ℕ → ℕ
    due p = nat_abs z * h p + carry ps h m (nat_abs z) (pred p)

    by : (s : ℕ) → member_sum ps h m ≡ s → sum_where (length ps) (joins ps m) (λ p. quota s z (due p)) +ℤ left_over s z ≡ z
    by zero e =
        let none = where_none (length ps) (joins ps m) (λ p. pos 0) (λ p _. refl) in
        omega (arith, ints)
    by (suc s) e =
        let all : total_where (length ps) (joins ps m) (λ p. due p / suc s) ≡ nat_abs z =
        ap (λ (d : ℕ). total_where (length ps) (joins ps m) (λ p. due p / d)) (sym e) ∙ parts ps h m (nat_abs z) (omega arith) in
        let sums = signed_sum (length ps) z (joins ps m) (λ p. due p / suc s) ∙ ap (signed z) all ∙ signed_abs z in
        omega (arith, ints)

-- ---- what is borne

module _ (ps : List Point) (h : ℕ → ℕ) (chg bears : ℕ → ℤ) (rule : ByCarryRule ps h chg bears) (m : ℕ) where
  -- a member bears its share of the burden of its network
  pub bears_share : (p : ℕ) → joins ps m p ≡ true → bears p ≡ share ps h m (burden_by chg bears m) p
  bears_share p j =
      let is = joins_parts ps m p j in
      rule p (is_point ps is_member p refl is.0)
      ∙ cond-true (is_member (class_of ps p)) _ (pos 0) is.0
      ∙ ap (λ (k : ℕ). share ps h k (burden_by chg bears k) p) is.1

  pub shares_on : over_members ps m bears +ℤ left_over (member_sum ps h m) (burden_by chg bears m) ≡ burden_by chg bears m
  unfolding over_members
  shares_on =
      ap (λ z. z +ℤ left_over (member_sum ps h m) (burden_by chg bears m)) (where_same (length ps) (joins ps m) _ _ (λ p _ _ j. bears_share p j))
      ∙ shared ps h m (burden_by chg bears m)

pub add_up : (x : Hour) (c : Channel) → ByCarryRule x.points (x.values c) (charge x c) (borne x c) → AddUp x c
unfolding burden unborne_of
add_up x c rule m _ = shares_on x.points (x.values c) (charge x c) (borne x c) rule m
