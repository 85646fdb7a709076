-- What a member bears is near to its exact loss: at each network on its path the rounding adds less than one.
use Rattle.std.proofs.Common.{◌≡◌, ℕ, zero, suc, pred, ◌+◌, ◌*◌, ◌/◌, ◌<◌, ◌≤◌, Bool, true, false, cond, List, ℤ, pos, negsuc, ◌+ℤ◌, ◌-ℤ◌, ◌*ℤ◌, nat_abs, sym, refl, subst, subst₂, mod-lt, mul-le-mul_left, mul-pos, arith}
use borrow.Author.Differences.{up, down, ints}
use Rattle.terms.specs.declared.channels.Channel.{Channel}
use Rattle.points.specs.Classes.{is_member}
use Rattle.points.specs.Points.{class_of, parent_of, depth, IsPoint}
use Rattle.points.specs.Rules.{Placed}
use Rattle.points.specs.declared.classes.Point.{Point}
use Rattle.points.proofs.Depths.{parent_earlier, depth_step}
use Rattle.points.proofs.Parents.{is_point, from_parents}
use Rattle.shares.specs.Trees.{member_sum}
use Rattle.shares.specs.Carry.{quota, burden_by, carry, share}
use Rattle.shares.specs.Hours.{Hour, charge, borne}
use Rattle.shares.specs.Exact.{Fraction, whole, ratio, plus, times, participation, exact_burden_by, exact}
use Rattle.shares.specs.Laws.{Near}
use Rattle.shares.proofs.Integers.{+ℤ-*ℤ, negℤ-*ℤ}
use Rattle.shares.proofs.Shares.{member_le, carry_below}
use Rattle.shares.proofs.Passing.{carried, exactly}

-- ---- one network, without any tree

-- in natural numbers, each integer as a difference: one sign of the bound
one_side :
    (su sd bu bd nu nd d s m k : ℕ) → 0 < s → m ≤ s → su * s + bd * m < sd * s + bu * m + s → bu * suc d + nd + k ≤ bd * suc d + nu + k * suc d
    → su * (suc d * s) + nd * m + suc k ≤ sd * (suc d * s) + nu * m + suc k * (suc d * s)
one_side su sd bu bd nu nd d s m k some small share_off burden-off =
    omega (arith, mul-le-mul_left (suc d) share_off, mul-le-mul_left m burden-off, mul-le-mul_left (k * d) small, mul-le-mul_left k some)

abs_under : (z : ℤ) (j k : ℕ) → up z + j ≤ down z + k → down z + j ≤ up z + k → nat_abs z + j ≤ k
abs_under z j k h l = omega (arith, ints)

-- Where the share t of the burden b is off by less than one, and b is within k of n / d, then t is within k + 1 of
-- (n * m) / (d * s). `within k` is said as |x| + k ≤ k * d, which is |x| < k * d for k > 0 and x = 0 for k = 0.
one_turn :
    (b n t : ℤ) (d s m k : ℕ) → 0 < d → m ≤ s → nat_abs ((t *ℤ pos s) -ℤ (b *ℤ pos m)) < s → nat_abs ((b *ℤ pos d) -ℤ n) + k ≤ k * d
    → nat_abs ((t *ℤ pos (d * s)) -ℤ (n *ℤ pos m)) + suc k ≤ suc k * (d * s)
one_turn b n t zero s m k some small share_off burden-off = absurd (omega arith)
one_turn b n t (suc d) s m k some small share_off burden-off =
    let h : up t * s + down b * m < down t * s + up b * m + s = omega (arith, ints) in
    let h' : down t * s + up b * m < up t * s + down b * m + s = omega (arith, ints) in
    let l : up b * suc d + down n + k ≤ down b * suc d + up n + k * suc d = omega (arith, ints) in
    let l' : down b * suc d + up n + k ≤ up b * suc d + down n + k * suc d = omega (arith, ints) in
    let r = one_side (up t) (down t) (up b) (down b) (up n) (down n) d s m k (omega arith) small h l in
    let r' = one_side (down t) (up t) (down b) (up b) (down n) (up n) d s m k (omega arith) small h' l' in
    abs_under ((t *ℤ pos (suc d * s)) -ℤ (n *ℤ pos m)) (suc k) (suc k * (suc d * s)) (omega (arith, ints)) (omega (arith, ints))

-- a share by the carry rule is off by less than one
share_off : (b : ℤ) (s m c : ℕ) → c < suc s → nat_abs ((quota (suc s) b (nat_abs b * m + c) *ℤ pos (suc s)) -ℤ (b *ℤ pos m)) < suc s
share_off (pos b) s m c h = omega (arith, ints, mod-lt (b * m + c) {m = suc s} (omega arith))
share_off (negsuc b) s m c h =
    rw (negℤ-*ℤ (pos ((suc b * m + c) / suc s)) (pos (suc s))) (omega (arith, ints, mod-lt (suc b * m + c) {m = suc s} (omega arith)))

-- z is within k of x
abbrev In : ℤ → Fraction → ℕ → Type 0
In z x k = (0 < x.den) × (nat_abs ((z *ℤ pos x.den) -ℤ x.num) + k ≤ k * x.den)

in_zero : (k : ℕ) → In (pos 0) (whole (pos 0)) k
in_zero k = omega arith

-- a charge that is added to both leaves the distance as it was
in_plus : (a z : ℤ) (x : Fraction) (k : ℕ) → In z x k → In (a +ℤ z) (plus a x) k
in_plus a z x k h =
    let e : ((a +ℤ z) *ℤ pos x.den) -ℤ ((a *ℤ pos x.den) +ℤ x.num) ≡ (z *ℤ pos x.den) -ℤ x.num = rw (+ℤ-*ℤ a z (pos x.den)) (omega (arith, ints)) in
    (h.0, subst (λ (y : ℤ). nat_abs y + k ≤ k * x.den) (sym e) h.1)

in_quota : (s : ℕ) (b : ℤ) (x : Fraction) (k m c : ℕ) → m ≤ s → (0 < s → c < s) → In b x k → In (quota s b (nat_abs b * m + c)) (times x (ratio m s)) (suc k)
in_quota zero b x k m c small low h = (omega arith, omega (arith, ints, mul-le-mul_left (suc k) h.0))
in_quota (suc s) b x k m c small low h = (
  mul-pos h.0 (omega arith),
  one_turn b x.num (quota (suc s) b (nat_abs b * m + c)) x.den (suc s) m k h.0 small (share_off b s m c (low (omega arith))) h.1,
)

in_share : (ps : List Point) (h : ℕ → ℕ) (p : ℕ) (b : ℤ) (x : Fraction) (k : ℕ) → is_member (class_of ps p) ≡ true → In b x k
    → In (share ps h (parent_of ps p) b p) (times x (participation ps h p)) (suc k)
unfolding share
in_share ps h p b x k e near =
    in_quota (member_sum ps h (parent_of ps p)) b x k (h p) (carry ps h (parent_of ps p) (nat_abs b) (pred p)) (member_le ps h p e)
    (λ some. carry_below ps h (parent_of ps p) (nat_abs b) some (pred p)) near

-- of a point: no other than a member bears anything
in_point : (ps : List Point) (h : ℕ → ℕ) (p : ℕ) (t : Bool) → is_member (class_of ps p) ≡ t → (b : ℤ) (x : Fraction) (k d : ℕ) → d ≡ suc k → In b x k
    → In (cond t (share ps h (parent_of ps p) b p) (pos 0)) (cond t (times x (participation ps h p)) (whole (pos 0))) d
in_point ps h p true e b x k d one near = rw one (in_share ps h p b x k e near)
in_point ps h p false e b x k d one near = in_zero d

-- ---- along a path

depth_some : (ps : List Point) → Placed ps → (m : ℕ) → 0 < depth ps m
depth_some ps placed zero = omega arith
depth_some ps placed (suc m) = omega (arith, depth_step ps placed (suc m) (omega arith))

module _ (ps : List Point) (placed : Placed ps) (chg bears : ℕ → ℤ) (losses : ℕ → Fraction) where
  -- the burden of a network is within the number of networks above it
  in_burden : (m : ℕ) → (0 < m → In (bears m) (losses m) (depth ps (parent_of ps m)))
      → (k : ℕ) × (depth ps m ≡ suc k) × (In (burden_by chg bears m) (exact_burden_by chg losses m) k)
  in_burden zero named = (0, refl, (omega arith, omega (arith, ints)))
  in_burden (suc m) named = (
    depth ps (parent_of ps (suc m)),
    omega (arith, depth_step ps placed (suc m) (omega arith)),
    in_plus (chg (suc m)) (bears (suc m)) (losses (suc m)) (depth ps (parent_of ps (suc m))) (named (omega arith)),
  )

module _ (x : Hour) (placed : Placed x.points) (c : Channel) where
  within : (p : ℕ) → IsPoint x.points p → In (borne x c p) (exact x c p) (depth x.points (parent_of x.points p))
  within =
      from_parents x.points placed (λ p. In (borne x c p) (exact x c p) (depth x.points (parent_of x.points p)))
      (λ p at named.
      let earlier : parent_of x.points p < p = parent_earlier x.points placed p at.0 in
      let above = in_burden x.points placed (charge x c) (borne x c) (exact x c) (parent_of x.points p) (λ some. named (some, omega arith)) in
      subst₂ (λ (z : ℤ) (y : Fraction). In z y (depth x.points (parent_of x.points p))) (sym (carried x placed c p at)) (sym (exactly x placed c p at))
      (in_point x.points (x.values c) p (is_member (class_of x.points p)) refl
      (burden_by (charge x c) (borne x c) (parent_of x.points p)) (exact_burden_by (charge x c) (exact x c) (parent_of x.points p))
      above.0 (depth x.points (parent_of x.points p)) above.1 above.2))

  pub exact_den : (p : ℕ) → IsPoint x.points p → 0 < (exact x c p).den
  exact_den p at = (within p at).0

  pub near : Near x c
  near p e =
      let h = within p (is_point x.points is_member p refl e) in
      let some : 0 < depth x.points (parent_of x.points p) = depth_some x.points placed (parent_of x.points p) in
      (h.0, omega arith)
