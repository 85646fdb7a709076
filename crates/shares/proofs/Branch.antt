-- What happens beneath a dependent monitor m changes nothing at the points that are not beneath m.
use Rattle.std.proofs.Common.{◌≡◌, ℕ, zero, suc, pred, ◌+◌, ◌*◌, ◌%◌, ◌<◌, ◌≤◌, Bool, true, false, cond, eqb, List, length, ℤ, pos, nat_abs, sym, refl, ap, ◌∙◌, subst, arith}
use Rattle.std.proofs.lemmas.Bool.{and_parts, eqb-true, false≢true}
use Rattle.terms.specs.declared.channels.Channel.{Channel}
use Rattle.terms.specs.declared.channels.Channel.TheVariants.{C, G}
use Rattle.points.specs.Classes.{is_root, is_member, is_monitor, is_embedded, hosts}
use Rattle.points.specs.Points.{class_of, parent_of, joins, embeds, IsPoint, Beneath, child, deeper}
use Rattle.points.specs.Rules.{Placed}
use Rattle.points.specs.declared.classes.Class.{Class}
use Rattle.points.specs.declared.classes.Class.TheVariants.{Root, Member, Monitor, Embedded}
use Rattle.points.specs.declared.classes.Point.{Point}
use Rattle.points.proofs.Depths.{parent_earlier}
use Rattle.points.proofs.Parents.{is_point, joins_parts, root_names, embedded_names, from_parents}
use Rattle.points.proofs.Upwards.{by_parent}
use Rattle.shares.specs.Trees.{member_sum, monitor_sum, over_embedded}
use Rattle.shares.specs.Carry.{carry, share, burden_by}
use Rattle.shares.specs.Hours.{Hour, charges, charge, borne, adjusted, final}
use Rattle.shares.specs.Laws.{AgreeBeyond, with_values, Comparable}
use Rattle.shares.proofs.Sums.{total_where_same, where_same}
use Rattle.shares.proofs.Passing.{burden_same, carried}

no_host : (c : Class) → is_monitor c ≡ true → hosts c ≡ true → ⊥
no_host Root m h = false≢true m
no_host Member m h = false≢true m
no_host Monitor m h = false≢true h
no_host Embedded m h = false≢true m

module _ (ps : List Point) (placed : Placed ps) (m : ℕ) (monitor : is_monitor (class_of ps m) ≡ true) where
  some_m : 0 < m
  some_m = (is_point ps is_monitor m refl monitor).0

  -- a point whose parent is neither m nor beneath m is not beneath m
  beyond : (q r : ℕ) → parent_of ps q ≡ r → (r ≡ m → ⊥) → (Beneath ps m r → ⊥) → Beneath ps m q → ⊥
  beyond q r e other far b = far (subst (Beneath ps m) e (by_parent ps m q (λ f. other (sym e ∙ f)) b))

  -- ---- on one channel

  module _ (h g : ℕ → ℕ) (agree : (q : ℕ) → IsPoint ps q → (Beneath ps m q → ⊥) → h q ≡ g q) where
    -- of a network r that is neither m's nor beneath m
    module _ (r : ℕ) (other : r ≡ m → ⊥) (far : Beneath ps m r → ⊥) where
      member_same : (q : ℕ) → joins ps r q ≡ true → h q ≡ g q
      member_same q e =
          let parts = joins_parts ps r q e in agree q (is_point ps is_member q refl parts.0) (beyond q r parts.1 other far)

      members_same : member_sum ps h r ≡ member_sum ps g r
      unfolding member_sum
      members_same = total_where_same (length ps) (joins ps r) h g (λ q some low. member_same q)

      carry_same : (b k : ℕ) → carry ps h r b k ≡ carry ps g r b k
      unfolding carry
      carry_same b zero = refl
      carry_same b (suc k) = by_test (joins ps r (suc k)) (member_same (suc k)) (carry_same b k)
        where
          by_test : (t : Bool) → (t ≡ true → h (suc k) ≡ g (suc k)) → carry ps h r b k ≡ carry ps g r b k
              → cond t ((b * h (suc k) + carry ps h r b k) % member_sum ps h r) (carry ps h r b k) ≡ cond t ((b * g (suc k) + carry ps g r b k) % member_sum ps g r) (carry ps g r b k)
          by_test true e front = cc (e refl, members_same)
          by_test false e front = front

      share_same : (z : ℤ) (p : ℕ) → h p ≡ g p → share ps h r z p ≡ share ps g r z p
      unfolding share
      share_same z p e = cc (members_same, carry_same (nat_abs z) (pred p))

    monitors_same : (r : ℕ) → r ≤ length ps → (Beneath ps m r → ⊥) → monitor_sum ps h r ≡ monitor_sum ps g r
    unfolding monitor_sum
    monitors_same zero low far =
        total_where_same (length ps) (λ q. is_root (class_of ps q)) h g
        (λ q some top e. agree q (some, top) (beyond q 0 (root_names ps placed q e) (λ z. omega (arith, some_m)) far))
    monitors_same (suc r) low far = agree (suc r) (omega arith, low) far

-- ---- two hours

module _ (x : Hour) (placed : Placed x.points) (m : ℕ) (monitor : is_monitor (class_of x.points m) ≡ true)
    (w : Channel → ℕ → ℕ) (agree : AgreeBeyond x.points m x.values w)
  where
    abbrev Far : ℕ → Type 0
    Far p = Beneath x.points m p → ⊥

    charges_same : (r : ℕ) → r ≤ length x.points → (r ≡ m → ⊥) → Far r → charges x r ≡ charges (with_values x w) r
    unfolding charges
    charges_same r low other far =
        let mc = monitors_same x.points placed m monitor (x.values C) (w C) (agree C) r low far in
        let mg = monitors_same x.points placed m monitor (x.values G) (w G) (agree G) r low far in
        let sc = members_same x.points placed m monitor (x.values C) (w C) (agree C) r other far in
        let sg = members_same x.points placed m monitor (x.values G) (w G) (agree G) r other far in
        cc

    charge_same : (c : Channel) (r : ℕ) → r ≤ length x.points → (r ≡ m → ⊥) → Far r → charge x c r ≡ charge (with_values x w) c r
    unfolding charge
    charge_same C r low other far = ap (λ (z : ℤ × ℤ). z.0) (charges_same r low other far)
    charge_same G r low other far = ap (λ (z : ℤ × ℤ). z.1) (charges_same r low other far)

    borne_same : (c : Channel) (p : ℕ) → IsPoint x.points p → Far p → borne x c p ≡ borne (with_values x w) c p
    borne_same c =
        from_parents x.points placed (λ p. Far p → borne x c p ≡ borne (with_values x w) c p)
        (λ p at up far.
        let q : ℕ = parent_of x.points p in
        let earlier : parent_of x.points p < p = parent_earlier x.points placed p at.0 in
        let burdens =
        burden_same (charge x c) (charge (with_values x w) c) (borne x c) (borne (with_values x w) c) q
        (charge_same c q (omega arith) (λ e. far (child e)) (λ b. far (deeper b)))
        (λ some. up (some, omega arith) (λ b. far (deeper b))) in
        carried x placed c p at
        ∙ ap (λ (z : ℤ). cond (is_member (class_of x.points p)) z (pos 0))
        (ap (λ (z : ℤ). share x.points (x.values c) q z p) burdens
        ∙ share_same x.points placed m monitor (x.values c) (w c) (agree c) q (λ e. far (child e)) (λ b. far (deeper b))
        (burden_by (charge (with_values x w) c) (borne (with_values x w) c) q) p (agree c p at far))
        ∙ sym (carried (with_values x w) placed c p at))

    adjusted_same : (c : Channel) (p : ℕ) → IsPoint x.points p → Far p → adjusted x c p ≡ adjusted (with_values x w) c p
    unfolding adjusted
    adjusted_same C p at far = cc (agree C p at far, borne_same C p at far)
    adjusted_same G p at far = cc (agree G p at far, borne_same G p at far)

    -- a point that is embedded in one not beneath m is not beneath m either, since nothing is embedded in a monitor
    embedded_far : (p q : ℕ) → Far p → embeds x.points p q ≡ true → Far q
    embedded_far p q far e =
        let parts = and_parts (is_embedded (class_of x.points q)) (eqb (parent_of x.points q) p) e in
        let named : parent_of x.points q ≡ p = eqb-true (parent_of x.points q) p parts.1 in
        let host = embedded_names x.points placed q parts.0 in
        beyond x.points placed m monitor q p named
        (λ same. no_host (class_of x.points m) monitor (subst (λ (n : ℕ). hosts (class_of x.points n) ≡ true) (named ∙ same) host)) far

    final_same : (c : Channel) (p : ℕ) → IsPoint x.points p → Far p → final x c p ≡ final (with_values x w) c p
    unfolding final over_embedded
    final_same c p at far =
        let own = adjusted_same c p at far in
        let others =
        where_same (length x.points) (embeds x.points p) (adjusted x c) (adjusted (with_values x w) c)
        (λ q some low e. adjusted_same c q (some, low) (embedded_far p q far e)) in
        cc

pub comparable : (x : Hour) → Placed x.points → Comparable x
comparable x placed m monitor w agree c p at far = record {
  borne_same = borne_same x placed m monitor w agree c p at far;
  adjusted_same = adjusted_same x placed m monitor w agree c p at far;
  final_same = final_same x placed m monitor w agree c p at far;
}
