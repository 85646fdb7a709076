-- The exact loss of a member is command 15 written out: charges times products of participations, added up.
use Rattle.std.proofs.Common.{◌≡◌, ℕ, zero, suc, ◌*◌, ◌<◌, Bool, true, false, cond, eqb, List, [], ◌∷◌, length, ℤ, pos, ◌+ℤ◌, ◌*ℤ◌, sym, refl, ap, ◌∙◌, subst₂, ⊎_elim, arith}
use borrow.Author.Differences.{same_in, ints}
use Rattle.std.proofs.lemmas.Bool.{cond-true, eqb-true, or_cases}
use Rattle.terms.specs.declared.channels.Channel.{Channel}
use Rattle.points.specs.Classes.{is_member, is_monitor}
use Rattle.points.specs.Points.{class_of, parent_of, is_network, depth, IsPoint}
use Rattle.points.specs.Rules.{Placed}
use Rattle.points.specs.declared.classes.Class.{Class}
use Rattle.points.specs.declared.classes.Class.TheVariants.{Root, Member, Monitor, Embedded}
use Rattle.points.specs.declared.classes.Point.{Point}
use Rattle.points.proofs.Depths.{parent_earlier, depth_step}
use Rattle.points.proofs.Parents.{is_point, member_names, from_parents}
use Rattle.shares.specs.Hours.{Hour, charge}
use Rattle.shares.specs.Exact.{Fraction, whole, times, plus, scaled, sum_of, Same, participation, exact_burden_by, ByExactRule, way_up, by_networks, exact, expanded}
use Rattle.shares.specs.Laws.{Expanded}
use Rattle.shares.proofs.Integers.{up-*ℤ, down-*ℤ, up_pos, down_pos, one-*ℤ, *ℤ-+ℤ, +ℤ-*ℤ}
use Rattle.shares.proofs.Passing.{exactly, way_top, way_up_is}

-- ---- one network, without any tree

merged : (z : ℤ) (i j : ℕ) → (z *ℤ pos i) *ℤ pos j ≡ z *ℤ pos (i * j)
merged z i j = same_in ((z *ℤ pos i) *ℤ pos j) (z *ℤ pos (i * j)) (simp (up-*ℤ, down-*ℤ, up_pos, down_pos) (omega arith))

swapped : (a n u : ℤ) → a *ℤ (n *ℤ u) ≡ (a *ℤ u) *ℤ n
swapped a n u = same_in (a *ℤ (n *ℤ u)) ((a *ℤ u) *ℤ n) (simp (up-*ℤ, down-*ℤ) (omega arith))

charged : (c a u : ℤ) (d : ℕ) → a *ℤ ((c *ℤ pos d) *ℤ u) ≡ (c *ℤ (a *ℤ u)) *ℤ pos d
charged c a u d = same_in (a *ℤ ((c *ℤ pos d) *ℤ u)) ((c *ℤ (a *ℤ u)) *ℤ pos d) (simp (up-*ℤ, down-*ℤ, up_pos, down_pos) (omega arith))

-- products of the same factors, where the product is a / b, the participation u / v, the loss above n / d, and the
-- sum so far r / s
charge_factors : (c a u : ℤ) (b d v s : ℕ)
    → ((c *ℤ (a *ℤ u)) *ℤ pos s) *ℤ pos (b * (d * v)) ≡ (a *ℤ ((c *ℤ pos d) *ℤ u)) *ℤ pos ((b * v) * s)
charge_factors c a u b d v s =
    merged (c *ℤ (a *ℤ u)) s (b * (d * v))
    ∙ ap (λ (n : ℕ). (c *ℤ (a *ℤ u)) *ℤ pos n) {x = s * (b * (d * v))} {y = d * ((b * v) * s)} (omega arith)
    ∙ sym (merged (c *ℤ (a *ℤ u)) d ((b * v) * s))
    ∙ ap (λ (z : ℤ). z *ℤ pos ((b * v) * s)) (sym (charged c a u d))

sum_factors : (r : ℤ) (b d v : ℕ) → (r *ℤ pos (b * v)) *ℤ pos (b * (d * v)) ≡ (r *ℤ pos ((b * v) * d)) *ℤ pos (b * v)
sum_factors r b d v =
    merged r (b * v) (b * (d * v)) ∙ ap (λ (n : ℕ). r *ℤ pos n) {x = (b * v) * (b * (d * v))} {y = ((b * v) * d) * (b * v)} (omega arith) ∙ sym (merged r ((b * v) * d) (b * v))

loss_factors : (a u n : ℤ) (b v s : ℕ) → (((a *ℤ u) *ℤ n) *ℤ pos s) *ℤ pos (b * v) ≡ (a *ℤ (n *ℤ u)) *ℤ pos ((b * v) * s)
loss_factors a u n b v s =
    merged ((a *ℤ u) *ℤ n) s (b * v)
    ∙ ap (λ (k : ℕ). ((a *ℤ u) *ℤ n) *ℤ pos k) {x = s * (b * v)} {y = (b * v) * s} (omega arith)
    ∙ ap (λ (z : ℤ). z *ℤ pos ((b * v) * s)) (sym (swapped a n u))

-- If the networks above add up to the product times their loss, so they do with this one.
one_more : (c : ℤ) (product part above rest : Fraction) → Same rest (times (times product part) above)
    → Same (sum_of (scaled c (times product part)) rest) (times product (times (plus c above) part))
one_more c product part above rest h =
    +ℤ-*ℤ ((c *ℤ (product.num *ℤ part.num)) *ℤ pos rest.den) (rest.num *ℤ pos (product.den * part.den)) (pos (product.den * (above.den * part.den)))
    ∙ ap (λ (z : ℤ). z +ℤ ((rest.num *ℤ pos (product.den * part.den)) *ℤ pos (product.den * (above.den * part.den))))
    (charge_factors c product.num part.num product.den above.den part.den rest.den)
    ∙ ap (λ (z : ℤ). ((product.num *ℤ ((c *ℤ pos above.den) *ℤ part.num)) *ℤ pos ((product.den * part.den) * rest.den)) +ℤ z)
    (sum_factors rest.num product.den above.den part.den
    ∙ ap (λ (z : ℤ). z *ℤ pos (product.den * part.den)) h
    ∙ loss_factors product.num part.num above.num product.den part.den rest.den)
    ∙ sym (apart product.num (c *ℤ pos above.den) above.num part.num (pos ((product.den * part.den) * rest.den)))
  where
    apart : (a y n u z : ℤ) → (a *ℤ ((y +ℤ n) *ℤ u)) *ℤ z ≡ ((a *ℤ (y *ℤ u)) *ℤ z) +ℤ ((a *ℤ (n *ℤ u)) *ℤ z)
    apart a y n u z = rw (+ℤ-*ℤ y n u, *ℤ-+ℤ a (y *ℤ u) (n *ℤ u)) (+ℤ-*ℤ (a *ℤ (y *ℤ u)) (a *ℤ (n *ℤ u)) z)

-- with no network there is nothing on either side
none_yet : (product : Fraction) → Same (whole (pos 0)) (times product (whole (pos 0)))
none_yet product = omega (arith, ints)

-- the product begins at 1
from_one : (y z : Fraction) → Same y (times (whole (pos 1)) z) → Same z y
from_one y z h =
    ap (λ (n : ℤ). n *ℤ pos y.den) (sym (one-*ℤ z.num)) ∙ sym h ∙ ap (λ (n : ℕ). y.num *ℤ pos n) {x = 1 * z.den} {y = z.den} (omega arith)

-- ---- along a path

module _ (ps : List Point) (placed : Placed ps) (h : ℕ → ℕ) (chg : ℕ → ℤ) (losses : ℕ → Fraction) (obeyed : ByExactRule ps h chg losses) where
  -- whatever the product so far is, the networks from p up add up to it times the loss of p
  abbrev AddsUp : ℕ → Type 0
  AddsUp p = (product : Fraction) → Same (by_networks ps h chg product (way_up ps p)) (times product (losses p))

  -- so does the network m, with what a member's participation takes of its burden
  with_network : (m : ℕ) → (0 < m → AddsUp m) → (product part : Fraction)
      → Same (sum_of (scaled (chg m) (times product part)) (by_networks ps h chg (times product part) (way_up ps m)))
      (times product (times (exact_burden_by chg losses m) part))
  unfolding by_networks
  with_network zero above product part =
      subst₂ (λ (up : List ℕ) (z : ℤ). Same (sum_of (scaled (chg 0) (times product part)) (by_networks ps h chg (times product part) up)) (times product (times (whole z) part)))
      (sym (way_top ps)) (main (chg 0)) (one_more (chg 0) product part (whole (pos 0)) (whole (pos 0)) (none_yet (times product part)))
    where
      main : (z : ℤ) → (z *ℤ pos 1) +ℤ pos 0 ≡ z
      main z = omega (arith, ints)
  with_network (suc m) above product part =
      one_more (chg (suc m)) product part (losses (suc m)) (by_networks ps h chg (times product part) (way_up ps (suc m))) (above (omega arith) (times product part))

  by_class : (p : ℕ) (t : Bool) → (0 < parent_of ps p → AddsUp (parent_of ps p)) → (product : Fraction)
      → Same (by_networks ps h chg product (cond t (p ∷ way_up ps (parent_of ps p)) [])) (times product (cond t (times (exact_burden_by chg losses (parent_of ps p)) (participation ps h p)) (whole (pos 0))))
  unfolding by_networks
  by_class p true above product = with_network (parent_of ps p) above product (participation ps h p)
  by_class p false above product = none_yet product

  adds_up : (p : ℕ) → IsPoint ps p → AddsUp p
  adds_up =
      from_parents ps placed AddsUp
      (λ p at above product.
      let earlier : parent_of ps p < p = parent_earlier ps placed p at.0 in
      subst₂ (λ (up : List ℕ) (y : Fraction). Same (by_networks ps h chg product up) (times product y)) (sym (way_up_is ps placed p at)) (sym (obeyed p at))
      (by_class p (is_member (class_of ps p)) (λ some. above (some, omega arith)) product))

-- a network other than the main one has a member for its monitor
pub monitor_member : (c : Class) → is_monitor c ≡ true → is_member c ≡ true
monitor_member Root e = e
monitor_member Member e = refl
monitor_member Monitor e = refl
monitor_member Embedded e = e

module _ (ps : List Point) (placed : Placed ps) where
  abbrev Long : ℕ → Type 0
  Long p = is_member (class_of ps p) ≡ true → length (way_up ps p) ≡ depth ps (parent_of ps p)

  above_long : (m : ℕ) → is_network ps m ≡ true → (0 < m → Long m) → suc (length (way_up ps m)) ≡ depth ps m
  above_long zero e named = rw (way_top ps) refl
  above_long (suc m) e named =
      ⊎_elim
      (λ main. absurd (omega (arith, eqb-true (suc m) 0 main)))
      (λ monitor. omega (arith, depth_step ps placed (suc m) (omega arith), named (omega arith) (monitor_member (class_of ps (suc m)) monitor)))
      (or_cases (eqb (suc m) 0) (is_monitor (class_of ps (suc m))) e)

  way_long : (p : ℕ) → IsPoint ps p → Long p
  way_long =
      from_parents ps placed Long
      (λ p at named e.
      let earlier : parent_of ps p < p = parent_earlier ps placed p at.0 in
      let way : way_up ps p ≡ p ∷ way_up ps (parent_of ps p) = way_up_is ps placed p at ∙ cond-true _ _ _ e in
      rw way (above_long (parent_of ps p) (member_names ps placed p e) (λ some. named (some, omega arith))))

pub expanded_so : (x : Hour) → Placed x.points → (c : Channel) → Expanded x c
unfolding expanded
expanded_so x placed c p e =
    let at = is_point x.points is_member p refl e in
    record {
      same = from_one (expanded x c p) (exact x c p) (adds_up x.points placed (x.values c) (charge x c) (exact x c) (exactly x placed c) p at (whole (pos 1)));
      long = way_long x.points placed p at e;
    }
