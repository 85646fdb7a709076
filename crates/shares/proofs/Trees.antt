-- Sums over a tree can be taken by class, by network and by parent.
use Rattle.std.proofs.Common.{◌≡◌, ℕ, Bool, true, false, cond, ◌&&◌, eqb, List, length, ℤ, pos, ◌+ℤ◌, ◌-ℤ◌, sym, refl, ap, ◌∙◌, ⊎_elim, arith}
use Rattle.std.proofs.lemmas.Int.{ints}
use Rattle.std.proofs.lemmas.Bool.{cond-true, cond-false, eq-eqb, eqb-true, ne_eqb, or_cases, or_right}
use Rattle.points.specs.Classes.{is_member, is_monitor, is_embedded, is_billing, hosts}
use Rattle.points.specs.Points.{class_of, parent_of, joins, embeds, is_network, IsPoint}
use Rattle.points.specs.Rules.{Placed}
use Rattle.points.specs.declared.classes.Class.{Class}
use Rattle.points.specs.declared.classes.Class.TheVariants.{Root, Member, Monitor, Embedded}
use Rattle.points.specs.declared.classes.Point.{Point}
use Rattle.points.proofs.Parents.{is_point, member_names, embedded_names}
use Rattle.shares.specs.Sums.{sum_where}
use Rattle.shares.specs.Trees.{over_class, over_members, over_embedded, over_networks}
use Rattle.shares.proofs.Sums.{sum_to_same, sum_to_add, where_same, where_none, where_add, where_sub, where_either, where_swap, where_one}

-- a member without a network of its own
abbrev pub is_plain : Class → Bool
is_plain Root = false
is_plain Member = true
is_plain Monitor = false
is_plain Embedded = false

-- ---- sums by class

pub class_same : (ps : List Point) (b : Class → Bool) (f g : ℕ → ℤ) → ((p : ℕ) → IsPoint ps p → b (class_of ps p) ≡ true → f p ≡ g p) → over_class ps b f ≡ over_class ps b g
unfolding over_class
class_same ps b f g e = where_same (length ps) _ f g (λ p l r. e p (l, r))

pub class_none : (ps : List Point) (b : Class → Bool) (f : ℕ → ℤ) → ((p : ℕ) → b (class_of ps p) ≡ true → f p ≡ pos 0) → over_class ps b f ≡ pos 0
unfolding over_class
class_none ps b f e = where_none (length ps) _ f e

pub class_add : (ps : List Point) (b : Class → Bool) (f g : ℕ → ℤ) → over_class ps b (λ p. f p +ℤ g p) ≡ over_class ps b f +ℤ over_class ps b g
unfolding over_class
class_add ps b f g = where_add (length ps) _ f g

pub class_sub : (ps : List Point) (b : Class → Bool) (f g : ℕ → ℤ) → over_class ps b (λ p. f p -ℤ g p) ≡ over_class ps b f -ℤ over_class ps b g
unfolding over_class
class_sub ps b f g = where_sub (length ps) _ f g

-- the members are the plain ones and the monitors
pub member_classes : (ps : List Point) (f : ℕ → ℤ) → over_class ps is_member f ≡ over_class ps is_plain f +ℤ over_class ps is_monitor f
unfolding over_class
member_classes ps f = where_either (length ps) _ _ _ f (λ p z. by (class_of ps p) z)
  where
    by : (c : Class) (z : ℤ) → cond (is_member c) z (pos 0) ≡ cond (is_plain c) z (pos 0) +ℤ cond (is_monitor c) z (pos 0)
    by Root z = refl
    by Member z = omega (arith, ints)
    by Monitor z = omega (arith, ints)
    by Embedded z = refl

-- the billing points are the plain members and the embedded points
pub billing_classes : (ps : List Point) (f : ℕ → ℤ) → over_class ps is_billing f ≡ over_class ps is_plain f +ℤ over_class ps is_embedded f
unfolding over_class
billing_classes ps f = where_either (length ps) _ _ _ f (λ p z. by (class_of ps p) z)
  where
    by : (c : Class) (z : ℤ) → cond (is_billing c) z (pos 0) ≡ cond (is_plain c) z (pos 0) +ℤ cond (is_embedded c) z (pos 0)
    by Root z = refl
    by Member z = omega (arith, ints)
    by Monitor z = refl
    by Embedded z = omega (arith, ints)

-- ---- sums by network

pub network_add : (ps : List Point) (f g : ℕ → ℤ) → over_networks ps (λ m. f m +ℤ g m) ≡ over_networks ps f +ℤ over_networks ps g
unfolding over_networks
network_add ps f g = let a = class_add ps is_monitor f g in omega (arith, ints)

pub network_sub : (ps : List Point) (f g : ℕ → ℤ) → over_networks ps (λ m. f m -ℤ g m) ≡ over_networks ps f -ℤ over_networks ps g
unfolding over_networks
network_sub ps f g = let a = class_sub ps is_monitor f g in omega (arith, ints)

pub network_same : (ps : List Point) (f g : ℕ → ℤ) → ((m : ℕ) → is_network ps m ≡ true → f m ≡ g m) → over_networks ps f ≡ over_networks ps g
unfolding over_networks
network_same ps f g e =
    let a = e 0 refl in
    let b = class_same ps is_monitor f g (λ m _ h. e m (or_right (eqb m 0) _ h)) in
    omega (arith, ints)

pub network_none : (ps : List Point) (f : ℕ → ℤ) → ((m : ℕ) → is_network ps m ≡ true → f m ≡ pos 0) → over_networks ps f ≡ pos 0
unfolding over_networks
network_none ps f e =
    let a = e 0 refl in
    let b = class_none ps is_monitor f (λ m h. e m (or_right (eqb m 0) _ h)) in
    omega (arith, ints)

-- p is a member of one network, and counts there alone
in_one : (ps : List Point) → Placed ps → (p : ℕ) (z : ℤ)
    → cond (joins ps 0 p) z (pos 0) +ℤ sum_where (length ps) (λ m. is_monitor (class_of ps m)) (λ m. cond (joins ps m p) z (pos 0)) ≡ cond (is_member (class_of ps p)) z (pos 0)
in_one ps placed p z = by (is_member (class_of ps p)) refl
  where
    monitored : ℕ → Bool
    monitored m = is_monitor (class_of ps m)

    Once : Type 0
    Once = cond (eqb (parent_of ps p) 0) z (pos 0) +ℤ sum_where (length ps) monitored (λ m. cond (eqb (parent_of ps p) m) z (pos 0)) ≡ z

    main : parent_of ps p ≡ 0 → Once
    main e =
        let a = cond-true (eqb (parent_of ps p) 0) z (pos 0) (eq-eqb (parent_of ps p) 0 e) in
        let b = where_none (length ps) monitored (λ m. cond (eqb (parent_of ps p) m) z (pos 0))
        (λ m k. let at = is_point ps is_monitor m refl k in cond-false (eqb (parent_of ps p) m) z (pos 0) (ne_eqb (parent_of ps p) m (λ h. omega arith))) in
        omega (arith, ints)

    own : is_monitor (class_of ps (parent_of ps p)) ≡ true → Once
    own e =
        let at = is_point ps is_monitor (parent_of ps p) refl e in
        let a = cond-false (eqb (parent_of ps p) 0) z (pos 0) (ne_eqb (parent_of ps p) 0 (λ h. omega arith)) in
        let b = where_one (length ps) (parent_of ps p) monitored z at.0 at.1 e in
        omega (arith, ints)

    by : (g : Bool) → is_member (class_of ps p) ≡ g
        → cond (g && eqb (parent_of ps p) 0) z (pos 0) +ℤ sum_where (length ps) monitored (λ m. cond (g && eqb (parent_of ps p) m) z (pos 0)) ≡ cond g z (pos 0)
    by true e = ⊎_elim (λ h. main (eqb-true (parent_of ps p) 0 h)) own (or_cases (eqb (parent_of ps p) 0) _ (member_names ps placed p e))
    by false e = let a = where_none (length ps) monitored (λ m. pos 0) (λ m _. refl) in omega (arith, ints)

pub by_network : (ps : List Point) → Placed ps → (f : ℕ → ℤ) → over_networks ps (λ m. over_members ps m f) ≡ over_class ps is_member f
unfolding over_networks over_members over_class sum_where
by_network ps placed f =
    ap (λ z. sum_where (length ps) (joins ps 0) f +ℤ z) (where_swap (length ps) (length ps) (λ m. is_monitor (class_of ps m)) (joins ps) f)
    ∙ sym (sum_to_add (length ps) _ _)
    ∙ sum_to_same (length ps) _ _ (λ p _ _. in_one ps placed p (f p))

-- ---- sums by parent

-- what an embedded point may name is billed
host_billed : (c : Class) → hosts c ≡ true → is_billing c ≡ true
host_billed Root e = e
host_billed Member e = e
host_billed Monitor e = e
host_billed Embedded e = e

-- q is embedded in one point, and counts there alone
embedded_once : (ps : List Point) → Placed ps → (q : ℕ) (z : ℤ)
    → sum_where (length ps) (λ p. is_billing (class_of ps p)) (λ p. cond (embeds ps p q) z (pos 0)) ≡ cond (is_embedded (class_of ps q)) z (pos 0)
embedded_once ps placed q z = by (is_embedded (class_of ps q)) refl
  where
    billing : ℕ → Bool
    billing p = is_billing (class_of ps p)

    by : (g : Bool) → is_embedded (class_of ps q) ≡ g → sum_where (length ps) billing (λ p. cond (g && eqb (parent_of ps q) p) z (pos 0)) ≡ cond g z (pos 0)
    by true e =
        let up = host_billed (class_of ps (parent_of ps q)) (embedded_names ps placed q e) in
        let at = is_point ps is_billing (parent_of ps q) refl up in
        where_one (length ps) (parent_of ps q) billing z at.0 at.1 up
    by false e = where_none (length ps) billing (λ p. pos 0) (λ p _. refl)

pub by_parent : (ps : List Point) → Placed ps → (f : ℕ → ℤ) → over_class ps is_billing (λ p. over_embedded ps p f) ≡ over_class ps is_embedded f
unfolding over_embedded over_class sum_where
by_parent ps placed f =
    where_swap (length ps) (length ps) (λ p. is_billing (class_of ps p)) (embeds ps) f
    ∙ sum_to_same (length ps) _ _ (λ q _ _. embedded_once ps placed q (f q))
