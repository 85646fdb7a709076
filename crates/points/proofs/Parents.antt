-- What the points of a tree name, and what stands to be said of each point by what holds of its parent.
use Rattle.std.proofs.Common.{◌≡◌, ℕ, zero, suc, ◌<◌, ◌≤◌, Bool, true, false, ◌&&◌, ◌||◌, eqb, leb, List, length, get_or, sym, refl, ap, ◌∙◌, ⊎_elim, arith}
use Rattle.std.proofs.lemmas.Bool.{and_parts, cases_lt, eqb-true, false≢true, or_cases, or_left, or_right}
use Rattle.points.specs.Classes.{is_root, is_member, is_monitor, is_embedded, hosts}
use Rattle.points.specs.Points.{no_point, class_of, parent_of, joins, is_network, IsPoint}
use Rattle.points.specs.Rules.{parent_fits, Placed}
use Rattle.points.specs.declared.classes.Class.{Class}
use Rattle.points.specs.declared.classes.Class.TheVariants.{Root, Member, Monitor, Embedded}
use Rattle.points.specs.declared.classes.Point.{Point}
use Rattle.points.proofs.ByNumber.{point_past}
use Rattle.points.proofs.Depths.{parent_earlier}

-- a class that no root has is a point's
pub is_point : (ps : List Point) (test : Class → Bool) (p : ℕ) → test Root ≡ false → test (class_of ps p) ≡ true → IsPoint ps p
is_point ps test zero none e = absurd (false≢true (sym none ∙ e))
is_point ps test (suc k) none e =
    ⊎_elim
    (λ within. (omega arith, within))
    (λ past. absurd (false≢true (sym none ∙ sym (ap (λ (q : Point). test q.class) (point_past ps (suc k) (omega arith))) ∙ e)))
    (cases_lt k (length ps))

-- a member of network m, by its class and its parent
pub joins_parts : (ps : List Point) (m p : ℕ) → joins ps m p ≡ true → (is_member (class_of ps p) ≡ true) × (parent_of ps p ≡ m)
joins_parts ps m p e =
    let both = and_parts (is_member (class_of ps p)) (eqb (parent_of ps p) m) e in
    (both.0, eqb-true (parent_of ps p) m both.1)

-- ---- what a parent is, by the class that names it

root_fits : (ps : List Point) (n : ℕ) (c : Class) (m : ℕ) → parent_fits ps n c m ≡ true → is_root c ≡ true → m ≡ 0
root_fits ps n Root m h e = eqb-true m 0 h
root_fits ps n Member m h e = absurd (false≢true e)
root_fits ps n Monitor m h e = absurd (false≢true e)
root_fits ps n Embedded m h e = absurd (false≢true e)

member_fits : (ps : List Point) (n : ℕ) (c : Class) (m : ℕ) → parent_fits ps n c m ≡ true → is_member c ≡ true → is_network ps m ≡ true
member_fits ps n c m = by c
  where
    named : (eqb m 0 || (leb m n && is_monitor (class_of ps m))) ≡ true → is_network ps m ≡ true
    named h =
        ⊎_elim
        (λ main. or_left (eqb m 0) (is_monitor (class_of ps m)) main)
        (λ other. or_right (eqb m 0) (is_monitor (class_of ps m)) (and_parts _ _ other).1)
        (or_cases (eqb m 0) _ h)

    by : (c : Class) → parent_fits ps n c m ≡ true → is_member c ≡ true → is_network ps m ≡ true
    by Root h e = absurd (false≢true e)
    by Member h e = named h
    by Monitor h e = named h
    by Embedded h e = absurd (false≢true e)

embedded_fits : (ps : List Point) (n : ℕ) (c : Class) (m : ℕ) → parent_fits ps n c m ≡ true → is_embedded c ≡ true → hosts (class_of ps m) ≡ true
embedded_fits ps n Root m h e = absurd (false≢true e)
embedded_fits ps n Member m h e = absurd (false≢true e)
embedded_fits ps n Monitor m h e = absurd (false≢true e)
embedded_fits ps n Embedded m h e = (and_parts _ _ h).1

module _ (ps : List Point) (placed : Placed ps) where
  -- a root names 0, and so does a number that no point has
  pub root_names : (p : ℕ) → is_root (class_of ps p) ≡ true → parent_of ps p ≡ 0
  root_names zero e = refl
  root_names (suc k) e =
      ⊎_elim
      (λ within. root_fits ps k (get_or ps k no_point).class (get_or ps k no_point).parent (placed k within) e)
      (λ past. ap (λ (q : Point). q.parent) (point_past ps (suc k) (omega arith)))
      (cases_lt k (length ps))

  -- a member names a network
  pub member_names : (p : ℕ) → is_member (class_of ps p) ≡ true → is_network ps (parent_of ps p) ≡ true
  member_names zero e = absurd (false≢true e)
  member_names (suc k) e =
      let at = is_point ps is_member (suc k) refl e in
      member_fits ps k (get_or ps k no_point).class (get_or ps k no_point).parent (placed k (omega arith)) e

  -- an embedded point names a member without a network or another embedded point
  pub embedded_names : (p : ℕ) → is_embedded (class_of ps p) ≡ true → hosts (class_of ps (parent_of ps p)) ≡ true
  embedded_names zero e = absurd (false≢true e)
  embedded_names (suc k) e =
      let at = is_point ps is_embedded (suc k) refl e in
      embedded_fits ps k (get_or ps k no_point).class (get_or ps k no_point).parent (placed k (omega arith)) e

  -- what holds of a point if it holds of its parent holds of every point
  pub from_parents : (P : ℕ → Type 0) → ((p : ℕ) → IsPoint ps p → (IsPoint ps (parent_of ps p) → P (parent_of ps p)) → P p) → (p : ℕ) → IsPoint ps p → P p
  from_parents P step p at = by p p at (omega arith)
    where
      by : (n p : ℕ) → IsPoint ps p → p ≤ n → P p
      by zero p at low = absurd (omega arith)
      by (suc n) p at low =
          let earlier : parent_of ps p < p = parent_earlier ps placed p at.0 in
          step p at (λ up. by n (parent_of ps p) up (omega arith))
