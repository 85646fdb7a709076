-- Parents come earlier, so that the way up from any network ends at the main one.
use Rattle.std.proofs.Common.{◌≡◌, ℕ, zero, suc, ◌+◌, ◌<◌, ◌≤◌, true, List, length, get_or, sym, refl, ap, subst, ⊎_elim, arith}
use Rattle.std.proofs.lemmas.List.{get_or_past}
use Rattle.std.proofs.lemmas.Bool.{cases_lt, eq-eqb, ne_eqb}
use Rattle.std.proofs.lemmas.Bool.Decides.{nat_tests}
use Rattle.points.specs.Points.{no_point, parent_of, depth_in, depth}
use Rattle.points.specs.Rules.{parent_fits, Placed}
use Rattle.points.specs.declared.classes.Class.{Class}
use Rattle.points.specs.declared.classes.Class.TheVariants.{Root, Member, Monitor, Embedded}
use Rattle.points.specs.declared.classes.Point.{Point}

-- a parent that fits is 0 or among the points before
pub fits_le : (ps : List Point) (n : ℕ) (c : Class) (m : ℕ) → parent_fits ps n c m ≡ true → m ≤ n
fits_le ps n Root m h = grind (arith, nat_tests)
fits_le ps n Member m h = grind (arith, nat_tests)
fits_le ps n Monitor m h = grind (arith, nat_tests)
fits_le ps n Embedded m h = grind (arith, nat_tests)

pub parent_earlier : (ps : List Point) → Placed ps → (p : ℕ) → 0 < p → parent_of ps p < p
parent_earlier ps placed zero h = absurd (omega arith)
parent_earlier ps placed (suc k) h =
    ⊎_elim
    (λ within. omega (arith, fits_le ps k (get_or ps k no_point).class (get_or ps k no_point).parent (placed k within)))
    (λ past. subst (λ (q : Point). q.parent < suc k) (sym (get_or_past ps k no_point past)) h)
    (cases_lt k (length ps))

-- more steps than the network's number find nothing more
pub depth_steps : (ps : List Point) → Placed ps → (j k m : ℕ) → m ≤ j → m ≤ k → depth_in ps j m ≡ depth_in ps k m
depth_steps ps placed zero zero m hj hk = refl
depth_steps ps placed zero (suc k) m hj hk = rw (eq-eqb m 0 (omega arith)) refl
depth_steps ps placed (suc j) zero m hj hk = rw (eq-eqb m 0 (omega arith)) refl
depth_steps ps placed (suc j) (suc k) m hj hk =
    ⊎_elim
    (λ some. rw (ne_eqb m 0 (λ e. omega arith))
    (ap (λ (d : ℕ). 1 + d) (depth_steps ps placed j k (parent_of ps m)
    (omega (arith, parent_earlier ps placed m some)) (omega (arith, parent_earlier ps placed m some)))))
    (λ none. rw (eq-eqb m 0 (omega arith)) refl)
    (cases_lt 0 m)

-- a network that a point monitors lies one deeper than the network that the point joins
pub depth_step : (ps : List Point) → Placed ps → (m : ℕ) → 0 < m → depth ps m ≡ 1 + depth ps (parent_of ps m)
depth_step ps placed zero h = absurd (omega arith)
depth_step ps placed (suc k) h =
    rw (ne_eqb (suc k) 0 (λ e. omega arith))
    (ap (λ (d : ℕ). 1 + d) (depth_steps ps placed k (parent_of ps (suc k)) (parent_of ps (suc k))
    (omega (arith, parent_earlier ps placed (suc k) h)) (omega arith)))
