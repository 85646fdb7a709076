-- What asking for a point by a number tells of the number.
use Rattle.std.proofs.Common.{◌≡◌, ℕ, zero, suc, ◌&&◌, ltb, leb, List, length, Some, None, refl, ap, ◌∙◌, ⊎_elim, arith}
use Rattle.std.proofs.lemmas.Bool.{and_from, and_parts, cases_Bool, cases_lt, cond-true, cond-false, le-leb, leb-true, lt-ltb, ltb-true}
use Rattle.points.specs.Points.{IsPoint, no_point, parent_of, point, point_at}
use Rattle.points.specs.declared.classes.Point.{Point}
use Rattle.points.proofs.ByNumber.{point_past}

pub none_at : (ps : List Point) (p : ℕ) → None ≡ point_at ps p → point ps p ≡ no_point
none_at ps zero e = refl
none_at ps (suc k) e =
    ⊎_elim
    (λ within. let no : ◌≡◌ {A = ℕ} 0 1 = cc (e ∙ cond-true _ (Some (point ps (suc k))) None (and_from _ _ (lt-ltb 0 (suc k) (omega arith)) (le-leb (suc k) (length ps) within))) in absurd (omega (arith, no)))
    (λ past. point_past ps (suc k) (omega arith))
    (cases_lt k (length ps))

pub some_at : (ps : List Point) (p : ℕ) (q : Point) → Some q ≡ point_at ps p → IsPoint ps p × (point ps p ≡ q)
some_at ps p q e =
    ⊎_elim
    (λ yes-it.
    let b = and_parts (ltb 0 p) (leb p (length ps)) yes-it in
    let same : point ps p ≡ q = cc (e ∙ cond-true _ (Some (point ps p)) None yes-it) in
    ((ltb-true 0 p b.0, leb-true p (length ps) b.1), same))
    (λ no-it. let no : ◌≡◌ {A = ℕ} 0 1 = cc (e ∙ cond-false _ (Some (point ps p)) None no-it) in absurd (omega (arith, no)))
    (cases_Bool (ltb 0 p && leb p (length ps)))

-- what a walk up goes to: the parent of the point that was asked for, 0 from a number that no point has
pub parent_some : (ps : List Point) (p : ℕ) (q : Point) → Some q ≡ point_at ps p → parent_of ps p ≡ q.parent
parent_some ps p q e = ap (λ (x : Point). x.parent) (some_at ps p q e).1

pub parent_none : (ps : List Point) (p : ℕ) → None ≡ point_at ps p → parent_of ps p ≡ 0
parent_none ps p e = ap (λ (x : Point). x.parent) (none_at ps p e)
