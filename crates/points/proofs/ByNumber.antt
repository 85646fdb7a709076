-- A point by its number, and by its place in the list.
use Rattle.std.proofs.Common.{◌≡◌, ℕ, zero, suc, ◌+◌, ◌-◌, ◌<◌, ◌≤◌, List, [], ◌∷◌, ◌++◌, length, get_or, refl, ap, ◌∙◌, add-one, arith}
use Rattle.std.proofs.lemmas.List.{get_or_past, get_or_append_left, get_or_push}
use Rattle.points.specs.Points.{no_point, parent_of, point}
use Rattle.points.specs.declared.classes.Point.{Point}

-- the point at place k has the number k + 1
pub point_next : (ps : List Point) (k : ℕ) → point ps (k + 1) ≡ get_or ps k no_point
point_next ps k = ap (point ps) (add-one k)

pub point_at_is : (ps : List Point) (p : ℕ) → 0 < p → point ps p ≡ get_or ps (p - 1) no_point
point_at_is ps zero h = absurd (omega arith)
point_at_is ps (suc k) h = ap (λ (i : ℕ). get_or ps i no_point) (omega arith)

pub parent_at : (ps : List Point) (p : ℕ) → 0 < p → parent_of ps p ≡ (get_or ps (p - 1) no_point).parent
parent_at ps p h = ap (λ (q : Point). q.parent) (point_at_is ps p h)

pub point_past : (ps : List Point) (p : ℕ) → length ps < p → point ps p ≡ no_point
point_past ps zero h = refl
point_past ps (suc k) h = get_or_past ps k no_point (omega arith)

-- points that come behind change none of those before
pub point_before : (ps more : List Point) (p : ℕ) → p ≤ length ps → point (ps ++ more) p ≡ point ps p
point_before ps more zero h = refl
point_before ps more (suc k) h = get_or_append_left ps more no_point k (omega arith)

pub point_last : (ps : List Point) (q : Point) → point (ps ++ q ∷ []) (length ps + 1) ≡ q
point_last ps q = point_next (ps ++ q ∷ []) (length ps) ∙ get_or_push ps q no_point (length ps) refl
