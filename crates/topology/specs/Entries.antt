-- Entering a point into a draft: what is tested, in order, and what the draft then holds.
use Rattle.std.specs.Prelude.{◌≡◌, ℕ, ◌+◌, List, [], ◌∷◌, ◌++◌, length, Some, None, Option, Result, nat_lt}
use Rattle.terms.specs.Answers.{Answer, gives, refuses, answered, tested}
use Rattle.terms.specs.declared.refusals.Refusal.{Refusal}
use Rattle.points.specs.Classes.{class_by}
use Rattle.points.specs.Rules.{parent_fits, has_room}
use Rattle.points.specs.declared.classes.Class.{Class}
use Rattle.points.specs.declared.classes.Point.{Point}

-- the place of a refused entry is the number that the point would have
abbrev pub place : List Point → List ℕ
place ps = (length ps + 1) ∷ []

-- the tests behind the points ps, by the class that the letter stands for
abbrev pub judged_as : List Point → Option Class → ℕ → Answer Point
judged_as ps None m = refuses 1 (place ps)
judged_as ps (Some c) m =
    tested (nat_lt (length ps) 128) 2 (place ps)
    (tested (parent_fits ps (length ps) c m) 3 (place ps)
    (tested (has_room ps c m) 4 (place ps)
    (gives (record { class = c; parent = m }))))

-- the point that a letter and a parent m make behind the points ps, or the first test that they fail
abbrev pub judged : List Point → ℕ → ℕ → Answer Point
judged ps letter m = judged_as ps (class_by letter) m

-- r answers an entry that was judged so, and after are then the points of the draft
abbrev pub Entered : List Point → Answer Point → Result ℕ Refusal → List Point → Type 0
Entered ps (gives q) r after = (answered r ≡ gives (length ps + 1)) × (after ≡ ps ++ q ∷ [])
Entered ps (refuses n at) r after = (answered r ≡ refuses n at) × (after ≡ ps)
