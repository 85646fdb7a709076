-- Going into service.
use Rattle.std.specs.Prelude.{◌≡◌, ℕ, ◌<◌, true, ◌⊎◌, List, [], ◌∷◌, Ok, Err, Result}
use Rattle.terms.specs.Answers.{refuses, answered}
use Rattle.terms.specs.Refusals.{first_number, place_of}
use Rattle.terms.specs.declared.refusals.Refusal.{Refusal}
use Rattle.points.specs.Points.{is_network, members, roots}
use Rattle.points.specs.Rules.{Complete}
use Rattle.points.specs.declared.classes.Class.TheVariants.{Root, Member}
use Rattle.points.specs.declared.classes.Point.{Point}

-- the tree before any draft has gone into service
abbrev pub built_in : List Point
built_in = record { class = Root; parent = 0 } ∷ record { class = Member; parent = 0 } ∷ []

-- network m is not ready: it has no member, or it is the main one and there is no root
abbrev pub Unready : List Point → ℕ → Type 0
Unready ps m = ((m ≡ 0) × (roots ps ≡ 0)) ⊎ ((is_network ps m ≡ true) × (members ps m ≡ 0))

-- the first network that is not ready
abbrev pub FirstUnready : List Point → ℕ → Type 0
FirstUnready ps m = Unready ps m × ((k : ℕ) → k < m → Unready ps k → ⊥)

-- r answers a draft with the points ps that was to go into service; the tree had the points before,
-- and has the points after
abbrev pub Serviced : List Point → Result (Unit {0}) Refusal → List Point → List Point → Type 0
Serviced ps (Ok u) before after = Complete ps × (after ≡ ps)
Serviced ps (Err e) before after =
    (answered {T = Unit {0}} (Err e) ≡ refuses 5 (first_number (place_of e) ∷ []))
    × FirstUnready ps (first_number (place_of e)) × (after ≡ before)
