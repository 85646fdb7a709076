-- What reading a text answers.
use Rattle.std.specs.Prelude.{◌≡◌, ℕ, ◌≤◌, List, length, Ok, Err, Result}
use Rattle.terms.specs.Answers.{gives, refuses}
use Rattle.terms.specs.Refusals.{number_of, place_of}
use Rattle.terms.specs.declared.refusals.Refusal.{Refusal}
use Rattle.points.specs.declared.classes.Point.{Point}
use Rattle.treetext.specs.Text.{DraftRead, LinesRead, TreeRead}
use Rattle.treetext.specs.declared.errors.ReadError.{ReadError}
use Rattle.treetext.specs.declared.errors.ReadError.TheVariants.{OutOfMemory, Refused}

-- r answers lines that were entered into a new draft, and after are its points then
abbrev pub LinesEntered : List ℕ → Result (Unit {0}) Refusal → List Point → Type 0
LinesEntered text (Ok u) after = LinesRead text (gives after)
LinesEntered text (Err e) after = LinesRead text (refuses (number_of e) (place_of e))

-- A text gave no draft: it was read as its refusal, or it is within the length and the draft wants memory.
abbrev pub DraftFailed : List ℕ → ReadError → Type 0
DraftFailed text (Refused e) = DraftRead text (refuses (number_of e) (place_of e))
DraftFailed text (OutOfMemory want) = length text ≤ 4096

-- A text filled no tree: it was answered by its refusal, or it is within the length and the draft wants
-- memory. The tree had the points before, and has the points after.
abbrev pub TreeFailed : List ℕ → ReadError → List Point → List Point → Type 0
TreeFailed text (Refused e) before after = TreeRead text (Err e) before after
TreeFailed text (OutOfMemory want) before after = (length text ≤ 4096) × (after ≡ before)
