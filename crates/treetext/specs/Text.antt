-- The tree text: a line for each point.
use Rattle.std.specs.Prelude.{◌≡◌, ℕ, ◌+◌, ◌<◌, ◌≤◌, ◌⊎◌, List, [], ◌∷◌, ◌++◌, length, take, Ok, Result, ◌≢◌, slice_index_or}
use Rattle.std.specs.List.{flat_map}
use Rattle.terms.specs.Answers.{Answer, gives, refuses, answered}
use Rattle.terms.specs.declared.refusals.Refusal.{Refusal}
use Rattle.points.specs.Classes.{letter_of, spelled}
use Rattle.points.specs.Points.{no_point}
use Rattle.points.specs.Rules.{Placed, Limited, Complete}
use Rattle.points.specs.declared.classes.Point.{Point}
use Rattle.topology.specs.Entries.{judged}
use Rattle.topology.specs.Service.{Serviced}

-- one byte for the class, a space, the parent in decimal, a line feed
abbrev pub line_of : ℕ → ℕ → List ℕ
line_of letter parent = spelled letter parent ++ (10 ∷ [])

abbrev pub point_line : Point → List ℕ
point_line q = line_of (letter_of q.class) q.parent

-- the text that is written of a list of points
abbrev pub written : List Point → List ℕ
written ps = flat_map point_line ps

-- the text begins with no line: a parent has at most three digits
abbrev pub Shapeless : List ℕ → Type 0
Shapeless text = (letter parent : ℕ) (rest : List ℕ) → parent < 1000 → text ≢ line_of letter parent ++ rest

-- the point q passes the tests of entering behind ps
abbrev pub Passes : List Point → Point → Type 0
Passes ps q = judged ps (letter_of q.class) q.parent ≡ gives q

-- the points can be entered: each passes behind those before it
abbrev pub Enter : List Point → Type 0
Enter ps = (k : ℕ) → k < length ps → Passes (take k ps) (slice_index_or ps k no_point)

-- behind the lines of the points ps, the text begins with a line that earns the refusal n at this place
abbrev pub Faulty : List Point → List ℕ → ℕ → List ℕ → Type 0
Faulty ps text n place =
    ((0 < length text) × Shapeless text × (n ≡ 19) × (place ≡ (length ps + 1) ∷ []))
    ⊎ ((letter : ℕ) × (parent : ℕ) × (rest : List ℕ)
    × (parent < 1000) × (text ≡ line_of letter parent ++ rest) × (judged ps letter parent ≡ refuses n place))

-- What the lines of a text are answered: they are the text of points that can be entered, which the
-- draft then holds, or they begin so, and then comes the first faulty line.
abbrev pub LinesRead : List ℕ → Answer (List Point) → Type 0
LinesRead text (gives ps) = (text ≡ written ps) × Enter ps
LinesRead text (refuses n place) =
    (ps : List Point) × (rest : List ℕ) × (text ≡ written ps ++ rest) × Enter ps × Faulty ps rest n place

-- A text's length is tested first.
abbrev pub TextRead : List ℕ → Answer (List Point) → Type 0
TextRead text a = (4096 < length text → a ≡ refuses 19 (0 ∷ [])) × (length text ≤ 4096 → LinesRead text a)

-- A text was read so: no other answer reads it, and the text of points that a draft may hold is read
-- as just these points.
pub record DraftRead (text : List ℕ) (a : Answer (List Point)) : Type 0 where
  pub read : TextRead text a
  pub only : (b : Answer (List Point)) → TextRead text b → b ≡ a
  pub back : (ps : List Point) → Placed ps → Limited ps → text ≡ written ps → a ≡ gives ps

-- r answers a text that was to fill a tree and was read so; the tree had the points before, and has
-- the points after
abbrev pub ServedAs : Answer (List Point) → Result (Unit {0}) Refusal → List Point → List Point → Type 0
ServedAs (gives ps) r before after = Serviced ps r before after
ServedAs (refuses n place) r before after = (answered r ≡ refuses n place) × (after ≡ before)

-- A text fills a tree: its lines are read, and then the draft goes into service. So the text of the
-- points of a tree in service gives that tree.
pub record TreeRead (text : List ℕ) (r : Result (Unit {0}) Refusal) (before after : List Point) : Type 0 where
  pub lines : Answer (List Point)
  pub read : DraftRead text lines
  pub served : ServedAs lines r before after
  pub back : (ps : List Point) → Placed ps → Limited ps → Complete ps → text ≡ written ps → (r ≡ Ok tt) × (after ≡ ps)
