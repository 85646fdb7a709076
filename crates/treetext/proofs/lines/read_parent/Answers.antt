use Rattle.std.proofs.Common.{◌≡◌, ℕ, List, ◌++◌, drop, take, sym, ap, ◌∙◌, subst}
use Rattle.std.specs.Str.Parse.{AllDigits}
use Rattle.std.proofs.lemmas.Bool.{both_ways}
use Rattle.treetext.specs.Shapes.{digits_ahead, plain, OpensParent}
use Rattle.treetext.proofs.LineShapes.{digits_leading, no_parent, opens_parent}
use Rattle.treetext.proofs.lines.read_parent.Goals as goal
use Rattle.treetext.proofs.lines.read_parent.Goals.{in_default-via-in-Some+else-is_parent, in_default-via-in_default}

-- the part in front of the first byte that is no digit
all_digits : (text digits : List ℕ) (k : ℕ) → digits ≡ take k text → k ≡ digits_ahead text → AllDigits 10 digits
all_digits text digits k front count =
    subst (AllDigits 10) (sym (front ∙ ap (λ (i : ℕ). take i text) count)) (digits_leading text)

pub number-requires-clause-digits : goal.number-requires-clause-digits
number-requires-clause-digits c =
    all_digits c.args.text.now _ _ c.split_at.ensures.front c.digits_ahead.ensures.value

pub returns-in-Some : goal.returns-in-Some
returns-in-Some c =
    let text : List ℕ = c.args.text.now in
    let digits : List ℕ = c.split_at.result.0.now in
    let rest : List ℕ = c.in-Some.rest.now in
    subst (λ n. OpensParent text n rest) (sym c.number.ensures)
    (opens_parent text digits rest (c.split_at.ensures.by_index.0 ∙ ap (λ xs. digits ++ xs) c.in-Some.ensures)
    (all_digits text digits _ c.split_at.ensures.front c.digits_ahead.ensures.value) (sym c.if-is_parent.ensures))

pub returns-in_default : goal.returns-in_default
returns-in_default c =
    let text : List ℕ = c.args.text.now in
    let front : take (digits_ahead text) text ≡ c.split_at.result.0.now =
    sym (c.split_at.ensures.front ∙ ap (λ (i : ℕ). take i text) c.digits_ahead.ensures.value) in
    let back : drop (digits_ahead text) text ≡ c.split_at.result.1.now =
    sym (c.split_at.ensures.back ∙ ap (λ (i : ℕ). drop i text) c.digits_ahead.ensures.value) in
    no_parent text (λ rest feed good. elim c.in_default.branch [
      | in_default-via-in-Some+else-is_parent w ↦ both_ways w.is_parent.result w.if-is_parent.false (w.is_parent.ensures ∙ sym (ap plain front) ∙ good)
      | in_default-via-in_default w ↦ w.in_default.ensures rest (sym back ∙ feed)
    ])
