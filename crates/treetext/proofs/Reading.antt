-- Reading a text line by line.
use Rattle.std.proofs.Common.{◌≡◌, ℕ, List, [], ◌∷◌, ◌++◌, length, get_or, take, Ok, sym, refl, ap, ◌∙◌, subst, ⊎_elim, append_assoc, arith}
use Rattle.std.proofs.lemmas.List.{get_or_append_left, get_or_push, flat_map_more, length_push, take-append-le, take_at}
use Rattle.std.proofs.lemmas.Bool.{cases_lt}
use Rattle.terms.specs.Answers.{Answer, gives, refuses}
use Rattle.points.specs.Points.{no_point}
use Rattle.points.specs.declared.classes.Point.{Point}
use Rattle.topology.specs.Entries.{judged, Entered}
use Rattle.treetext.specs.Shapes.{Opens}
use Rattle.treetext.specs.Text.{line_of, point_line, written, Enter, Passes}
use Rattle.treetext.proofs.Judging.{passed_judged}

-- one point more that passes the tests
enter_push : (ps : List Point) (q : Point) → Enter ps → Passes ps q → Enter (ps ++ q ∷ [])
enter_push ps q before here k h =
    ⊎_elim
    (λ old.
    let item = sym (get_or_append_left ps (q ∷ []) no_point k old) in
    let front = sym (take-append-le k ps (q ∷ []) (omega arith)) in
    subst (Passes (take k (ps ++ q ∷ []))) item
    (subst (λ (xs : List Point). Passes xs (get_or ps k no_point)) front (before k old)))
    (λ new.
    let last : length ps ≡ k = omega (arith, length_push ps q) in
    let item = sym (get_or_push ps q no_point k last) in
    let front = sym (take_at ps (q ∷ []) k last) in
    subst (Passes (take k (ps ++ q ∷ []))) item (subst (λ (xs : List Point). Passes xs q) front here))
    (cases_lt k (length ps))

written_push : (ps : List Point) (q : Point) → written (ps ++ q ∷ []) ≡ written ps ++ point_line q
written_push ps q = sym (flat_map_more point_line [] ps q)

-- what the answer to an entry says of the tests, and of the points then
entered_from : (ps after : List Point) (a : Answer Point) (n : ℕ) → Entered ps a (Ok n) after
    → (q : Point) × (a ≡ gives q) × (after ≡ ps ++ q ∷ [])
entered_from ps after (gives q) n h = (q, refl, h.1)
entered_from ps after (refuses k at) n h = absurd (cc h.0)

-- what has been read of the text: the lines of the points that the draft now holds
pub record SoFar (ps : List Point) (text rest : List ℕ) : Type 0 where
  pub bytes : text ≡ written ps ++ rest
  pub enters : Enter ps

module _ (ps : List Point) (text rest : List ℕ) (s : SoFar ps text rest)
    (letter parent : ℕ) (behind : List ℕ) (line : Opens rest letter parent behind) (after : List Point) where
  pub so_far_more : (n : ℕ) → Entered ps (judged ps letter parent) (Ok n) after → SoFar after text behind
  so_far_more n h =
      let entry = entered_from ps after (judged ps letter parent) n h in
      let q : Point = entry.0 in
      let p = passed_judged ps letter parent q entry.1 in
      let same : point_line q ≡ line_of letter parent =
      ap (λ (l : ℕ). line_of l q.parent) p.letters ∙ ap (line_of letter) p.parents in
      let here : Passes ps q =
      ap (λ (l : ℕ). judged ps l q.parent) p.letters ∙ ap (judged ps letter) p.parents ∙ entry.1 in
      subst (λ (xs : List Point). SoFar xs text behind) (sym entry.2)
      (record {
        bytes =
            s.bytes ∙ ap (λ (xs : List ℕ). written ps ++ xs) line.line
            ∙ ap (λ (xs : List ℕ). written ps ++ (xs ++ behind)) (sym same)
            ∙ sym (append_assoc (written ps) (point_line q) behind)
            ∙ ap (λ (xs : List ℕ). xs ++ behind) (sym (written_push ps q));
        enters = enter_push ps q s.enters here;
      })
