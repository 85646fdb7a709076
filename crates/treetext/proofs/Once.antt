-- A text reads in one way only.
use Rattle.std.proofs.Common.{◌≡◌, ℕ, suc, ◌<◌, List, [], ◌∷◌, ◌++◌, length, get_or, take, drop, decimal, sym, refl, ap, ◌∙◌, subst, inl, inr, ⊎_elim, append_assoc, arith}
use Rattle.std.proofs.lemmas.Fmt.{decimal_is_IsNumeral, decimal_injective}
use Rattle.std.proofs.lemmas.List.{append-nil, drop_at, take_at}
use Rattle.std.proofs.lemmas.Bool.{cases_lt}
use Rattle.terms.specs.Answers.{Answer, gives, refuses}
use Rattle.points.specs.Classes.{letter_of}
use Rattle.points.specs.Points.{no_point}
use Rattle.topology.specs.Entries.{judged}
use Rattle.treetext.specs.Shapes.{digits_ahead, parent_field}
use Rattle.treetext.specs.Text.{line_of, point_line, written, Faulty, LinesRead, Passes, TextRead}
use Rattle.points.specs.declared.classes.Point.{Point}
use Rattle.treetext.proofs.Judging.{passed_judged, parent_small}
use Rattle.treetext.proofs.LineShapes.{leading_digits}

-- ---- one line is one letter, one parent and one rest

parent_once : (m n : ℕ) (xs ys : List ℕ) → m < 1000 → n < 1000 → parent_field m ++ xs ≡ parent_field n ++ ys → (m ≡ n) × (xs ≡ ys)
parent_once m n xs ys hm hn e =
    let same : decimal m ++ (10 ∷ xs) ≡ decimal n ++ (10 ∷ ys) =
    sym (append_assoc (decimal m) (10 ∷ []) xs) ∙ e ∙ append_assoc (decimal n) (10 ∷ []) ys in
    let long : length (decimal m) ≡ length (decimal n) =
    sym (leading_digits (decimal m) xs (decimal_is_IsNumeral m (omega arith)).0.1) ∙ ap digits_ahead same
    ∙ leading_digits (decimal n) ys (decimal_is_IsNumeral n (omega arith)).0.1 in
    let fronts : decimal m ≡ decimal n =
    sym (take_at (decimal m) (10 ∷ xs) (length (decimal m)) refl) ∙ ap (take (length (decimal m))) same
    ∙ take_at (decimal n) (10 ∷ ys) (length (decimal m)) (sym long) in
    let rests : 10 ∷ xs ≡ 10 ∷ ys =
    sym (drop_at (decimal m) (10 ∷ xs) (length (decimal m)) refl) ∙ ap (drop (length (decimal m))) same
    ∙ drop_at (decimal n) (10 ∷ ys) (length (decimal m)) (sym long) in
    let inner : xs ≡ ys = cc rests in
    (decimal_injective m n (omega arith) (omega arith) fronts, inner)

record SameLine (a m b n : ℕ) (xs ys : List ℕ) : Type 0 where
  letters : a ≡ b
  parents : m ≡ n
  rests : xs ≡ ys

line_once : (a m b n : ℕ) (xs ys : List ℕ) → m < 1000 → n < 1000 → line_of a m ++ xs ≡ line_of b n ++ ys → SameLine a m b n xs ys
line_once a m b n xs ys hm hn e =
    let first : a ≡ b = cc e in
    let behind : parent_field m ++ xs ≡ parent_field n ++ ys = cc e in
    let p = parent_once m n xs ys hm hn behind in
    record { letters = first; parents = p.0; rests = p.1 }

same_judged : (ps : List Point) (a m b n : ℕ) {xs ys : List ℕ} → SameLine a m b n xs ys → judged ps a m ≡ judged ps b n
same_judged ps a m b n l = ap (λ (x : ℕ). judged ps x m) l.letters ∙ ap (judged ps b) l.parents

-- ---- the points before the end, or before the first faulty line, are the same

-- no line that passes follows
abbrev Ends : List Point → List ℕ → Type 0
Ends ps text =
    (letter parent : ℕ) (rest : List ℕ) (q : Point) → parent < 1000 → text ≡ line_of letter parent ++ rest → judged ps letter parent ≡ gives q → ⊥

ends_nil : (ps : List Point) → Ends ps []
ends_nil ps letter parent rest q h e is = cc e

ends_faulty : (ps : List Point) (text : List ℕ) (n : ℕ) (at : List ℕ) → Faulty ps text n at → Ends ps text
ends_faulty ps text n at (inl odd) letter parent rest q h e is = odd.1 letter parent rest h e
ends_faulty ps text n at (inr bad) letter parent rest q h e is =
    let line = line_once letter parent bad.0 bad.1 rest bad.2 h bad.3 (sym e ∙ bad.4) in
    let both : ◌≡◌ {A = Answer Point} (gives q) (refuses n at) = sym is ∙ same_judged ps letter parent bad.0 bad.1 line ∙ bad.5 in cc both

-- the points qs pass behind ps, each behind those before it
abbrev pub Behind : List Point → List Point → Type 0
Behind ps qs = (k : ℕ) → k < length qs → Passes (ps ++ take k qs) (get_or qs k no_point)

-- the first of several points that pass, and the others behind it
pub first_passes : (ps : List Point) (q : Point) (qs : List Point) → Behind ps (q ∷ qs) → Passes ps q
first_passes ps q qs pass = subst (λ (xs : List Point). Passes xs q) (append-nil ps) (pass 0 (omega arith))

pub others_pass : (ps : List Point) (q : Point) (qs : List Point) → Behind ps (q ∷ qs) → Behind (ps ++ q ∷ []) qs
others_pass ps q qs pass k h =
    subst (λ (xs : List Point). Passes xs (get_or qs k no_point)) (sym (append_assoc ps (q ∷ []) (take k qs))) (pass (suc k) (omega arith))

pub passes_small : (ps : List Point) (q : Point) → Passes ps q → q.parent < 1000
passes_small ps q here = parent_small ps (letter_of q.class) q.parent q (passed_judged ps (letter_of q.class) q.parent q here)

-- where no line that passes follows, none passes there
stopped : {X : Type 0} (ps : List Point) (text : List ℕ) (q : Point) (qs : List Point) (rest : List ℕ)
    → Ends (ps ++ []) text → text ≡ written (q ∷ qs) ++ rest → Behind ps (q ∷ qs) → X
stopped ps text q qs rest ends e pass =
    let here = first_passes ps q qs pass in
    absurd (subst (λ (xs : List Point). Ends xs text) (append-nil ps) ends (letter_of q.class) q.parent (written qs ++ rest) q
    (passes_small ps q here) (e ∙ append_assoc (point_line q) (written qs) rest) here)

same_run : (ps g h : List Point) (xs ys : List ℕ) → written g ++ xs ≡ written h ++ ys → Behind ps g → Behind ps h
    → Ends (ps ++ g) xs → Ends (ps ++ h) ys → (g ≡ h) × (xs ≡ ys)
same_run ps [] [] xs ys e pg ph ends ends' = (refl, e)
same_run ps [] (p ∷ h) xs ys e pg ph ends ends' = stopped ps xs p h ys ends e ph
same_run ps (q ∷ g) [] xs ys e pg ph ends ends' = stopped ps ys q g xs ends' (sym e) pg
same_run ps (q ∷ g) (p ∷ h) xs ys e pg ph ends ends' =
    let here = first_passes ps q g pg in
    let there = first_passes ps p h ph in
    let line = line_once (letter_of q.class) q.parent (letter_of p.class) p.parent (written g ++ xs) (written h ++ ys)
    (passes_small ps q here) (passes_small ps p there)
    (sym (append_assoc (point_line q) (written g) xs) ∙ e ∙ append_assoc (point_line p) (written h) ys) in
    let both : ◌≡◌ {A = Answer Point} (gives q) (gives p) =
    sym here ∙ same_judged ps (letter_of q.class) q.parent (letter_of p.class) p.parent line ∙ there in
    let same : p ≡ q = cc both in
    let behind : Behind (ps ++ q ∷ []) h = subst (λ (x : Point). Behind (ps ++ x ∷ []) h) same (others_pass ps p h ph) in
    let ended : Ends ((ps ++ q ∷ []) ++ h) ys =
    subst (λ (qs : List Point). Ends qs ys) (ap (λ (x : Point). ps ++ x ∷ h) same ∙ sym (append_assoc ps (q ∷ []) h)) ends' in
    let more = same_run (ps ++ q ∷ []) g h xs ys line.rests (others_pass ps q g pg) behind
    (subst (λ (qs : List Point). Ends qs xs) (sym (append_assoc ps (q ∷ []) g)) ends) ended in
    (ap (λ (zs : List Point). q ∷ zs) more.0 ∙ ap (λ (x : Point). x ∷ h) (sym same), more.1)

-- ---- one answer

faulty_once : (ps : List Point) (text : List ℕ) (m n : ℕ) (at to : List ℕ) → Faulty ps text m at → Faulty ps text n to → (m ≡ n) × (at ≡ to)
faulty_once ps text m n at to (inl a) (inl b) = (a.2 ∙ sym b.2, a.3 ∙ sym b.3)
faulty_once ps text m n at to (inl a) (inr b) = absurd (a.1 b.0 b.1 b.2 b.3 b.4)
faulty_once ps text m n at to (inr a) (inl b) = absurd (b.1 a.0 a.1 a.2 a.3 a.4)
faulty_once ps text m n at to (inr a) (inr b) =
    let line = line_once a.0 a.1 b.0 b.1 a.2 b.2 a.3 b.3 (sym a.4 ∙ b.4) in
    let both : ◌≡◌ {A = Answer Point} (refuses m at) (refuses n to) =
    sym a.5 ∙ same_judged ps a.0 a.1 b.0 b.1 line ∙ b.5 in
    let numbers : m ≡ n = cc both in
    let places : at ≡ to = cc both in
    (numbers, places)

not_faulty : {X : Type 0} (ps : List Point) (text : List ℕ) (n : ℕ) (at : List ℕ) → [] ≡ text → Faulty ps text n at → X
not_faulty ps text n at e (inl a) = let none : ⊥ = omega (arith, a.0, ap length e) in absurd none
not_faulty ps text n at e (inr a) = absurd (cc (e ∙ a.4))

read_or_not : {X : Type 0} (text : List ℕ) (xs : List Point) (n : ℕ) (at : List ℕ) → LinesRead text (gives xs) → LinesRead text (refuses n at) → X
read_or_not text xs n at a b =
    let run = same_run [] xs b.0 [] b.1 (append-nil _ ∙ sym a.0 ∙ b.2) a.1 b.3 (ends_nil xs) (ends_faulty b.0 b.1 n at b.4) in
    not_faulty b.0 b.1 n at run.1 b.4

lines_once : (text : List ℕ) (a b : Answer (List Point)) → LinesRead text a → LinesRead text b → a ≡ b
lines_once text (gives xs) (gives ys) a b =
    let run = same_run [] xs ys [] [] (append-nil _ ∙ sym a.0 ∙ b.0 ∙ sym (append-nil _)) a.1 b.1 (ends_nil xs) (ends_nil ys) in
    ap gives run.0
lines_once text (gives xs) (refuses n at) a b = read_or_not text xs n at a b
lines_once text (refuses n at) (gives ys) a b = read_or_not text ys n at b a
lines_once text (refuses m at) (refuses n to) a b =
    let run = same_run [] a.0 b.0 a.1 b.1 (sym a.2 ∙ b.2) a.3 b.3
    (ends_faulty a.0 a.1 m at a.4) (ends_faulty b.0 b.1 n to b.4) in
    let moved : Faulty a.0 a.1 n to =
    subst (λ (g : List Point). Faulty g a.1 n to) (sym run.0)
    (subst (λ (xs : List ℕ). Faulty b.0 xs n to) (sym run.1) b.4) in
    let same = faulty_once a.0 a.1 m n at to a.4 moved in
    ap (λ (k : ℕ). refuses k at) same.0 ∙ ap (refuses n) same.1

pub reads_once : (text : List ℕ) (a b : Answer (List Point)) → TextRead text a → TextRead text b → a ≡ b
reads_once text a b ra rb =
    ⊎_elim
    (λ long. ra.0 long ∙ sym (rb.0 long))
    (λ short. lines_once text a b (ra.1 short) (rb.1 short))
    (cases_lt 4096 (length text))
