-- The written text of points that a draft may hold reads back as just these points.
use Rattle.std.proofs.Common.{◌≡◌, ℕ, ◌+◌, ◌*◌, ◌<◌, ◌≤◌, Bool, true, cond, ltb, List, [], ◌∷◌, ◌++◌, length, get_or, take, drop, decimal, count_by, Option, sym, refl, ap, ◌∙◌, subst, arith}
use Rattle.std.proofs.lemmas.Fmt.{length-decimal-le}
use Rattle.std.proofs.lemmas.List.{get_or_append_left, length-append, length-take-le, take-append-drop}
use Rattle.std.proofs.lemmas.List.Sums.{count_by_more_yes, sum_by-take-le}
use Rattle.std.proofs.lemmas.Bool.{and_from, eq-eqb, lt-ltb}
use Rattle.terms.specs.Answers.{gives, refuses}
use Rattle.points.specs.Classes.{is_member, is_monitor, is_root}
use Rattle.topology.specs.Entries.{judged_as, place}
use Rattle.points.specs.Points.{no_point, depth, member_of, members}
use Rattle.points.specs.Rules.{has_room, parent_fits, Placed, Limited}
use Rattle.treetext.specs.Text.{Enter, Passes, TextRead, point_line, written}
use Rattle.points.specs.declared.classes.Class.{Class}
use Rattle.points.specs.declared.classes.Class.TheVariants.{Root, Member, Monitor, Embedded}
use Rattle.points.specs.declared.classes.Point.{Point}
use Rattle.points.proofs.Depths.{depth_step, fits_le}
use Rattle.points.proofs.Grows.{depth_before, fits_before}
use Rattle.treetext.proofs.Judging.{class_of_letter}
use Rattle.points.proofs.ByNumber.{point_next}
use Rattle.treetext.proofs.Once.{Behind, first_passes, others_pass, passes_small}

-- the first points of a list that keeps the rules keep them too
placed_front : (ps more : List Point) → Placed (ps ++ more) → Placed ps
placed_front ps more placed k h =
    let here = placed k (omega (arith, length-append ps more)) in
    let same = get_or_append_left ps more no_point k h in
    sym (fits_before ps more k (get_or ps k no_point).class (get_or ps k no_point).parent (omega arith))
    ∙ subst (λ (x : Point). parent_fits (ps ++ more) k x.class x.parent ≡ true) same here

-- the point behind the first k, and what is counted of them
module _ (all : List Point) (placed : Placed all) (limited : Limited all) (k : ℕ) (within : k < length all) where
  abbrev front : List Point
  front = take k all

  abbrev next : Point
  next = get_or all k no_point

  split : front ++ drop k all ≡ all
  split = take-append-drop k all

  front_length : length front ≡ k
  front_length = length-take-le k all (omega arith)

  front_placed : Placed front
  front_placed = placed_front front (drop k all) (subst Placed (sym split) (placed))

  -- a count that the next point adds to is below what it is of all
  counted : (f : Point → Bool) → f next ≡ true → count_by f front < count_by f all
  counted f picks = omega (arith, count_by_more_yes f all k no_point within picks, sum_by-take-le (λ x. cond (f x) 1 0) all (k + 1))

  next_fits : parent_fits front (length front) next.class next.parent ≡ true
  next_fits =
      sym (fits_before front (drop k all) (length front) next.class next.parent (omega arith))
      ∙ ap (λ (xs : List Point). parent_fits xs (length front) next.class next.parent) split
      ∙ ap (λ (n : ℕ). parent_fits all n next.class next.parent) front_length
      ∙ placed k within

  next_shallow : is_monitor next.class ≡ true → depth front next.parent < 4
  next_shallow is =
      let it = point_next all k in
      let deep = limited.3.1 (k + 1) (ap (λ (q : Point). is_monitor q.class) it ∙ is) in
      let up = depth_step all (placed) (k + 1) (omega arith) in
      let named = ap (depth all) (ap (λ (q : Point). q.parent) it) in
      let same = ap (λ (xs : List Point). depth xs next.parent) split in
      let before = depth_before front (drop k all) front_placed next.parent
      (fits_le front (length front) next.class next.parent next_fits) in
      omega arith

  member_room : is_member next.class ≡ true → ltb (members front next.parent) 32 ≡ true
  member_room is =
      lt-ltb _ _
      (omega (
        arith,
        limited.2 next.parent,
        counted (member_of next.parent)
            (and_from _ _ is (eq-eqb next.parent next.parent refl)),
      ))

  room_by : (c : Class) → next.class ≡ c → has_room front c next.parent ≡ true
  room_by Root e =
      lt-ltb _ _ (omega (arith, limited.1, counted (λ q. is_root q.class) (ap is_root e)))
  room_by Member e = member_room (ap is_member e)
  room_by Monitor e =
      and_from _ _
      (and_from _ _ (member_room (ap is_member e))
      (lt-ltb _ _ (omega (arith, limited.3.0, counted (λ q. is_monitor q.class) (ap is_monitor e)))))
      (lt-ltb _ _ (next_shallow (ap is_monitor e)))
  room_by Embedded e = refl

  pub next_passes : Passes front next
  next_passes =
      let small : ltb (length front) 128 ≡ true = lt-ltb _ _ (omega (arith, front_length, limited.0)) in
      let room = room_by next.class refl in
      ap (λ (o : Option Class). judged_as front o next.parent) (class_of_letter next.class)
      ∙ ap (λ (b : Bool). cond b (cond (parent_fits front (length front) next.class next.parent)
      (cond (has_room front next.class next.parent) (gives next) (refuses 4 (place front))) (refuses 3 (place front))) (refuses 2 (place front))) small
      ∙ ap (λ (b : Bool). cond b (cond (has_room front next.class next.parent) (gives next) (refuses 4 (place front))) (refuses 3 (place front))) next_fits
      ∙ ap (λ (b : Bool). cond b (gives next) (refuses 4 (place front))) room

-- a line has at most six bytes
line_short : (q : Point) → q.parent < 1000 → length (point_line q) ≤ 6
line_short q small =
    omega (arith, length-append (decimal q.parent) (10 ∷ []), length-decimal-le 3 q.parent (omega arith) (omega arith) (omega arith))

written_short : (ps qs : List Point) → Behind ps qs → length (written qs) ≤ 6 * length qs
written_short ps [] pass = omega arith
written_short ps (q ∷ qs) pass =
    let here = first_passes ps q qs pass in
    omega (arith, length-append (point_line q) (written qs), line_short q (passes_small ps q here), written_short (ps ++ q ∷ []) qs (others_pass ps q qs pass))

-- so the text is within the length
pub reads_back : (ps : List Point) → Placed ps → Limited ps → TextRead (written ps) (gives ps)
reads_back ps placed limited =
    let enter : Enter ps = next_passes ps placed limited in
    let short = written_short [] ps enter in
    ((λ long. absurd (omega (arith, long, limited.0))), (λ _. (refl, enter)))
