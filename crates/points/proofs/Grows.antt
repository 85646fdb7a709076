-- Points that come behind change nothing for those before, and a point that passes every test keeps
-- the rules and limits.
use Rattle.std.proofs.Common.{◌≡◌, ℕ, zero, suc, ◌+◌, ◌<◌, ◌≤◌, Bool, true, false, cond, ◌&&◌, ◌||◌, eqb, leb, List, [], ◌∷◌, ◌++◌, length, get_or, count_by, sym, refl, ap, ◌∙◌, subst, ⊎_elim, arith}
use Rattle.std.proofs.lemmas.List.{get_or_append_left, get_or_push, length_push}
use Rattle.std.proofs.lemmas.List.Sums.{sum_by_push}
use Rattle.std.proofs.lemmas.Bool.{cases_lt, cases_Bool, eq-eqb, and_parts, eqb-true, leb-true, ltb-true, false≢true}
use Rattle.points.specs.Classes.{is_root, is_member, is_monitor, hosts}
use Rattle.points.specs.Points.{member_of, no_point, point, class_of, parent_of, roots, members, networks, depth_in, depth}
use Rattle.points.specs.Rules.{parent_fits, has_room, Placed, Limited, Shallow}
use Rattle.points.specs.declared.classes.Class.{Class}
use Rattle.points.specs.declared.classes.Class.TheVariants.{Root, Member, Monitor, Embedded}
use Rattle.points.specs.declared.classes.Point.{Point}
use Rattle.points.proofs.Depths.{fits_le, parent_earlier, depth_step}
use Rattle.points.proofs.ByNumber.{point_before, point_last, point_past}

guarded : (b x y : Bool) → (b ≡ true → x ≡ y) → (b && x) ≡ (b && y)
guarded true x y h = h refl
guarded false x y h = refl

-- ---- points that come behind

module _ (ps more : List Point) where
  class_before : (f : Class → Bool) (n m : ℕ) → n ≤ length ps
      → (leb m n && f (class_of (ps ++ more) m)) ≡ (leb m n && f (class_of ps m))
  class_before f n m h =
      guarded (leb m n) _ _ (λ e. ap (λ (q : Point). f q.class) (point_before ps more m (omega (arith, leb-true m n e))))

  pub fits_before : (n : ℕ) (c : Class) (m : ℕ) → n ≤ length ps → parent_fits (ps ++ more) n c m ≡ parent_fits ps n c m
  fits_before n Root m h = refl
  fits_before n Member m h = ap (λ (b : Bool). eqb m 0 || b) (class_before is_monitor n m h)
  fits_before n Monitor m h = ap (λ (b : Bool). eqb m 0 || b) (class_before is_monitor n m h)
  fits_before n Embedded m h = class_before hosts n m h

  depth_in_before : Placed ps → (k m : ℕ) → m ≤ length ps → depth_in (ps ++ more) k m ≡ depth_in ps k m
  depth_in_before placed zero m h = refl
  depth_in_before placed (suc k) m h =
      ⊎_elim
      (λ some.
      let same : parent_of (ps ++ more) m ≡ parent_of ps m = ap (λ (q : Point). q.parent) (point_before ps more m h) in
      ap (λ (d : ℕ). cond (eqb m 0) 1 (1 + d))
      (ap (depth_in (ps ++ more) k) same ∙ depth_in_before placed k (parent_of ps m) (omega (arith, parent_earlier ps placed m some))))
      (λ none. rw (eq-eqb m 0 (omega arith)) refl)
      (cases_lt 0 m)

  pub depth_before : Placed ps → (m : ℕ) → m ≤ length ps → depth (ps ++ more) m ≡ depth ps m
  depth_before placed m h = depth_in_before placed m m h

-- ---- the room that there was, by what the class is

room_root : (ps : List Point) (c : Class) (m : ℕ) → has_room ps c m ≡ true → is_root c ≡ true → roots ps < 4
room_root ps Root m h k = ltb-true _ _ h
room_root ps Member m h k = absurd (false≢true k)
room_root ps Monitor m h k = absurd (false≢true k)
room_root ps Embedded m h k = absurd (false≢true k)

room_member : (ps : List Point) (c : Class) (m : ℕ) → has_room ps c m ≡ true → is_member c ≡ true → members ps m < 32
room_member ps Root m h k = absurd (false≢true k)
room_member ps Member m h k = ltb-true _ _ h
room_member ps Monitor m h k = ltb-true _ _ (and_parts _ _ (and_parts _ _ h).0).0
room_member ps Embedded m h k = absurd (false≢true k)

room_network : (ps : List Point) (c : Class) (m : ℕ) → has_room ps c m ≡ true → is_monitor c ≡ true
    → (networks ps < 16) × (depth ps m < 4)
room_network ps Root m h k = absurd (false≢true k)
room_network ps Member m h k = absurd (false≢true k)
room_network ps Monitor m h k =
    let b = and_parts _ _ h in (ltb-true _ _ (and_parts _ _ b.0).1, ltb-true _ _ b.1)
room_network ps Embedded m h k = absurd (false≢true k)

-- a count within its limit, with room for one more if the new point is counted
count_grow : (f : Point → Bool) (ps : List Point) (q : Point) (limit : ℕ)
    → count_by f ps ≤ limit → (f q ≡ true → count_by f ps < limit) → count_by f (ps ++ q ∷ []) ≤ limit
count_grow f ps q limit within room =
    rw (sum_by_push (λ x. cond (f x) 1 0) ps q)
    (⊎_elim
    (λ e. rw e (omega (arith, room e)))
    (λ e. rw e (omega arith))
    (cases_Bool (f q)))

-- ---- one point more, which passes the tests

module _ (ps : List Point) (q : Point) (placed : Placed ps) (fits : parent_fits ps (length ps) q.class q.parent ≡ true) where
  new_fits : parent_fits (ps ++ q ∷ []) (length ps) q.class q.parent ≡ true
  new_fits = fits_before ps (q ∷ []) (length ps) q.class q.parent (omega arith) ∙ fits

  pub placed_grow : Placed (ps ++ q ∷ [])
  placed_grow k h =
      ⊎_elim
      (λ old.
      let same = sym (get_or_append_left ps (q ∷ []) no_point k old) in
      subst (λ (x : Point). parent_fits (ps ++ q ∷ []) k x.class x.parent ≡ true) same
      (fits_before ps (q ∷ []) k (get_or ps k no_point).class (get_or ps k no_point).parent (omega arith) ∙ placed k old))
      (λ new.
      let last : length ps ≡ k = omega (arith, length_push ps q) in
      let same = sym (get_or_push ps q no_point k last) in
      subst (λ (x : Point). parent_fits (ps ++ q ∷ []) k x.class x.parent ≡ true) same
      (subst (λ (n : ℕ). parent_fits (ps ++ q ∷ []) n q.class q.parent ≡ true) last new_fits))
      (cases_lt k (length ps))

  module _ (room : has_room ps q.class q.parent ≡ true) where
    new_shallow : is_monitor q.class ≡ true → (m : ℕ) → m ≡ length ps + 1 → depth (ps ++ q ∷ []) m ≤ 4
    new_shallow is m e =
        let deep = room_network ps q.class q.parent room is in
        let named : parent_of (ps ++ q ∷ []) m ≡ q.parent =
        ap (parent_of (ps ++ q ∷ [])) e ∙ ap (λ (x : Point). x.parent) (point_last ps q) in
        let up = depth_step (ps ++ q ∷ []) placed_grow m (omega arith) in
        let same = depth_before ps (q ∷ []) placed q.parent (fits_le ps (length ps) q.class q.parent fits) in
        omega (arith, deep.1, ap (depth (ps ++ q ∷ [])) named)

    shallow_grow : Shallow ps → Shallow (ps ++ q ∷ [])
    shallow_grow shallow m is =
        ⊎_elim
        (λ old.
        let same = point_before ps (q ∷ []) m (omega arith) in
        let before = depth_before ps (q ∷ []) placed m (omega arith) in
        omega (arith, shallow m (sym (ap (λ (x : Point). is_monitor x.class) same) ∙ is)))
        (λ new. ⊎_elim
        (λ last.
        let e : m ≡ length ps + 1 = omega arith in
        let it = ap (point (ps ++ q ∷ [])) e ∙ point_last ps q in
        new_shallow (sym (ap (λ (x : Point). is_monitor x.class) it) ∙ is) m e)
        (λ past. absurd (false≢true (sym (ap (λ (x : Point). is_monitor x.class) (point_past (ps ++ q ∷ []) m (omega (arith, length_push ps q)))) ∙ is)))
        (cases_lt m (length ps + 2)))
        (cases_lt m (length ps + 1))

    pub limited_grow : Limited ps → length ps < 128 → Limited (ps ++ q ∷ [])
    limited_grow limited small = (
      omega (arith, length_push ps q),
      count_grow (λ x. is_root x.class) ps q 4 limited.1 (room_root ps q.class q.parent room),
      (λ m. count_grow (member_of m) ps q 32 (limited.2 m)
          (λ e.
          let b = and_parts (is_member q.class) (eqb q.parent m) e in
          let same : q.parent ≡ m = eqb-true _ _ b.1 in
          subst (λ (n : ℕ). members ps n < 32) same (room_member ps q.class q.parent room b.0))),
      (
        omega (
          arith,
          count_grow (λ x. is_monitor x.class) ps q 15 (omega (arith, limited.3.0))
              (λ e. omega (arith, (room_network ps q.class q.parent room e).0)),
        ),
        shallow_grow limited.3.1,
      ),
    )
