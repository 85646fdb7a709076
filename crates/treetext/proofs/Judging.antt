-- What passing the tests of entering says of the point.
use Rattle.std.proofs.Common.{◌≡◌, ℕ, ◌<◌, Bool, true, false, ltb, List, length, Some, None, Option, refl, ap, ◌∙◌, arith}
use Rattle.std.proofs.lemmas.Bool.{ltb-true}
use Rattle.std.proofs.lemmas.Bool.Decides.{nat_tests}
use Rattle.terms.specs.Answers.{Answer, gives, tested}
use Rattle.points.specs.Classes.{class_by, letter_of}
use Rattle.topology.specs.Entries.{judged, judged_as, place}
use Rattle.points.specs.Rules.{parent_fits, has_room}
use Rattle.points.specs.declared.classes.Class.{Class}
use Rattle.points.specs.declared.classes.Class.TheVariants.{Root, Member, Monitor, Embedded}
use Rattle.points.specs.declared.classes.Point.{Point}
use Rattle.points.proofs.Depths.{fits_le}

-- a letter stands for one class, and each class has its letter
pub letter_of_class : (l : ℕ) (c : Class) → class_by l ≡ Some c → letter_of c ≡ l
letter_of_class l c e = grind (arith, nat_tests)

pub class_of_letter : (c : Class) → class_by (letter_of c) ≡ Some c
class_of_letter Root = refl
class_of_letter Member = refl
class_of_letter Monitor = refl
class_of_letter Embedded = refl

-- a test that did not refuse was passed
pub passed : {T : Type 0} (b : Bool) (n : ℕ) (at : List ℕ) (next : Answer T) (x : T) → tested b n at next ≡ gives x → (b ≡ true) × (next ≡ gives x)
passed true n at next x e = (refl, e)
passed false n at next x e = absurd (cc e)

-- what a point that passed every test has
pub record Passed (ps : List Point) (letter m : ℕ) (q : Point) : Type 0 where
  pub letters : letter_of q.class ≡ letter
  pub parents : q.parent ≡ m
  pub small : length ps < 128
  pub fits : parent_fits ps (length ps) q.class m ≡ true

passed_all : (ps : List Point) (letter m : ℕ) (q : Point) (o : Option Class) → class_by letter ≡ o → judged_as ps o m ≡ gives q → Passed ps letter m q
passed_all ps letter m q None e is = absurd (cc is)
passed_all ps letter m q (Some c) e is =
    let first = passed (ltb (length ps) 128) 2 (place ps) _ q is in
    let second = passed (parent_fits ps (length ps) c m) 3 (place ps) _ q first.1 in
    let third = passed (has_room ps c m) 4 (place ps) _ q second.1 in
    let made : q ≡ record { class = c; parent = m } = cc third.1 in
    record {
      letters = ap (λ (x : Point). letter_of x.class) made ∙ letter_of_class letter c e;
      parents = ap (λ (x : Point). x.parent) made;
      small = ltb-true _ _ first.0;
      fits = ap (λ (x : Point). parent_fits ps (length ps) x.class m) made ∙ second.0;
    }

pub passed_judged : (ps : List Point) (letter m : ℕ) (q : Point) → judged ps letter m ≡ gives q → Passed ps letter m q
passed_judged ps letter m q is = passed_all ps letter m q (class_by letter) refl is

-- a parent that passed has at most three digits
pub parent_small : (ps : List Point) (letter m : ℕ) (q : Point) → Passed ps letter m q → m < 1000
parent_small ps letter m q p = omega (arith, p.small, fits_le ps (length ps) q.class m p.fits)
