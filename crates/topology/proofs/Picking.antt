-- What `find` gives of the numbers that are left, and what it leaves.
use Rattle.std.proofs.Common.{◌≡◌, ℕ, suc, ◌+◌, ◌-◌, ◌<◌, Bool, true, false, if◌then◌else◌, List, [], ◌∷◌, Some, None, Option, refl, ap, sym, ◌∙◌, subst, arith}
use Rattle.std.proofs.lemmas.Bool.{cond-true, cond-false}
use Rattle.std.proofs.iter.Yields.{nat_range_steps}
use Rattle.std.specs.Fn.{CalledAt}
use Rattle.std.specs.Iterator.{YieldsThen, FindsItem}
use Rattle.std.specs.List.{FoldsTo}
use Rattle.std.specs.Option.{IfSome}
use Rattle.std.specs.declared.ops.Range.{Range}
use denote.Param.Members.{Mut}
use denote.Ref.{Bor}
use Rattle.topology.specs.Numbers.{Gives}
use Rattle.topology.specs.Questions.{picked}

module _ (picks : ℕ → Bool) where
  abbrev pub left : Range ℕ → List ℕ
  left s = picked picks s.start (s.end - s.start)

  module _ (s t : Range ℕ) (some : 0 < s.end - s.start) (next : t.start ≡ s.start + 1) (end : t.end ≡ s.end) where
    one_more : left s ≡ (if picks s.start then s.start ∷ left t else left t)
    one_more =
        let count : s.end - s.start ≡ suc (t.end - t.start) = omega arith in
        ap (picked picks s.start) count
        ∙ ap (λ n. if picks s.start then s.start ∷ picked picks n (t.end - t.start) else picked picks n (t.end - t.start)) (sym next)

    picked_here : picks s.start ≡ true → left s ≡ s.start ∷ left t
    picked_here e = one_more ∙ cond-true _ _ _ e

    picked_later : picks s.start ≡ false → left s ≡ left t
    picked_later e = one_more ∙ cond-false _ _ _ e

  gives_later : (xs ys zs : List ℕ) (r : Option ℕ) → xs ≡ ys → Gives ys r zs → Gives xs r zs
  gives_later xs ys zs r e h = subst (λ ws. Gives ws r zs) (sym e) h

  -- a closure that tells by its answer at a number whether it is picked
  module _ {F : Type 0} (g : Mut F (Bor ℕ × Unit {0}) Bool) (f : F)
      (yes : (x : ℕ) (q : F) → CalledAt g f x true q → picks x ≡ true)
      (no : (x : ℕ) (q : F) → CalledAt g f x false q → (q ≡ f) × (picks x ≡ false)) where
    walked : (xs : List ℕ) (s u : Range ℕ) (r : Option ℕ) (h j : F) → h ≡ f → YieldsThen nat_range_steps s xs r u
        → FoldsTo (λ p x q. CalledAt g p x false q) h xs j → IfSome r (λ x. (k : F) × CalledAt g j x true k)
        → Gives (left s) r (left u)
    walked [] s u None h j e (t, same, y) c last =
        let none : s.end - s.start ≡ 0 = ap (λ (k : Range ℕ). k.end - k.start) same ∙ y.1.0 in
        ap (picked picks s.start) none
    walked [] s u (Some x) h j e (t, same, y) c last =
        let at : x ≡ s.start = y.1.1 ∙ sym (ap (λ (k : Range ℕ). k.start) same) in
        let it : picks s.start ≡ true = sym (ap picks at) ∙ yes x last.0 (subst (λ q. CalledAt g q x true last.0) (sym c ∙ e) last.1) in
        picked_here s u (omega (arith, ap (λ (k : Range ℕ). k.end - k.start) same, y.1.0)) (omega (arith, ap (λ (k : Range ℕ). k.start) same, y.1.2)) (y.0 ∙ sym (ap (λ (k : Range ℕ). k.end) same)) it
        ∙ ap (λ n. n ∷ left u) (sym at)
    walked (x ∷ xs) s u r h j e (t, (i, step, more), y) (q, called, rest) last =
        let other = no x q (subst (λ p. CalledAt g p x false q) e called) in
        let it : picks s.start ≡ false = sym (ap picks step.1.1) ∙ other.1 in
        gives_later (left s) (left i) (left u) r (picked_later s i step.1.0 step.1.2 step.0 it)
        (walked xs i u r q j other.0 (t, more, y) rest last)

    pub found : (s u : Range ℕ) (r : Option ℕ) → FindsItem nat_range_steps g s f r u → Gives (left s) r (left u)
    found s u r (xs, j, y, c, last) = walked xs s u r f j refl y c last
