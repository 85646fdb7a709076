-- Laws of the sums over the numbers from 1 to n.
use Rattle.std.proofs.Common.{◌≡◌, ℕ, zero, suc, ◌+◌, ◌*◌, ◌<◌, ◌≤◌, Bool, true, false, cond, eqb, ℤ, pos, ◌+ℤ◌, ◌-ℤ◌, neg_ℤ, sym, refl, ap, ◌∙◌, ap₂, ⊎_elim, true≢false, arith}
use Rattle.std.proofs.lemmas.Int.{ints}
use Rattle.std.proofs.lemmas.Bool.{cases_eq, cond-true, eq-eqb, ne_eqb}
use Rattle.shares.specs.Sums.{total, sum_to, total_where, sum_where}

-- functions that agree from 1 to n have the same sum
pub total_same : (n : ℕ) (f g : ℕ → ℕ) → ((j : ℕ) → 0 < j → j ≤ n → f j ≡ g j) → total n f ≡ total n g
unfolding total
total_same zero f g e = refl
total_same (suc n) f g e = ap₂ ◌+◌ (total_same n f g (λ j p q. e j p (omega arith))) (e (suc n) (omega arith) (omega arith))

pub sum_to_same : (n : ℕ) (f g : ℕ → ℤ) → ((j : ℕ) → 0 < j → j ≤ n → f j ≡ g j) → sum_to n f ≡ sum_to n g
unfolding sum_to
sum_to_same zero f g e = refl
sum_to_same (suc n) f g e = ap₂ ◌+ℤ◌ (sum_to_same n f g (λ j p q. e j p (omega arith))) (e (suc n) (omega arith) (omega arith))

pub sum_to_none : (n : ℕ) (f : ℕ → ℤ) → ((j : ℕ) → 0 < j → j ≤ n → f j ≡ pos 0) → sum_to n f ≡ pos 0
unfolding sum_to
sum_to_none zero f e = refl
sum_to_none (suc n) f e =
    let a = sum_to_none n f (λ j p q. e j p (omega arith)) in
    let b = e (suc n) (omega arith) (omega arith) in
    omega (arith, ints)

pub sum_to_add : (n : ℕ) (f g : ℕ → ℤ) → sum_to n (λ j. f j +ℤ g j) ≡ sum_to n f +ℤ sum_to n g
unfolding sum_to
sum_to_add zero f g = refl
sum_to_add (suc n) f g = let a = sum_to_add n f g in omega (arith, ints)

pub sum_to_neg : (n : ℕ) (f : ℕ → ℤ) → sum_to n (λ j. neg_ℤ (f j)) ≡ neg_ℤ (sum_to n f)
unfolding sum_to
sum_to_neg zero f = refl
sum_to_neg (suc n) f = let a = sum_to_neg n f in omega (arith, ints)

pub sum_to_sub : (n : ℕ) (f g : ℕ → ℤ) → sum_to n (λ j. f j -ℤ g j) ≡ sum_to n f -ℤ sum_to n g
sum_to_sub n f g = sum_to_add n f (λ j. neg_ℤ (g j)) ∙ ap (λ z. sum_to n f +ℤ z) (sum_to_neg n g)

pub sum_to_pos : (n : ℕ) (f : ℕ → ℕ) → sum_to n (λ j. pos (f j)) ≡ pos (total n f)
unfolding sum_to total
sum_to_pos zero f = refl
sum_to_pos (suc n) f = ap (λ z. z +ℤ pos (f (suc n))) (sum_to_pos n f)

-- the order of two sums does not matter
pub sum_to_swap : (n k : ℕ) (f : ℕ → ℕ → ℤ) → sum_to n (λ i. sum_to k (λ j. f i j)) ≡ sum_to k (λ j. sum_to n (λ i. f i j))
unfolding sum_to
sum_to_swap zero k f = sym (sum_to_none k (λ j. pos 0) (λ j p q. refl))
sum_to_swap (suc n) k f =
    ap (λ z. z +ℤ sum_to k (λ j. f (suc n) j)) (sum_to_swap n k f) ∙ sym (sum_to_add k (λ j. sum_to n (λ i. f i j)) (λ j. f (suc n) j))

-- a sum with one term alone that is not 0
pub sum_to_one : (n : ℕ) (f : ℕ → ℤ) (k : ℕ) → 0 < k → k ≤ n → ((j : ℕ) → 0 < j → j ≤ n → ¬ (j ≡ k) → f j ≡ pos 0) → sum_to n f ≡ f k
unfolding sum_to
sum_to_one zero f k p q e = absurd (omega arith)
sum_to_one (suc n) f k p q e = ⊎_elim
    (λ (h : k ≡ suc n).
    let a : sum_to n f ≡ pos 0 = sum_to_none n f (λ j r s. e j r (omega arith) (omega arith)) in
    let b : f k ≡ f (suc n) = ap f h in
    omega (arith, ints))
    (λ (h : k ≡ suc n → ⊥).
    let a : sum_to n f ≡ f k = sum_to_one n f k p (omega arith) (λ j r s d. e j r (omega arith) d) in
    let b : f (suc n) ≡ pos 0 = e (suc n) (omega arith) (omega arith) (λ g. h (sym g)) in
    omega (arith, ints))
    (cases_eq k (suc n))

-- ---- sums of the terms that a test picks

cond_same : {A : Type 0} {x y : A} (d : A) (b : Bool) → (b ≡ true → x ≡ y) → cond b x d ≡ cond b y d
cond_same d true e = e refl
cond_same d false e = refl

cond_none : {x : ℤ} (b : Bool) → (b ≡ true → x ≡ pos 0) → cond b x (pos 0) ≡ pos 0
cond_none true e = e refl
cond_none false e = refl

cond_add : (b : Bool) (x y : ℤ) → cond b (x +ℤ y) (pos 0) ≡ cond b x (pos 0) +ℤ cond b y (pos 0)
cond_add true x y = refl
cond_add false x y = refl

cond_neg : (b : Bool) (x : ℤ) → cond b (neg_ℤ x) (pos 0) ≡ neg_ℤ (cond b x (pos 0))
cond_neg true x = refl
cond_neg false x = refl

cond_pos : (b : Bool) (x : ℕ) → cond b (pos x) (pos 0) ≡ pos (cond b x 0)
cond_pos true x = refl
cond_pos false x = refl

cond_sum : (n : ℕ) (b : Bool) (f : ℕ → ℤ) → cond b (sum_to n f) (pos 0) ≡ sum_to n (λ j. cond b (f j) (pos 0))
cond_sum n true f = refl
cond_sum n false f = sym (sum_to_none n (λ j. pos 0) (λ j p q. refl))

pub where_same : (n : ℕ) (b : ℕ → Bool) (f g : ℕ → ℤ) → ((j : ℕ) → 0 < j → j ≤ n → b j ≡ true → f j ≡ g j) → sum_where n b f ≡ sum_where n b g
unfolding sum_where
where_same n b f g e = sum_to_same n _ _ (λ j p q. cond_same (pos 0) (b j) (e j p q))

pub total_where_same : (n : ℕ) (b : ℕ → Bool) (f g : ℕ → ℕ) → ((j : ℕ) → 0 < j → j ≤ n → b j ≡ true → f j ≡ g j) → total_where n b f ≡ total_where n b g
unfolding total_where
total_where_same n b f g e = total_same n _ _ (λ j p q. cond_same 0 (b j) (e j p q))

pub where_none : (n : ℕ) (b : ℕ → Bool) (f : ℕ → ℤ) → ((j : ℕ) → b j ≡ true → f j ≡ pos 0) → sum_where n b f ≡ pos 0
unfolding sum_where
where_none n b f e = sum_to_none n _ (λ j _ _. cond_none (b j) (e j))

pub where_add : (n : ℕ) (b : ℕ → Bool) (f g : ℕ → ℤ) → sum_where n b (λ j. f j +ℤ g j) ≡ sum_where n b f +ℤ sum_where n b g
unfolding sum_where
where_add n b f g = sum_to_same n _ _ (λ j _ _. cond_add (b j) (f j) (g j)) ∙ sum_to_add n _ _

pub where_neg : (n : ℕ) (b : ℕ → Bool) (f : ℕ → ℤ) → sum_where n b (λ j. neg_ℤ (f j)) ≡ neg_ℤ (sum_where n b f)
unfolding sum_where
where_neg n b f = sum_to_same n _ _ (λ j _ _. cond_neg (b j) (f j)) ∙ sum_to_neg n _

pub where_sub : (n : ℕ) (b : ℕ → Bool) (f g : ℕ → ℤ) → sum_where n b (λ j. f j -ℤ g j) ≡ sum_where n b f -ℤ sum_where n b g
where_sub n b f g = where_add n b f (λ j. neg_ℤ (g j)) ∙ ap (λ z. sum_where n b f +ℤ z) (where_neg n b g)

pub where_pos : (n : ℕ) (b : ℕ → Bool) (f : ℕ → ℕ) → sum_where n b (λ j. pos (f j)) ≡ pos (total_where n b f)
unfolding sum_where total_where
where_pos n b f = sum_to_same n _ _ (λ j _ _. cond_pos (b j) (f j)) ∙ sum_to_pos n _

-- a test that is one of two others, which never hold together
pub where_either : (n : ℕ) (b c d : ℕ → Bool) (f : ℕ → ℤ)
    → ((j : ℕ) (z : ℤ) → cond (b j) z (pos 0) ≡ cond (c j) z (pos 0) +ℤ cond (d j) z (pos 0))
    → sum_where n b f ≡ sum_where n c f +ℤ sum_where n d f
unfolding sum_where
where_either n b c d f e = sum_to_same n _ _ (λ j _ _. e j (f j)) ∙ sum_to_add n _ _

-- a sum of such sums, by the inner number first
pub where_swap : (n k : ℕ) (b : ℕ → Bool) (c : ℕ → ℕ → Bool) (f : ℕ → ℤ)
    → sum_where n b (λ i. sum_where k (c i) f) ≡ sum_to k (λ j. sum_where n b (λ i. cond (c i j) (f j) (pos 0)))
unfolding sum_where
where_swap n k b c f = sum_to_same n _ _ (λ i _ _. cond_sum k (b i) (λ j. cond (c i j) (f j) (pos 0))) ∙ sum_to_swap n k (λ i j. cond (b i) (cond (c i j) (f j) (pos 0)) (pos 0))

-- one number alone is k, and it counts if it is picked
pub where_one : (n k : ℕ) (b : ℕ → Bool) (z : ℤ) → 0 < k → k ≤ n → b k ≡ true → sum_where n b (λ i. cond (eqb k i) z (pos 0)) ≡ z
unfolding sum_where
where_one n k b z p q h =
    sum_to_one n _ k p q (λ j _ _ d. cond_none (b j) (λ _. cond_none (eqb k j) (λ e. absurd (true≢false (sym e ∙ ne_eqb k j (λ r. d (sym r)))))))
    ∙ cond-true (b k) _ (pos 0) h ∙ cond-true (eqb k k) z (pos 0) (eq-eqb k k refl)

-- a term is at most the sum
pub le_total : (n : ℕ) (f : ℕ → ℕ) (p : ℕ) → 0 < p → p ≤ n → f p ≤ total n f
unfolding total
le_total zero f p l r = absurd (omega arith)
le_total (suc n) f p l r = ⊎_elim
    (λ (h : p ≡ suc n). let same : f p ≡ f (suc n) = ap f h in omega arith)
    (λ (h : p ≡ suc n → ⊥). let less : f p ≤ total n f = le_total n f p l (omega arith) in omega arith)
    (cases_eq p (suc n))

pub le_total_where : (n : ℕ) (b : ℕ → Bool) (h : ℕ → ℕ) (p : ℕ) → 0 < p → p ≤ n → b p ≡ true → h p ≤ total_where n b h
unfolding total_where
le_total_where n b h p l r e =
    let term = le_total n (λ j. cond (b j) (h j) 0) p l r in
    let same = cond-true (b p) (h p) 0 e in
    omega arith

-- each term is at most top: so is the sum, as often as one is picked
pub where_le : (n top : ℕ) (b : ℕ → Bool) (h : ℕ → ℕ) → ((p : ℕ) → 0 < p → p ≤ n → h p ≤ top) → total_where n b h ≤ total_where n b (λ p. 1) * top
unfolding total total_where
where_le zero top b h e = omega arith
where_le (suc n) top b h e = one (total_where n b h) (total_where n b (λ p. 1)) (b (suc n)) (e (suc n) (omega arith) (omega arith)) (where_le n top b h (λ p l r. e p l (omega arith)))
  where
    one : (x y : ℕ) (t : Bool) → h (suc n) ≤ top → x ≤ y * top → x + cond t (h (suc n)) 0 ≤ (y + cond t 1 0) * top
    one x y true k a = omega arith
    one x y false k a = omega arith
