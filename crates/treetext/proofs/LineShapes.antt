-- The shape of a line, from its bytes and back.
use Rattle.std.proofs.Common.{◌≡◌, ℕ, ◌+◌, ◌-◌, ◌^◌, ◌<◌, ◌≤◌, Bool, true, false, cond, List, [], ◌∷◌, ◌++◌, length, get_or, take, drop, decimal, sym, refl, ap, ◌∙◌, ⊎_elim, append_assoc, one-add, arith}
use native.Mathlib.Nat.{pow-le-pow_right}
use Rattle.std.specs.Str.Parse.{AllDigits, digits_value}
use Rattle.std.specs.Char.{is_ascii_digit, digit_value}
use Rattle.std.specs.Int.{IsInRange}
use Rattle.std.specs.List.{prefix_len}
use Rattle.std.proofs.lemmas.Fmt.{decimal_is_IsNumeral, decimal_nonempty, decimal-digits_value, first_decimal, length-decimal-le, decimal_digit}
use Rattle.std.proofs.lemmas.Int.Digits.{digits_value-lt}
use Rattle.std.proofs.lemmas.List.{drop_at, take_at}
use Rattle.std.proofs.lemmas.Str.Parse.{digit_from_value, numerals_by_value, tells_digits}
use Rattle.std.proofs.lemmas.Bool.{cases_lt}
use Rattle.std.proofs.lemmas.Bool.Decides.{nat_tests}
use Rattle.treetext.specs.Shapes.{digits_ahead, parent_field, plain, NoParent, OpensParent}

pub digit_value_is : (b : ℕ) → IsInRange 48 57 b → digit_value b ≡ b - 48
digit_value_is b h = grind (arith, nat_tests)

is_digit : (b : ℕ) → IsInRange 48 57 b → is_ascii_digit b ≡ true
is_digit b h = grind (arith, nat_tests)

-- digits with something else behind them are just what the text begins with
pub leading_digits : (ds : List ℕ) (rest : List ℕ) → AllDigits 10 ds → prefix_len is_ascii_digit (ds ++ (10 ∷ rest)) ≡ length ds
leading_digits [] rest h = refl
leading_digits (d ∷ ds) rest h =
    rw (is_digit d (digit_from_value d h.0)) (omega (arith, leading_digits ds rest h.1))

-- what is led by digits is digits
digits_led : (x : ℕ) (xs : List ℕ) (b : Bool) → is_ascii_digit x ≡ b → AllDigits 10 (take (prefix_len is_ascii_digit xs) xs)
    → AllDigits 10 (take (cond b (1 + prefix_len is_ascii_digit xs) 0) (x ∷ xs))
digits_led x xs true e h =
    let small : digit_value x < 10 = grind (arith, nat_tests) in rw (one-add (prefix_len is_ascii_digit xs)) (small, h)
digits_led x xs false e h = tt

pub digits_leading : (xs : List ℕ) → AllDigits 10 (take (prefix_len is_ascii_digit xs) xs)
digits_leading [] = tt
digits_leading (x ∷ xs) = digits_led x xs (is_ascii_digit x) refl (digits_leading xs)

-- digits that are a parent: what they write, and that it is written so
module _ (digits : List ℕ) (all : AllDigits 10 digits) (good : plain digits ≡ true) where
  some : 0 < length digits
  some = grind (arith, nat_tests)

  few : length digits ≤ 3
  few = grind (arith, nat_tests)

  no_zero : 1 < length digits → get_or digits 0 0 ≡ 48 → ⊥
  no_zero several zero-first = grind (arith, nat_tests)

  value_small : digits_value 10 digits < 1000
  value_small =
      let below = digits_value-lt 10 digits all in
      let most : 10 ^ length digits ≤ 10 ^ 3 = pow-le-pow_right {n = 10} (omega arith) few in
      omega arith

  value_written : decimal (digits_value 10 digits) ≡ digits
  value_written =
      decimal-digits_value (numerals_by_value (AllDigits 10) tells_digits) digits all some
      (λ zero-first. ⊎_elim
      (λ several. absurd (no_zero several zero-first))
      (λ one. omega (arith, some))
      (cases_lt 1 (length digits)))
      (omega (arith, value_small))

module _ (parent : ℕ) (three : parent < 1000) where
  digits_of : AllDigits 10 (decimal parent)
  digits_of = (decimal_is_IsNumeral parent (omega arith)).0.1

  no_zero_of : 1 < length (decimal parent) → get_or (decimal parent) 0 0 ≡ 48 → ⊥
  no_zero_of h e =
      ⊎_elim
      (λ some. omega (arith, first_decimal parent some (omega arith)))
      (λ none. omega (arith, ap length (decimal_digit parent (omega arith))))
      (cases_lt 0 parent)

  decimal_plain : plain (decimal parent) ≡ true
  decimal_plain =
      let some = decimal_nonempty parent (omega arith) in
      let few = length-decimal-le 3 parent (omega arith) (omega arith) (omega arith) in
      let no_zero = no_zero_of in
      grind (arith, nat_tests)

  -- a text that begins with the parent and its line feed, taken apart behind its digits
  module _ (text rest : List ℕ) (e : text ≡ parent_field parent ++ rest) where
    split : text ≡ decimal parent ++ (10 ∷ rest)
    split = e ∙ append_assoc (decimal parent) (10 ∷ []) rest

    count : digits_ahead text ≡ length (decimal parent)
    count = ap digits_ahead split ∙ leading_digits (decimal parent) rest digits_of

    digits_taken : take (digits_ahead text) text ≡ decimal parent
    digits_taken = ap (take (digits_ahead text)) split ∙ take_at (decimal parent) (10 ∷ rest) (digits_ahead text) (sym count)

    rest_left : drop (digits_ahead text) text ≡ 10 ∷ rest
    rest_left = ap (drop (digits_ahead text)) split ∙ drop_at (decimal parent) (10 ∷ rest) (digits_ahead text) (sym count)

-- a text is seen to begin with no parent once it is taken apart behind its digits
pub no_parent : (text : List ℕ) → ((rest : List ℕ) → drop (digits_ahead text) text ≡ 10 ∷ rest → plain (take (digits_ahead text) text) ≡ true → ⊥)
    → NoParent text
no_parent text never parent rest three e =
    never rest (rest_left parent three text rest e) (ap plain (digits_taken parent three text rest e) ∙ decimal_plain parent three)

-- digits that are a parent, and a line feed behind them
pub opens_parent : (text digits rest : List ℕ) → text ≡ digits ++ (10 ∷ rest) → AllDigits 10 digits → plain digits ≡ true
    → OpensParent text (digits_value 10 digits) rest
opens_parent text digits rest e all good =
    record {
      three = value_small digits all good;
      line =
          e ∙ ap (λ (xs : List ℕ). xs ++ (10 ∷ rest)) (sym (value_written digits all good))
          ∙ sym (append_assoc (decimal (digits_value 10 digits)) (10 ∷ []) rest);
    }
