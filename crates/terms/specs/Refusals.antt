-- The number of each refusal, and the numbers that name its place.
use Rattle.std.specs.Prelude.{ℕ, List, [], ◌∷◌, ◌++◌, decimal}
use Rattle.terms.specs.Channels.{ordinal}
use Rattle.terms.specs.declared.channels.Place.{Place}
use Rattle.terms.specs.declared.refusals.Refusal.{Refusal}
use Rattle.terms.specs.declared.refusals.Refusal.TheVariants.{UnknownClass, TooManyPoints, WrongParent, LimitPassed, NotReady, BrokenBook, OutsideExtent, Missing, TooLarge, ProfileTooLarge, BurdenTooLarge, TooShort, BadText}

abbrev pub number_of : Refusal → ℕ
number_of (UnknownClass p) = 1
number_of (TooManyPoints p) = 2
number_of (WrongParent p) = 3
number_of (LimitPassed p) = 4
number_of (NotReady m) = 5
number_of BrokenBook = 6
number_of (OutsideExtent p) = 7
number_of (Missing p) = 8
number_of (TooLarge p) = 9
number_of (ProfileTooLarge p h) = 9
number_of (BurdenTooLarge m c) = 10
number_of (TooShort h) = 11
number_of (BadText l) = 19

-- the numbers of a place: point, channel (C is 0 and G is 1), interval
abbrev pub numbers_of : Place → List ℕ
numbers_of p = p.point ∷ ordinal p.channel ∷ p.interval ∷ []

abbrev pub place_of : Refusal → List ℕ
place_of (UnknownClass p) = p ∷ []
place_of (TooManyPoints p) = p ∷ []
place_of (WrongParent p) = p ∷ []
place_of (LimitPassed p) = p ∷ []
place_of (NotReady m) = m ∷ []
place_of BrokenBook = []
place_of (OutsideExtent p) = numbers_of p
place_of (Missing p) = numbers_of p
place_of (TooLarge p) = numbers_of p
place_of (ProfileTooLarge p h) = p ∷ h ∷ []
place_of (BurdenTooLarge m c) = m ∷ ordinal c ∷ []
place_of (TooShort h) = h ∷ []
place_of (BadText l) = l ∷ []

-- the first number of a place, 0 where it has none
abbrev pub first_number : List ℕ → ℕ
first_number [] = 0
first_number (p ∷ ps) = p

-- "X", a refusal's number and the first number of its place, with single spaces
abbrev pub report_text : ℕ → List ℕ → List ℕ
report_text n place = 88 ∷ 32 ∷ (decimal n ++ (32 ∷ decimal (first_number place)))

abbrev pub refusal_text : Refusal → List ℕ
refusal_text e = report_text (number_of e) (place_of e)
