-- Watt-hours written in MWh, with six decimals.
use Rattle.std.specs.Prelude.{ℕ, zero, suc, ◌+◌, ◌/◌, ◌%◌, List, [], ◌∷◌, ◌++◌, ℤ, pos, negsuc, decimal}

-- the last k digits of a number, zeros among them
abbrev pub last_digits : ℕ → ℕ → List ℕ
last_digits zero n = []
last_digits (suc k) n = last_digits k (n / 10) ++ ((48 + n % 10) ∷ [])

-- n watt-hours: whole MWh, a point and six decimals
abbrev pub unsigned_mwh : ℕ → List ℕ
unsigned_mwh n = decimal (n / 1000000) ++ (46 ∷ last_digits 6 n)

-- a negative figure begins with a minus
abbrev pub mwh_text : ℤ → List ℕ
mwh_text (pos n) = unsigned_mwh n
mwh_text (negsuc n) = 45 ∷ unsigned_mwh (suc n)
