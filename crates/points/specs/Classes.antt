-- The four classes of a point, and the letters that stand for them.
use Rattle.std.specs.Prelude.{ℕ, Bool, true, false, if◌then◌else◌, List, ◌∷◌, Some, None, decimal, Option, ◌==◌}
use Rattle.points.specs.declared.classes.Class.{Class}
use Rattle.points.specs.declared.classes.Class.TheVariants.{Root, Member, Monitor, Embedded}

-- R, P, M and E, by their codes
abbrev pub class_by : ℕ → Option Class
class_by c =
    if c == 82 then Some Root
    else (if c == 80 then Some Member
    else (if c == 77 then Some Monitor
    else (if c == 69 then Some Embedded else None)))

abbrev pub letter_of : Class → ℕ
letter_of Root = 82
letter_of Member = 80
letter_of Monitor = 77
letter_of Embedded = 69

abbrev pub is_root : Class → Bool
is_root Root = true
is_root Member = false
is_root Monitor = false
is_root Embedded = false

-- a member of a network, with a network of its own or without
abbrev pub is_member : Class → Bool
is_member Root = false
is_member Member = true
is_member Monitor = true
is_member Embedded = false

abbrev pub is_monitor : Class → Bool
is_monitor Root = false
is_monitor Member = false
is_monitor Monitor = true
is_monitor Embedded = false

-- what an embedded point may be embedded in
abbrev pub hosts : Class → Bool
hosts Root = false
hosts Member = true
hosts Monitor = false
hosts Embedded = true

abbrev pub is_embedded : Class → Bool
is_embedded Root = false
is_embedded Member = false
is_embedded Monitor = false
is_embedded Embedded = true

-- a billing point: its final values are billed
abbrev pub is_billing : Class → Bool
is_billing Root = false
is_billing Member = true
is_billing Monitor = false
is_billing Embedded = true

-- a class letter, a space and a parent
abbrev pub spelled : ℕ → ℕ → List ℕ
spelled letter parent = letter ∷ 32 ∷ decimal parent
