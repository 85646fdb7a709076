-- The carry rule: how the burden of a network is shared among its members. It goes by one channel, on which h has
-- the hour values of the points and chg the charges of the networks.
use Rattle.std.specs.Prelude.{◌≡◌, ℕ, zero, suc, pred, ◌+◌, ◌*◌, ◌/◌, ◌%◌, if◌then◌else◌, List, ℤ, pos, negsuc, ◌+ℤ◌, neg_ℤ, unsigned_abs}
use Rattle.points.specs.Classes.{is_member}
use Rattle.points.specs.Points.{class_of, parent_of, joins, IsPoint}
use Rattle.points.specs.declared.classes.Point.{Point}
use Rattle.shares.specs.Trees.{member_sum}

-- q with the sign of z
abbrev pub signed : ℤ → ℕ → ℤ
signed (pos b) q = pos q
signed (negsuc b) q = neg_ℤ (pos q)

-- t divided by the members' sum, in whole watt-hours and with the sign of the burden z; 0 where the sum is 0
abbrev pub quota : ℕ → ℤ → ℕ → ℤ
quota zero z t = pos 0
quota (suc s) z t = signed z (t / suc s)

-- what of a burden z is unborne: all of it where the members' sum is 0, else nothing
abbrev pub left_over : ℕ → ℤ → ℤ
left_over zero z = z
left_over (suc s) z = pos 0

-- the carry behind the points 1 to k, of a burden of size b of network m
unfoldable pub carry : List Point → (ℕ → ℕ) → ℕ → ℕ → ℕ → ℕ
carry ps h m b zero = 0
carry ps h m b (suc k) =
    if joins ps m (suc k) then (b * h (suc k) + carry ps h m b k) % member_sum ps h m else carry ps h m b k

-- what member p of network m bears of the burden z
unfoldable pub share : List Point → (ℕ → ℕ) → ℕ → ℤ → ℕ → ℤ
share ps h m z p = quota (member_sum ps h m) z (unsigned_abs z * h p + carry ps h m (unsigned_abs z) (pred p))

-- the burden of a network: the main one's is its charge, another's its charge plus the loss that its monitor bears
abbrev pub burden_by : (ℕ → ℤ) → (ℕ → ℤ) → ℕ → ℤ
burden_by chg bears zero = chg zero
burden_by chg bears (suc m) = chg (suc m) +ℤ bears (suc m)

-- The rule as a whole: each member bears its share of the burden of the network that it joins, and no other point
-- bears anything (commands 10.1 and 14.1).
abbrev pub ByCarryRule : List Point → (ℕ → ℕ) → (ℕ → ℤ) → (ℕ → ℤ) → Type 0
ByCarryRule ps h chg bears =
    (p : ℕ) → IsPoint ps p
    → bears p ≡ (if is_member (class_of ps p) then share ps h (parent_of ps p) (burden_by chg bears (parent_of ps p)) p else pos 0)

-- The losses that obey it, found from the main network down. The first number is the steps up that are left; a
-- parent comes earlier, so that p steps suffice for point p.
unfoldable pub borne_in : List Point → (ℕ → ℕ) → (ℕ → ℤ) → ℕ → ℕ → ℤ
borne_in ps h chg zero p = pos 0
borne_in ps h chg (suc k) p =
    if is_member (class_of ps p) then share ps h (parent_of ps p) (burden_by chg (borne_in ps h chg k) (parent_of ps p)) p else pos 0

abbrev pub borne_on : List Point → (ℕ → ℕ) → (ℕ → ℤ) → ℕ → ℤ
borne_on ps h chg p = borne_in ps h chg p p
