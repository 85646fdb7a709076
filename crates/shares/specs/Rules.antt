-- Loss rules: on which channel the loss of a network is charged (commands 11 to 13).
use Rattle.std.specs.Prelude.{◌≡◌, ℕ, ◌≤◌, if◌then◌else◌, ◌⊎◌, ℤ, pos, ◌-ℤ◌, nat_le, unsigned_abs}
use Rattle.std.specs.Int.Signed.{non_neg}

-- From four sums of a network, the monitors' C and G and the members' C and G, a rule gives a charge on C and a
-- charge on G.
abbrev pub Rule : Type 0
Rule = ℕ → ℕ → ℕ → ℕ → ℤ × ℤ

-- command 11: the loss of a network is the net of its monitors minus the net of its members
unfoldable pub loss_of : ℕ → ℕ → ℕ → ℕ → ℤ
loss_of mc mg sc sg = (pos mc -ℤ pos mg) -ℤ (pos sc -ℤ pos sg)

-- one charge is 0, and the other is the loss or its absolute value
abbrev pub Charges : ℤ → ℤ × ℤ → Type 0
Charges l c =
    ((c.1 ≡ pos 0) × ((c.0 ≡ l) ⊎ (c.0 ≡ pos (unsigned_abs l))))
    ⊎ ((c.0 ≡ pos 0) × ((c.1 ≡ l) ⊎ (c.1 ≡ pos (unsigned_abs l))))

-- the most that a sum of a network comes to: 32 members with 180,000,000 Wh each
abbrev pub sum_limit : ℕ
sum_limit = 5760000000

-- what makes a function of four sums a loss rule
abbrev pub Meaning : Rule → Type 0
Meaning rule =
    (mc mg sc sg : ℕ) → mc ≤ sum_limit → mg ≤ sum_limit → sc ≤ sum_limit → sg ≤ sum_limit
    → Charges (loss_of mc mg sc sg) (rule mc mg sc sg)

-- The flow reading (command 12): the loss, with its sign, on C if the monitors' C is at least their G, else on G.
unfoldable pub flow_reading : Rule
flow_reading mc mg sc sg = if nat_le mg mc then (loss_of mc mg sc sg, pos 0) else (pos 0, loss_of mc mg sc sg)

-- The sign reading (command 13): the loss on C if it is at least 0, else its absolute value on G.
unfoldable pub sign_reading : Rule
sign_reading mc mg sc sg =
    if non_neg (loss_of mc mg sc sg) then (loss_of mc mg sc sg, pos 0) else (pos 0, pos (unsigned_abs (loss_of mc mg sc sg)))
