-- How large the numbers of a run are.
use Rattle.std.specs.Prelude.{ℤ, pos, ◌≤ℤ◌}
use Rattle.shares.specs.Rules.{sum_limit}

-- a sum of a network
abbrev pub IsSum : ℤ → Type 0
IsSum z = (pos 0 ≤ℤ z) × (z ≤ℤ pos sum_limit)

-- four sums of a network
abbrev pub AreSums : ℤ → ℤ → ℤ → ℤ → Type 0
AreSums mc mg sc sg = IsSum mc × IsSum mg × IsSum sc × IsSum sg
