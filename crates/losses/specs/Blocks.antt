-- The lent numbers of a run, in blocks. The hour values stand first, point after point, C and then G. Then come
-- blocks of one number for each point.
use Rattle.std.specs.Prelude.{ℕ, zero, suc, ◌+◌, ◌*◌, ◌≤◌, List, ℤ, pos, ◌≤ℤ◌, slice_index_or, unsigned_abs}
use Rattle.terms.specs.Channels.{ordinal}
use Rattle.terms.specs.declared.channels.Channel.{Channel}
use Rattle.points.specs.declared.classes.Point.{Point}
use Rattle.readings.specs.Hours.{hour_most}
use Rattle.shares.specs.Rules.{Rule}
use Rattle.shares.specs.Hours.{Hour}

-- what stands for point p on channel c
abbrev pub standing : List ℤ → Channel → ℕ → ℤ
standing hs c zero = pos 0
standing hs c (suc k) = slice_index_or hs (2 * k + ordinal c) (pos 0)

-- the hour values that stand there
abbrev pub values_in : List ℤ → Channel → ℕ → ℕ
values_in hs c p = unsigned_abs (standing hs c p)

-- every number is an hour value
abbrev pub Hourly : List ℤ → Type 0
Hourly hs = (k : ℕ) → (pos 0 ≤ℤ slice_index_or hs k (pos 0)) × (unsigned_abs (slice_index_or hs k (pos 0)) ≤ hour_most)

-- the hour of these points, rule and hour values
abbrev pub hour_in : List Point → Rule → List ℤ → Hour
hour_in ps rule hs = record { points = ps; rule = rule; values = values_in hs }

-- what stands for point p in a block of one number for each
abbrev pub entry : List ℤ → ℕ → ℤ
entry bs zero = pos 0
entry bs (suc k) = slice_index_or bs k (pos 0)
