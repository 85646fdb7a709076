-- Adjusted and final values, by what stands in the blocks of a run.
use Rattle.std.specs.Prelude.{◌≡◌, ℕ, suc, ◌+◌, ◌*◌, ◌<◌, ◌≤◌, List, length, ℤ, pos, ◌-ℤ◌, slice_index_or, unsigned_abs}
use Rattle.terms.specs.declared.channels.Channel.{Channel}
use Rattle.points.specs.declared.classes.Point.{Point}
use Rattle.readings.specs.Hours.{hour_most}
use Rattle.shares.specs.Hours.{adjusted_by}
use Rattle.shares.specs.Runs.{burden_limit}
use Rattle.shares.specs.Trees.{over_embedded}
use Rattle.losses.specs.Blocks.{values_in, entry}

-- no number of a block is larger than this, either way
abbrev pub AtMost : ℕ → List ℤ → Type 0
AtMost most bs = (k : ℕ) → unsigned_abs (slice_index_or bs k (pos 0)) ≤ most

-- the adjusted value of point p, by its hour value and the loss that it bears
abbrev pub adjusted_in : List ℤ → List ℤ → Channel → ℕ → ℤ
adjusted_in hs bs c p = adjusted_by c (values_in hs c p) (entry bs p)

-- the most that an adjusted value is, and a final one with 128 points
abbrev pub adjusted_most : ℕ
adjusted_most = hour_most + burden_limit

abbrev pub final_most : ℕ
final_most = 129 * adjusted_most

-- fs has the final values of the points, whose adjusted values f gives
abbrev pub Finals : List Point → (ℕ → ℤ) → List ℤ → Type 0
Finals ps f fs = (k : ℕ) → k < length ps → slice_index_or fs k (pos 0) ≡ f (suc k) -ℤ over_embedded ps (suc k) f
