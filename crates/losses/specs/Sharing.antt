-- What a step of the run does with one network.
use Rattle.std.specs.Prelude.{◌≡◌, ℕ, suc, ◌<◌, if◌then◌else◌, List, ℤ, pos, slice_index_or}
use Rattle.points.specs.Points.{joins}
use Rattle.points.specs.declared.classes.Point.{Point}
use Rattle.shares.specs.Carry.{share}

-- among the first n points the members of network m have their shares of the burden z, and every other entry is as
-- it was
abbrev pub SharedOut : List Point → (ℕ → ℕ) → ℕ → ℤ → List ℤ → List ℤ → ℕ → Type 0
SharedOut ps h m z old new n =
    (k : ℕ) → k < n → slice_index_or new k (pos 0) ≡ (if joins ps m (suc k) then share ps h m z (suc k) else slice_index_or old k (pos 0))
