-- Numbers in bytes, high byte first.
use Rattle.std.specs.Prelude.{ℕ, ◌+◌, ◌*◌, List, slice_index}

-- the number in the two bytes from offset o on
abbrev pub word : List ℕ → ℕ → ℕ
word bs o = slice_index bs o * 256 + slice_index bs (o + 1)

-- the number in the four bytes from offset o on
abbrev pub long : List ℕ → ℕ → ℕ
long bs o = slice_index bs o * 16777216 + slice_index bs (o + 1) * 65536 + slice_index bs (o + 2) * 256 + slice_index bs (o + 3)
