-- The shape of a line, byte by byte: what a reader looks at.
use Rattle.std.specs.Prelude.{◌≡◌, ℕ, ◌<◌, Bool, not, ◌&&◌, ◌||◌, List, [], ◌∷◌, ◌++◌, length, decimal, ◌==◌, ◌≢◌, nat_le, slice_index}
use Rattle.std.specs.Char.{is_ascii_digit}
use Rattle.std.specs.List.{prefix_len}
use Rattle.treetext.specs.Text.{line_of}

-- a parent and a line feed
abbrev pub parent_field : ℕ → List ℕ
parent_field parent = decimal parent ++ (10 ∷ [])

-- how many digits the text begins with
abbrev pub digits_ahead : List ℕ → ℕ
digits_ahead text = prefix_len is_ascii_digit text

-- the digits are one to three, and no zero before others
abbrev pub plain : List ℕ → Bool
plain digits = not (length digits == 0) && nat_le (length digits) 3 && (length digits == 1 || not (slice_index digits 0 == 48))

-- the text begins with this parent and its line feed, and then comes the rest
pub record OpensParent (text : List ℕ) (parent : ℕ) (rest : List ℕ) : Type 0 where
  pub three : parent < 1000
  pub line : text ≡ parent_field parent ++ rest

-- the text begins with a line for this letter and parent, and then comes the rest
pub record Opens (text : List ℕ) (letter parent : ℕ) (rest : List ℕ) : Type 0 where
  pub three : parent < 1000
  pub line : text ≡ line_of letter parent ++ rest

abbrev pub NoParent : List ℕ → Type 0
NoParent text = (parent : ℕ) (rest : List ℕ) → parent < 1000 → text ≢ parent_field parent ++ rest
