-- An amount that is written into a list of bytes.
use Rattle.std.proofs.Common.{◌≡◌, ℕ, ◌+◌, ◌-◌, ◌<◌, ◌≤◌, ◌⊎◌, List, length, get_or, take, length-append, length-drop, length-take-le, ap, ◌∙◌, inl, inr, arith, w32}
use Rattle.std.specs.Int.{to_be_bytes}
use Rattle.std.proofs.Math.ListN.{get_or-append}
use Rattle.std.proofs.lemmas.List.{get_or-append_right, get_or-take, get_or-drop}
use Rattle.std.proofs.lemmas.Nat.{from_be_bytes-to_be_bytes_4}
use borrow.Rule.Slice.PartMut.{put_mid}
use Rattle.readings.specs.Places.{limit}
use Rattle.books.specs.Bytes.{long}

-- a number v stands in the four bytes at `at`, and the others are as they were
pub record Put (at v : ℕ) (bs xs : List ℕ) : Type 0 where
  pub len : length xs ≡ length bs
  pub here : long xs at ≡ v
  pub others : (k : ℕ) → (k < at) ⊎ (at + 4 ≤ k) → get_or xs k 0 ≡ get_or bs k 0

-- a list after a write of n elements at `at`
module _ (at n : ℕ) (bs ys : List ℕ) (fits : at + n ≤ length bs) (size : length ys ≡ n) where
  front : length (take at bs) ≡ at
  front = length-take-le at bs (omega arith)

  put_length : length (put_mid at n bs ys) ≡ length bs
  put_length = grind (arith, length-append, length-drop, front)

  put_within : (j : ℕ) → j < n → get_or (put_mid at n bs ys) (at + j) 0 ≡ get_or ys j 0
  put_within j low = grind (arith, get_or-append_right, get_or-append, front)

  put_before : (k : ℕ) → k < at → get_or (put_mid at n bs ys) k 0 ≡ get_or bs k 0
  put_before k low = grind (arith, get_or-append, get_or-take, front)

  put_after : (k : ℕ) → at + n ≤ k → get_or (put_mid at n bs ys) k 0 ≡ get_or bs k 0
  put_after k high = grind (arith, get_or-append_right, get_or-drop, front)

pub put : (at v : ℕ) (bs ys : List ℕ) → at + 4 ≤ length bs → v ≤ limit → ys ≡ to_be_bytes w32 v → Put at v bs (put_mid at (at + 4 - at) bs ys)
put at v bs ys fits low e =
    let n = at + 4 - at in
    let room : at + (at + 4 - at) ≤ length bs = omega arith in
    let size : length ys ≡ at + 4 - at = ap length e ∙ omega arith in
    let byte : (j : ℕ) → j < 4 → get_or (put_mid at (at + 4 - at) bs ys) (at + j) 0 ≡ get_or (to_be_bytes w32 v) j 0
    = λ j lt. put_within at n bs ys room size j (omega arith) ∙ ap (λ l. get_or l j 0) e in
    let a = byte 0 (omega arith) in
    let b = byte 1 (omega arith) in
    let c = byte 2 (omega arith) in
    let d = byte 3 (omega arith) in
    let first : at + 0 ≡ at = omega arith in
    record {
      len = put_length at n bs ys room size;
      here = omega (arith, from_be_bytes-to_be_bytes_4 v (omega arith), rw first at a, b, c, d);
      others = λ k far. elim far [
        | inl before ↦ put_before at n bs ys room size k before
        | inr after ↦ put_after at n bs ys room size k (omega arith)
      ];
    }
