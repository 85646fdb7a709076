-- How far a run has come with the networks of an hour.
use Rattle.std.specs.Prelude.{◌≡◌, ℕ, suc, ◌*◌, ◌<◌, ◌≤◌, if◌then◌else◌, ◌&&◌, List, length, ℤ, pos, nat_lt, slice_index_or, unsigned_abs}
use Rattle.terms.specs.declared.channels.Channel.{Channel}
use Rattle.terms.specs.declared.channels.Channel.TheVariants.{C, G}
use Rattle.points.specs.Classes.{is_member}
use Rattle.points.specs.Points.{class_of, parent_of}
use Rattle.shares.specs.Hours.{Hour, borne, unborne_of, unborne, excess_of, excess}
use Rattle.shares.specs.Rules.{sum_limit}
use Rattle.shares.specs.Runs.{burden_limit}
use Rattle.losses.specs.Finals.{AtMost}
use Rattle.losses.specs.declared.networks.Remainder.{Remainder}

-- on channel c the members of the networks below n have what they bear, and every other entry is 0
abbrev pub Done : Hour → Channel → ℕ → List ℤ → Type 0
Done x c n bs =
    (k : ℕ) → k < length x.points
    → slice_index_or bs k (pos 0) ≡ (if is_member (class_of x.points (suc k)) && nat_lt (parent_of x.points (suc k)) n then borne x c (suc k) else pos 0)

-- the most that a network adds to the sign excess, by what its charges and its loss come to
abbrev pub excess_most : ℕ
excess_most = 12 * sum_limit

-- what is left of k networks is not larger than this
pub record Small (k : ℕ) (r : Remainder) : Type 0 where
  pub on_c : unsigned_abs r.unborne_c.0 ≤ k * burden_limit
  pub on_g : unsigned_abs r.unborne_g.0 ≤ k * burden_limit
  pub over : unsigned_abs r.excess ≤ k * excess_most

-- network m is settled: its members have what they bear, and r is what it leaves
pub record Settled (x : Hour) (m : ℕ) (bc bg : List ℤ) (r : Remainder) : Type 0 where
  pub done_c : Done x C (suc m) bc
  pub done_g : Done x G (suc m) bg
  pub unborne_c : r.unborne_c.0 ≡ unborne_of x C m
  pub unborne_g : r.unborne_g.0 ≡ unborne_of x G m
  pub excess_over : r.excess ≡ excess_of x m
  pub small : Small 1 r

-- every point has what it bears on channel c, and no entry is beyond the limit of a burden
pub record Borne (x : Hour) (c : Channel) (bs : List ℤ) : Type 0 where
  pub bears : (k : ℕ) → k < length x.points → slice_index_or bs k (pos 0) ≡ borne x c (suc k)
  pub light : AtMost burden_limit bs

-- all networks are settled, and r is what they leave together
pub record AllSettled (x : Hour) (bc bg : List ℤ) (r : Remainder) : Type 0 where
  pub borne_c : Borne x C bc
  pub borne_g : Borne x G bg
  pub unborne_c : r.unborne_c.0 ≡ unborne x C
  pub unborne_g : r.unborne_g.0 ≡ unborne x G
  pub excess_over : r.excess ≡ excess x
