-- The run of an hour: what it tests, in order, and what it writes.
use Rattle.std.specs.Prelude.{ℕ, ◌+◌, ◌*◌, if◌then◌else◌, ◌&&◌, List, [], ◌∷◌, ◌++◌, length, drop, ℤ, nat_le, unsigned_abs}
use Rattle.terms.specs.Answers.{Answer, gives, refuses, tested, ◌thereafter◌, in_order}
use Rattle.terms.specs.Channels.{ordinal}
use Rattle.terms.specs.declared.channels.Channel.{Channel}
use Rattle.terms.specs.declared.channels.Channel.TheVariants.{C, G}
use Rattle.points.specs.Points.{is_network}
use Rattle.points.specs.declared.classes.Point.{Point}
use Rattle.readings.specs.Hours.{hour_tests}
use Rattle.readings.specs.Places.{Readings}
use Rattle.shares.specs.Rules.{Rule}
use Rattle.shares.specs.Hours.{Hour, hour_of, burden, figures_of}

-- how many numbers the figures of n points take, and how many the work area has at least
abbrev pub figure_count : ℕ → ℕ
figure_count n = 5 + 4 * n

abbrev pub work_size : ℕ → ℕ
work_size n = 8 * n + 128

-- the most that a burden may be, either way
abbrev pub burden_limit : ℕ
burden_limit = 30000000000

-- refusal 11: the work area or the memory for the figures is too short
abbrev pub room_test : ℕ → ℕ → ℕ → ℕ → Answer (Unit {0})
room_test n h work figures = tested (nat_le (work_size n) work && nat_le (figure_count n) figures) 11 (h ∷ []) (gives tt)

-- refusal 10: a burden z of network m on a channel is beyond the limit
abbrev pub limit_test : ℤ → ℕ → Channel → Answer (Unit {0})
limit_test z m c = tested (nat_le (unsigned_abs z) burden_limit) 10 (m ∷ ordinal c ∷ []) (gives tt)

abbrev pub burden_test : Hour → ℕ → Channel → Answer (Unit {0})
burden_test x m c = limit_test (burden x c m) m c

abbrev pub network_tests : Hour → ℕ → Answer (Unit {0})
network_tests x m = if is_network x.points m then burden_test x m C thereafter burden_test x m G else gives tt

-- the networks in order, the main one first, C before G
unfoldable pub burden_tests : Hour → Answer (Unit {0})
burden_tests x = in_order (network_tests x) (length x.points + 1)

-- readings first, and then the burdens
abbrev pub calculation_tests : List Point → Rule → Readings → ℕ → Answer (Unit {0})
calculation_tests ps rule at h = hour_tests at (length ps) h thereafter burden_tests (hour_of ps rule at h)

-- all tests of a run, with so many numbers of work area and so many for the figures
abbrev pub run_tests : List Point → Rule → Readings → ℕ → ℕ → ℕ → Answer (Unit {0})
run_tests ps rule at h work figures = room_test (length ps) h work figures thereafter calculation_tests ps rule at h

-- what the memory for the figures holds after a run: the figures, and behind them what was there; a refusal writes
-- none
abbrev pub written_by : Answer (Unit {0}) → Hour → List ℤ → List ℤ
written_by (gives u) x old = figures_of x ++ drop (figure_count (length x.points)) old
written_by (refuses n place) x old = old
