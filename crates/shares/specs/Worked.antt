-- Worked figures, as one table.
use Rattle.std.specs.Prelude.{◌≡◌, ℕ, zero, suc, List, [], ◌∷◌, map, length, ℤ, pos, negsuc, slice_index}
use Rattle.terms.specs.declared.channels.Channel.{Channel}
use Rattle.terms.specs.declared.channels.Channel.TheVariants.{C, G}
use Rattle.terms.specs.Channels.{place_at}
use Rattle.points.specs.declared.classes.Class.{Class}
use Rattle.points.specs.declared.classes.Class.TheVariants.{Root, Member, Monitor, Embedded}
use Rattle.points.specs.declared.classes.Point.{Point}
use Rattle.readings.specs.Hours.{amount_of}
use Rattle.readings.specs.Profiles.{profile_at}
use Rattle.shares.specs.Rules.{Rule, flow_reading, sign_reading}
use Rattle.shares.specs.Hours.{Hour, loss, account, point_figures}

-- What is worked out: the figures of an hour, from the hour values on C and on G of the points in order (what is not
-- listed is 0), or the first n intervals of a profile whose hours all have one amount.
pub data Case : Type 0 where
  hour : List Point → Rule → List ℕ → List ℕ → Case
  profile : ℕ → ℕ → Case

abbrev pub listed_on : List ℕ → List ℕ → Channel → ℕ → ℕ
listed_on on_c on_g c zero = 0
listed_on on_c on_g C (suc k) = slice_index on_c k
listed_on on_c on_g G (suc k) = slice_index on_g k

-- f 1, and so on, n of them from k on
abbrev pub from : {A : Type 0} → ℕ → ℕ → (ℕ → A) → List A
from k zero f = []
from k (suc n) f = f k ∷ from (suc k) n f

-- the loss of the main network, the account, and the figures of each point
abbrev pub hour_figures : Hour → List (List ℤ)
hour_figures x = (loss x 0 ∷ []) ∷ account x ∷ from 1 (length x.points) (point_figures x)

abbrev pub worked : Case → List (List ℤ)
worked (hour ps rule on_c on_g) = hour_figures (record { points = ps; rule = rule; values = listed_on on_c on_g })
worked (profile a n) = from 0 n (λ i. pos (amount_of (profile_at 1 (a ∷ []) (place_at 1 C i))) ∷ [])

abbrev pub at : Class → ℕ → Point
at c m = record { class = c; parent = m }

abbrev pub two_members : List Point
two_members = at Root 0 ∷ at Member 0 ∷ at Member 0 ∷ []

abbrev pub one_member : List Point
one_member = at Root 0 ∷ at Member 0 ∷ []

abbrev pub with_embedded : List Point
with_embedded = at Root 0 ∷ at Member 0 ∷ at Member 0 ∷ at Embedded 3 ∷ []

abbrev pub dependent : List Point
dependent = at Root 0 ∷ at Member 0 ∷ at Monitor 0 ∷ at Member 3 ∷ at Member 3 ∷ []

abbrev pub zeros : List ℤ
zeros = pos 0 ∷ pos 0 ∷ pos 0 ∷ pos 0 ∷ []

-- a row: a case, and its figures
pub record Row : Type 0 where
  pub case : Case
  pub figures : List (List ℤ)

unfoldable pub table : List Row
table =
    -- a loss of 100 is borne 33 and 67
    record {
      case = hour two_members flow_reading (1000 ∷ 300 ∷ 600 ∷ []) [];
      figures = (pos 100 ∷ []) ∷ (pos 1000 ∷ pos 1000 ∷ pos 0 ∷ pos 0 ∷ pos 0 ∷ [])
          ∷ (pos 0 ∷ pos 0 ∷ pos 1000 ∷ pos 0 ∷ []) ∷ (pos 33 ∷ pos 0 ∷ pos 333 ∷ pos 0 ∷ []) ∷ (pos 67 ∷ pos 0 ∷ pos 667 ∷ pos 0 ∷ []) ∷ [];
    }
    -- the same with 150 embedded in the second member
    ∷ record {
      case = hour with_embedded flow_reading (1000 ∷ 300 ∷ 600 ∷ 150 ∷ []) [];
      figures = (pos 100 ∷ []) ∷ (pos 1000 ∷ pos 1000 ∷ pos 0 ∷ pos 0 ∷ pos 0 ∷ [])
          ∷ (pos 0 ∷ pos 0 ∷ pos 1000 ∷ pos 0 ∷ []) ∷ (pos 33 ∷ pos 0 ∷ pos 333 ∷ pos 0 ∷ []) ∷ (pos 67 ∷ pos 0 ∷ pos 517 ∷ pos 0 ∷ []) ∷ (pos 0 ∷ pos 0 ∷ pos 150 ∷ pos 0 ∷ []) ∷ [];
    }
    -- a loss of 2 on generation, by the flow
    ∷ record {
      case = hour two_members flow_reading [] (98 ∷ 60 ∷ 40 ∷ []);
      figures = (pos 2 ∷ []) ∷ (negsuc 97 ∷ negsuc 97 ∷ pos 0 ∷ pos 0 ∷ pos 0 ∷ [])
          ∷ (pos 0 ∷ pos 0 ∷ pos 0 ∷ pos 98 ∷ []) ∷ (pos 0 ∷ pos 1 ∷ pos 0 ∷ pos 59 ∷ []) ∷ (pos 0 ∷ pos 1 ∷ pos 0 ∷ pos 39 ∷ []) ∷ [];
    }
    -- and by its sign, where nobody consumes: it is unborne on C
    ∷ record {
      case = hour two_members sign_reading [] (98 ∷ 60 ∷ 40 ∷ []);
      figures = (pos 2 ∷ []) ∷ (negsuc 97 ∷ negsuc 99 ∷ pos 2 ∷ pos 0 ∷ pos 0 ∷ [])
          ∷ (pos 0 ∷ pos 0 ∷ pos 0 ∷ pos 98 ∷ []) ∷ (pos 0 ∷ pos 0 ∷ pos 0 ∷ pos 60 ∷ []) ∷ (pos 0 ∷ pos 0 ∷ pos 0 ∷ pos 40 ∷ []) ∷ [];
    }
    -- a loss of -2, by the flow
    ∷ record {
      case = hour one_member flow_reading (10 ∷ 12 ∷ []) [];
      figures = (negsuc 1 ∷ []) ∷ (pos 10 ∷ pos 10 ∷ pos 0 ∷ pos 0 ∷ pos 0 ∷ [])
          ∷ (pos 0 ∷ pos 0 ∷ pos 10 ∷ pos 0 ∷ []) ∷ (negsuc 1 ∷ pos 0 ∷ pos 10 ∷ pos 0 ∷ []) ∷ [];
    }
    -- and by its sign: 2 unborne on G, and a sign excess of 4
    ∷ record {
      case = hour one_member sign_reading (10 ∷ 12 ∷ []) [];
      figures = (negsuc 1 ∷ []) ∷ (pos 10 ∷ pos 12 ∷ pos 0 ∷ pos 2 ∷ pos 4 ∷ [])
          ∷ (pos 0 ∷ pos 0 ∷ pos 10 ∷ pos 0 ∷ []) ∷ (pos 0 ∷ pos 0 ∷ pos 12 ∷ pos 0 ∷ []) ∷ [];
    }
    -- all amounts 0, by either reading
    ∷ record {
      case = hour with_embedded flow_reading [] [];
      figures = (pos 0 ∷ []) ∷ (pos 0 ∷ zeros) ∷ zeros ∷ zeros ∷ zeros ∷ zeros ∷ [];
    }
    ∷ record {
      case = hour with_embedded sign_reading [] [];
      figures = (pos 0 ∷ []) ∷ (pos 0 ∷ zeros) ∷ zeros ∷ zeros ∷ zeros ∷ zeros ∷ [];
    }
    -- a monitor passes down what it bears
    ∷ record {
      case = hour dependent flow_reading (1000 ∷ 400 ∷ 500 ∷ 300 ∷ 180 ∷ []) [];
      figures = (pos 100 ∷ []) ∷ (pos 1000 ∷ pos 1000 ∷ pos 0 ∷ pos 0 ∷ pos 0 ∷ [])
          ∷ (pos 0 ∷ pos 0 ∷ pos 1000 ∷ pos 0 ∷ []) ∷ (pos 44 ∷ pos 0 ∷ pos 444 ∷ pos 0 ∷ []) ∷ (pos 56 ∷ pos 0 ∷ pos 556 ∷ pos 0 ∷ [])
          ∷ (pos 47 ∷ pos 0 ∷ pos 347 ∷ pos 0 ∷ []) ∷ (pos 29 ∷ pos 0 ∷ pos 209 ∷ pos 0 ∷ []) ∷ [];
    }
    -- a profile's hour of 100 begins with 8, 8 and 9
    ∷ record { case = profile 100 3; figures = (pos 8 ∷ []) ∷ (pos 8 ∷ []) ∷ (pos 9 ∷ []) ∷ [] }
    ∷ []

-- every row of the table has the figures of its case
abbrev pub TableHolds : Type 0
TableHolds = map (λ (r : Row). worked r.case) table ≡ map (λ (r : Row). r.figures) table
