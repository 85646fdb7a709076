-- A profile: one point, with an amount for each hour of the day, spread over the hour's intervals.
use Rattle.std.specs.Prelude.{◌≡◌, ℕ, ◌+◌, ◌-◌, ◌*◌, ◌/◌, ◌%◌, ◌<◌, ◌≤◌, if◌then◌else◌, List, Some, None, ◌==◌, slice_index}
use Rattle.terms.specs.Channels.{place_at}
use Rattle.terms.specs.declared.channels.Channel.{Channel}
use Rattle.terms.specs.declared.channels.Channel.TheVariants.{C, G}
use Rattle.readings.specs.Hours.{hour_sum}
use Rattle.readings.specs.Places.{Readings, Usable}

-- the limit of an hourly amount, in Wh
abbrev pub hour_limit : ℕ
hour_limit = 180000000

-- the part of an hour's amount a that interval k of the hour has
abbrev pub part : ℕ → ℕ → ℕ
part a k = (k + 1) * a / 12 - k * a / 12

-- on channel C the part, on channel G 0
abbrev pub on_channel : Channel → ℕ → ℕ
on_channel C x = x
on_channel G x = 0

-- what a profile has at a place
abbrev pub profile_at : ℕ → List ℕ → Readings
profile_at point amounts p =
    if p.point == point then Some (on_channel p.channel (part (slice_index amounts (p.interval / 12 % 24)) (p.interval % 12))) else None

abbrev pub Within : List ℕ → Type 0
Within amounts = (h : ℕ) → h < 24 → slice_index amounts h ≤ hour_limit

-- hour h is the first whose amount is above the limit
pub record FirstOver (amounts : List ℕ) (h : ℕ) : Type 0 where
  pub in_day : h < 24
  pub over : hour_limit < slice_index amounts h
  pub first : (g : ℕ) → g < h → slice_index amounts g ≤ hour_limit

-- Every hour sums to its amount on C and to 0 on G, and every interval is usable.
pub record Spread (point : ℕ) (amounts : List ℕ) : Type 0 where
  pub on_c : (h : ℕ) → hour_sum (profile_at point amounts) point C h ≡ slice_index amounts (h % 24)
  pub on_g : (h : ℕ) → hour_sum (profile_at point amounts) point G h ≡ 0
  pub usable : (c : Channel) (i : ℕ) → Usable (profile_at point amounts (place_at point c i))
