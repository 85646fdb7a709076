-- The two channels in their order, C before G, and places.
use Rattle.std.specs.Prelude.{ℕ}
use Rattle.terms.specs.declared.channels.Channel.{Channel}
use Rattle.terms.specs.declared.channels.Channel.TheVariants.{C, G}
use Rattle.terms.specs.declared.channels.Place.{Place}

abbrev pub ordinal : Channel → ℕ
ordinal C = 0
ordinal G = 1

-- the letter of a channel, by its code
abbrev pub letter_of : Channel → ℕ
letter_of C = 67
letter_of G = 71

abbrev pub place_at : ℕ → Channel → ℕ → Place
place_at p c i = record { point = p; channel = c; interval = i }
