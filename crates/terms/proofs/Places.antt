-- Places with the same parts are the same.
use Rattle.std.proofs.Common.{◌≡◌, ap, ◌∙◌}
use Rattle.terms.specs.Channels.{place_at}
use Rattle.terms.specs.declared.channels.Place.{Place}

pub same_place : (q p : Place) → q.point ≡ p.point → q.channel ≡ p.channel → q.interval ≡ p.interval → q ≡ p
same_place q p a b e =
    ap (λ n. place_at n q.channel q.interval) a
    ∙ (ap (λ c. place_at p.point c q.interval) b ∙ ap (λ i. place_at p.point p.channel i) e)
