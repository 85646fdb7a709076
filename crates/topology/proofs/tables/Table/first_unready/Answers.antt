use Rattle.std.proofs.Common.{◌≡◌, true, false, length, ap, ◌∙◌, rules, tests, arith}
use Rattle.points.specs.Points.{roots}
use Rattle.std.proofs.lemmas.Iterator.{first_from_Range}
use Rattle.topology.specs.Tables.{listed}
use Rattle.topology.proofs.Ready.{memberless, ready_from}
use Rattle.topology.proofs.tables.Table.first_unready.Goals as goal

pub returns : goal.returns
returns c =
    let ps = listed c.args.self.now in
    let rooted : roots ps ≡ 0 → ⊥ = λ none. c.if-roots-eq0.false (c.roots.ensures ∙ none) in
    ready_from ps rooted _ _ (omega arith) (omega (arith, ap length c.points.ensures)) c.find.result
    (first_from_Range _ _ _ _ (λ m. memberless ps m ≡ true) (λ m. memberless ps m ≡ false) c.find.ensures.ran
    (λ x q k. grind (arith, tests)) (λ x q k. (search rules, grind (arith, tests))))
