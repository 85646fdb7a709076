use Rattle.std.proofs.Common.{rules}
use Rattle.topology.specs.Numbers.{picks}
use Rattle.topology.specs.Tables.{listed}
use Rattle.topology.proofs.Picking.{found}
use Rattle.topology.proofs.numbers.NumbersIterator.next.Goals as goal

pub returns-clause-steps : goal.returns-clause-steps
returns-clause-steps c =
    found (picks (listed c.args.self.now.table.now) c.args.self.now.choice) _ _ (λ x q h. search rules) (λ x q h. search rules)
    _ _ _ c.find.ensures.ran
