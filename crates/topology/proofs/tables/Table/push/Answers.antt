use Rattle.std.proofs.Common.{sym, subst}
use Rattle.points.specs.Rules.{Limited, Placed}
use Rattle.points.proofs.Grows.{placed_grow, limited_grow}
use Rattle.topology.specs.Tables.{listed}
use Rattle.topology.proofs.tables.Table.push.Goals as goal

pub invariant_of-self-clause-placed : goal.invariant_of-self-clause-placed
invariant_of-self-clause-placed c =
    subst Placed (sym c.push_reserved.ensures.items)
    (placed_grow (listed c.args.self.now) c.args.point c.args.self.now.placed c.requires.fits)

pub invariant_of-self-clause-limited : goal.invariant_of-self-clause-limited
invariant_of-self-clause-limited c =
    subst Limited (sym c.push_reserved.ensures.items)
    (limited_grow (listed c.args.self.now) c.args.point c.args.self.now.placed c.requires.fits c.requires.room c.args.self.now.limited c.requires.few)
