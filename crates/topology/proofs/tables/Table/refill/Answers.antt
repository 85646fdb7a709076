use Rattle.std.proofs.Common.{◌≡◌, ◌≤◌, length, sym, subst, rules}
use Rattle.points.specs.Rules.{Limited, Placed}
use Rattle.topology.specs.Tables.{listed}
use Rattle.topology.proofs.tables.Table.refill.Goals as goal

pub invariant_of-self : goal.invariant_of-self
invariant_of-self c =
    let few : length (listed c.args.from.now) ≤ 128 = c.args.from.now.limited.0 in
    let same : c.extend_from_slice.new.self.items ≡ listed c.args.from.now = search rules in
    record {
      room = search rules;
      placed = subst Placed (sym same) c.args.from.now.placed;
      limited = subst Limited (sym same) c.args.from.now.limited;
    }
