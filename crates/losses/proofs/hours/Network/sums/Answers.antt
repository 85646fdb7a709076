use Rattle.terms.specs.declared.channels.Channel.TheVariants.{C, G}
use Rattle.losses.proofs.Values.{is_sum, members_small, monitors_small}
use Rattle.losses.proofs.hours.Network.sums.Goals as goal

pub invariant_of-result : goal.invariant_of-result
invariant_of-result c = let n = c.args.self.now in record {
  mc = is_sum _ _ c.monitor_sum.ensures (monitors_small C n);
  mg = is_sum _ _ c.monitor_sum-2.ensures (monitors_small G n);
  sc = is_sum _ _ c.member_sum.ensures (members_small C n);
  sg = is_sum _ _ c.member_sum-2.ensures (members_small G n);
}
