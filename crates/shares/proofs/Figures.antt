-- The worked figures: antt computes the whole table.
use Rattle.std.proofs.Common.{refl}
use Rattle.shares.specs.Sums.{total, sum_to, total_where, sum_where}
use Rattle.shares.specs.Trees.{over_class, over_members, over_embedded, over_networks, member_sum, monitor_sum}
use Rattle.shares.specs.Rules.{loss_of, flow_reading, sign_reading}
use Rattle.shares.specs.Carry.{carry, share, borne_in}
use Rattle.shares.specs.Hours.{loss, charges, charge, excess_of, borne, burden, unborne_of, adjusted, final, root_net, billed_net, unborne, excess, account, point_figures}
use Rattle.shares.specs.Worked.{table, TableHolds}

pub table_holds : TableHolds
unfolding total sum_to total_where sum_where over_class over_members over_embedded over_networks member_sum monitor_sum loss_of flow_reading sign_reading carry share borne_in loss charges charge excess_of borne burden unborne_of adjusted final root_net billed_net unborne excess account point_figures table
table_holds = refl
