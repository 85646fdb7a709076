use Rattle.shares.proofs.Figures.{table_holds}
use Rattle.shares.proofs.table_holds.Goals as goal

-- The check finds the theorem neither alone nor where the function names it.
pub returns : goal.returns
returns c = table_holds
