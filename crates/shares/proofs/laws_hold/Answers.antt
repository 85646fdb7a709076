use Rattle.shares.proofs.Laws.{laws_hold}
use Rattle.shares.proofs.laws_hold.Goals as goal

-- The check finds the theorem neither alone nor where the function names it.
pub returns : goal.returns
returns c = laws_hold
