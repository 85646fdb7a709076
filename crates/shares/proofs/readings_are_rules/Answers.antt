use Rattle.shares.proofs.Rules.{readings_are_rules}
use Rattle.shares.proofs.readings_are_rules.Goals as goal

-- The check finds the theorem neither alone nor where the function names it.
pub returns : goal.returns
returns c = readings_are_rules
