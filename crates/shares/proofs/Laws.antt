-- All laws of an hour together.
use Rattle.shares.specs.Laws.{LawsHold}
use Rattle.shares.proofs.Balance.{balanced}
use Rattle.shares.proofs.Branch.{comparable}
use Rattle.shares.proofs.Excess.{no_excess}
use Rattle.shares.proofs.Expanded.{expanded_so}
use Rattle.shares.proofs.Nearness.{near}
use Rattle.shares.proofs.Passing.{carried, decided}
use Rattle.shares.proofs.Shares.{add_up}

pub laws_hold : LawsHold
laws_hold x placed limited meaning range = record {
  decided = decided x placed;
  add_up = λ c. add_up x c (carried x placed c);
  balanced = balanced x placed (carried x placed);
  no_excess = no_excess x limited meaning range;
  near = near x placed;
  expanded_so = expanded_so x placed;
  comparable = comparable x placed;
}
