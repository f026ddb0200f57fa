use Rattle.std.proofs.Common.{take}
use Rattle.seam_tree.specs.Division.{IsTree}
use Rattle.seam_tree.specs.Change.{CameBy}
use Rattle.seam_balance.specs.Balance.{BalancedInTurn, HasSameCuts}
use Rattle.seam_balance.proofs.balance.Given as goal

abbrev pub invariant-loop-b : goal.invariant-loop-b
invariant-loop-b l = record {
  chosen : BalancedInTurn l.positions l.shift l.tree (take l.b-index l.b-items) l.balanced;
  tree : IsTree l.balanced;
  came : CameBy l.tree l.balanced;
  cuts : HasSameCuts l.tree l.balanced;
}
