use Rattle.std.proofs.Common.{◌≡◌, take}
use Rattle.std.specs.List.{All}
use Rattle.seam_machine.proofs.sends.all_go.Given as goal

abbrev pub invariant-loop-sent : goal.invariant-loop-sent
invariant-loop-sent g l = All (λ p. p.0 ≡ l.to) (take l.sent-index l.items)
