use Rattle.std.proofs.Common.{◌≡◌, []}
use Rattle.std.specs.List.{AllWithin}
use Rattle.seam_entity.proofs.orders.holds_none.Given as goal

-- nothing is held by the orders so far
abbrev pub invariant-loop-entry : goal.invariant-loop-entry
invariant-loop-entry l = AllWithin (λ p. p.1.held ≡ []) l.entries 0 l.entry-index
