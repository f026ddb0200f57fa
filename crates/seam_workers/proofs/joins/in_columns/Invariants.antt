use Rattle.std.proofs.Common.{◌≡◌, map}
use Rattle.seam_workers.proofs.joins.in_columns.Given as goal

abbrev pub invariant-loop-apart : goal.invariant-loop-apart
invariant-loop-apart g l = record {
  nodes : l.nodes.items ≡ map (λ v. v.node) l.yielded;
  logs : map (λ v. v.items) l.logs.items ≡ map (λ v. v.log) l.yielded;
  hands : map (λ h. h.items) l.hands.items ≡ map (λ v. v.hand) l.yielded;
  ends : l.all_ends.items ≡ map (λ v. v.ends) l.yielded;
}
