use Rattle.std.proofs.Common.{◌≡◌, map, take}
use Rattle.std.specs.Map.{keys_of}
use Rattle.seam_view.proofs.departed.settled_of.Given as goal

abbrev pub invariant-loop-e : goal.invariant-loop-e
invariant-loop-e l = record {
  entities : l.made.entities.items ≡ keys_of (take l.e-index l.pairs);
  versions : l.made.versions.items ≡ map (λ p. p.1) (take l.e-index l.pairs);
}
