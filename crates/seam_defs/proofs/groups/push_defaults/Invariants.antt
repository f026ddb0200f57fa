use Rattle.std.proofs.Common.{◌≡◌, ◌++◌, map}
use Rattle.seam_defs.specs.Deeds.{start_values}
use Rattle.seam_defs.specs.Remaining.{properties_left}
use Rattle.seam_defs.proofs.groups.push_defaults.Given as goal

abbrev pub invariant-loop-property : goal.invariant-loop-property
invariant-loop-property l =
    l.out.items ++ map (λ p. p.default) (properties_left l.property-iterator)
    ≡ l.initial.out.items ++ start_values l.properties l.fn.group
