use Rattle.std.proofs.Common.{◌≡◌}
use Rattle.std.specs.Prelude.{pos}
use Rattle.std.specs.List.{fold}
use Rattle.seam_world_text.specs.Finding.{RoutesLeadHome}
use Rattle.seam_world_text.specs.Sums.{and_hp_found}
use Rattle.seam_world_text.proofs.sums.sum_homes.Given as goal

abbrev pub invariant-loop-resident : goal.invariant-loop-resident
invariant-loop-resident l =
    RoutesLeadHome l.world →
    fold (λ z e. and_hp_found l.world z e.1) l.sum l.resident-iterator ≡ fold (λ z e. and_hp_found l.world z e.1) (pos 0)
    l.residents.entries
