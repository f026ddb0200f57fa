use Rattle.std.proofs.Common.{◌≡◌, ◌++◌}
use Rattle.std.specs.List.{flat_map}
use Rattle.seam_world_text.specs.Finding.{RoutesLeadHome, positions_found}
use Rattle.seam_world_text.proofs.ends.find_positions.Given as goal

abbrev pub invariant-loop-resident : goal.invariant-loop-resident
invariant-loop-resident l =
    RoutesLeadHome l.ended →
    l.positions.items ++ flat_map (λ e. positions_found l.ended e.1.made.entity) l.resident-iterator
    ≡ flat_map (λ e. positions_found l.ended e.1.made.entity) l.residents.entries
