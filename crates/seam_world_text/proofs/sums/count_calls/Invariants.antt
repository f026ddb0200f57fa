use Rattle.std.proofs.Common.{◌≡◌, ◌+◌}
use Rattle.std.specs.List.{fold, sum_by}
use Rattle.seam_world_text.specs.Finding.{RoutesLeadHome}
use Rattle.seam_world_text.specs.Sums.{did_count}
use Rattle.seam_world_text.proofs.sums.count_calls.Given as goal

abbrev pub invariant-loop-resident : goal.invariant-loop-resident
invariant-loop-resident l =
    RoutesLeadHome l.world →
    fold (λ n e. n + did_count l.world e.1) l.count l.resident-iterator ≡ sum_by (λ e. did_count l.world e.1) l.residents.entries
