use Rattle.std.proofs.Common.{◌≡◌, ◌+◌}
use Rattle.std.specs.List.{fold, sum_by}
use Rattle.seam_world_text.specs.Sums.{shown_count}
use Rattle.seam_world_text.proofs.sums.count_told.Given as goal

abbrev pub invariant-loop-resident : goal.invariant-loop-resident
invariant-loop-resident l =
    fold (λ n e. n + shown_count l.kept l.world e.1) l.count l.resident-iterator
    ≡ sum_by (λ e. shown_count l.kept l.world e.1) l.residents.entries
