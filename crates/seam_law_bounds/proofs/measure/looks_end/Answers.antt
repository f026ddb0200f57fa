use Rattle.seam_law_bounds.proofs.LookRecords.{clients_keep_room, looks_are_bounded}
use Rattle.seam_law_bounds.proofs.measure.looks_end.Goals as goal

pub returns-clause-bound : goal.returns-clause-bound
returns-clause-bound c = λ f u between parts small none us ws among vs v run.
    looks_are_bounded f u between parts small none us ws among vs v run

pub returns-clause-clients : goal.returns-clause-clients
returns-clause-clients c = λ f u between parts small none. clients_keep_room f u between parts small none
