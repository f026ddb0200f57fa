use Rattle.seam_law_bounds.proofs.LookStarts.{round_is_bounded}
use Rattle.seam_law_bounds.proofs.There.{round_ends_by_records}
use Rattle.seam_law_bounds.proofs.measure.a_round_ends.Goals as goal

pub returns-clause-records : goal.returns-clause-records
returns-clause-records c = λ f w b may none copies sees v es run. round_ends_by_records f w b may copies sees none v es run

pub returns-clause-among : goal.returns-clause-among
returns-clause-among c = λ f w b may none us ws many among v es run. round_is_bounded f w b may none us ws many among v es run
