use Rattle.seam_law_bounds.proofs.Nothing.{calls_end_nothing, looks_end_nothing}
use Rattle.seam_law_bounds.proofs.Opening.{opened_nothing}
use Rattle.seam_law_bounds.proofs.measure.nothing_held_goes_from_record_to_record.Goals as goal

pub returns-clause-opened : goal.returns-clause-opened
returns-clause-opened c = opened_nothing

pub returns-clause-calls : goal.returns-clause-calls
returns-clause-calls c = λ f w b may none v es run quiet. calls_end_nothing f w b may none v es run quiet

pub returns-clause-looks : goal.returns-clause-looks
returns-clause-looks c = λ f u between parts small none vs v run quiet. looks_end_nothing f u between parts small none vs v run quiet
