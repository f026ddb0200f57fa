use Rattle.seam_law_rounds.proofs.Prelude.{sym, ap, ◌∙◌, copy_in, real_in}
use Rattle.seam_law_rounds.proofs.Opened.{opened_is_new, opened_has_none}
use Rattle.seam_law_rounds.proofs.BaseCallsEnd.{calls_end_with_parts, calls_end_small}
use Rattle.seam_law_rounds.proofs.Calms.{reaps_end_with_parts, reaps_end_small, look_ends_with_parts}
use Rattle.seam_law_rounds.proofs.base_parts.base_parts_go_from_record_to_record.Goals as goal

pub returns-clause-opened : goal.returns-clause-opened
returns-clause-opened c = λ defs settings frame bases. record {
  parts = λ e k r at. absurd (let z = sym (opened_has_none defs settings frame bases e k) ∙ at in cc);
  clients = λ e k r at. absurd (let z = sym (opened_has_none defs settings frame bases e k) ∙ at in cc);
  entities = λ e le k.
      let new = opened_is_new defs settings frame bases e k in
      record { real = ap real_in new; copy = ap (λ h. copy_in h.cell.slot.ghost) new };
  views = λ e k r at. absurd (let z = sym (opened_has_none defs settings frame bases e k) ∙ at in cc);
}

pub returns-clause-calls : goal.returns-clause-calls
returns-clause-calls c = λ f w b may v es run quiet. (
  calls_end_with_parts f w b may v es run quiet,
  calls_end_small f w b may v es run,
)

pub returns-clause-reaps : goal.returns-clause-reaps
returns-clause-reaps c = λ f u between parts small es may vs v run quiet. (
  reaps_end_with_parts f u between parts es small may vs v run quiet,
  reaps_end_small f u between parts es small may vs v run quiet,
)

pub returns-clause-looks : goal.returns-clause-looks
returns-clause-looks c = λ f u between parts small vs v run quiet. look_ends_with_parts f u between parts small vs v run quiet
