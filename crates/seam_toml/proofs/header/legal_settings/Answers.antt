use Rattle.seam_toml.proofs.AnswerLemmas.{is_table}
use Rattle.seam_toml.proofs.Existence.{no_table_is_fault}
use Rattle.seam_toml.proofs.header.legal_settings.Goals as goal

pub returns-in-Some-as_table : goal.returns-in-Some-as_table
returns-in-Some-as_table c =
    rw (← c.in-Some.ensures, is_table _ _ c.in-Some-as_table.ensures) c.legal_settings_in.ensures

pub returns-in-None-as_table : goal.returns-in-None-as_table
returns-in-None-as_table c = rw (← c.in-Some.ensures) (no_table_is_fault _ c.in-None-as_table.ensures)
