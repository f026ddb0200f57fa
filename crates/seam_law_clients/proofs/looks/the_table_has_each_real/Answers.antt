use Rattle.seam_law_clients.proofs.Prelude.{◌∙◌, counted_none}
use Rattle.seam_law_clients.proofs.Rows.{row_found}
use Rattle.seam_law_clients.proofs.OneLook.{row_there, row_nowhere}
use Rattle.seam_law_clients.proofs.looks.the_table_has_each_real.Goals as goal

pub returns-clause-there : goal.returns-clause-there
returns-clause-there c f w between e k r at = row_found w e ∙ row_there f w between e k r at

pub returns-clause-none : goal.returns-clause-none
returns-clause-none c f w between e zero = row_found w e ∙ row_nowhere f w between e (counted_none w e zero).slots
