use Rattle.seam_law_forms.proofs.Rounds.{leaves_book, leaves_homes}
use Rattle.seam_law_forms.proofs.laws.a_legal_round_leaves_homes_in_cells.Goals as goal

pub returns-clause-book : goal.returns-clause-book
returns-clause-book c = leaves_book

pub returns-clause-homes : goal.returns-clause-homes
returns-clause-homes c = leaves_homes
