use Rattle.seam_law_book.proofs.Untouched.{begun_of_lines}
use Rattle.seam_law_book.proofs.Round.{brings}
use Rattle.seam_law_book.proofs.batches.lines_bring_what_fits.Goals as goal

pub returns-clause-begun : goal.returns-clause-begun
returns-clause-begun c h b of_lines = begun_of_lines h b of_lines

pub returns-clause-brings : goal.returns-clause-brings
returns-clause-brings c h b legal of_lines = brings h b legal of_lines
