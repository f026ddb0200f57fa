use Rattle.seam_law_book.proofs.Untouched.{orderly}
use Rattle.seam_law_book.proofs.batches.uncreated_numbers_are_untouched.Goals as goal

pub returns : goal.returns
returns c h b legal of_lines e none = (orderly h b legal of_lines).untouched e none
