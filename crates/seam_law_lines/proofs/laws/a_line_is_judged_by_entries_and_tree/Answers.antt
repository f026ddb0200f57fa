use Rattle.seam_law_lines.proofs.Judged.{judged_too}
use Rattle.seam_law_lines.proofs.laws.a_line_is_judged_by_entries_and_tree.Goals as goal

pub returns : goal.returns
returns c = judged_too
