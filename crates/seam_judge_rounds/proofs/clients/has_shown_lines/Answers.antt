use Rattle.seam_judge_data.specs.Standings.{standing_of}
use Rattle.seam_judge_expected.proofs.ListedLemmas.{if_ok}
use Rattle.seam_judge_rounds.proofs.ShownLines.{shown_after}
use Rattle.seam_judge_rounds.proofs.clients.has_shown_lines.Goals as goal

pub returns : goal.returns
returns c =
    if_ok c.are_shown_rightly.result
    (λ b decides. shown_after c.args.case.now.header.now (standing_of c.args.case.now.before.now) c.args.case.now.round.now
    (standing_of c.args.case.now.after.now) c.args.clients.now c.requires.listed c.requires.after b decides)
    c.are_shown_rightly.ensures
