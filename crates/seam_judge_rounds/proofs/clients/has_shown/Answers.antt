use Rattle.seam_judge_data.specs.Standings.{standing_of}
use Rattle.seam_judge_rounds.proofs.ShownLines.{shown_decided}
use Rattle.seam_judge_rounds.proofs.clients.has_shown.Goals as goal

pub returns : goal.returns
returns c =
    shown_decided c.args.case.now.header.now (standing_of c.args.case.now.before.now) c.args.case.now.round.now
    (standing_of c.args.case.now.after.now) c.args.clients.now c.requires c.in_ok-rightly.rightly c.in_ok-told.told c.both.result
    c.in_ok-rightly.ensures c.in_ok-told.ensures c.both.ensures
