use Rattle.std.proofs.Common.{◌∙◌, ap}
use Rattle.std.specs.List.{list_any}
use Rattle.seam_rule_lines.specs.Book.{is_tick}
use Rattle.seam_judge_data.specs.Standings.{standing_of}
use Rattle.seam_judge_rounds.proofs.ShownLines.{looked_decided}
use Rattle.seam_judge_rounds.proofs.looked.has_looked.Goals as goal

pub returns : goal.returns
returns c =
    looked_decided c.args.case.now.header.now (standing_of c.args.case.now.before.now) c.args.case.now.round.now
    (standing_of c.args.case.now.after.now) c.args.live.now c.has_tick-ticked.result c.in_ok-nothing.nothing c.in_ok-one.one
    c.either.result c.both.result
    (c.has_tick-ticked.ensures ∙ ap (list_any is_tick) c.deref.ensures.value) c.in_ok-nothing.ensures c.in_ok-one.ensures c.either.ensures
    c.both.ensures
