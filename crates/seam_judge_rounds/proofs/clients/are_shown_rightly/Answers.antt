use Rattle.std.proofs.Common.{◌∙◌, ap, map, List}
use Rattle.seam_rule_rounds.specs.Lines.{ClientLine, RoundData}
use Rattle.seam_judge_data.specs.Standings.{standing_of}
use Rattle.seam_judge_rounds.proofs.ShownLines.{lines_decided, rise_of, only_of}
use Rattle.seam_judge_rounds.proofs.clients.are_shown_rightly.Goals as goal

pub returns : goal.returns
returns c =
    let shown = c.deref.ensures.value ∙ ap (λ (r : RoundData). r.shown) c.round.view_is in
    let again = c.deref-3.ensures.value ∙ ap (λ (r : RoundData). r.shown) c.round.view_is in
    lines_decided c.args.case.now.header.now (standing_of c.args.case.now.before.now) c.args.case.now.round.now
    (standing_of c.args.case.now.after.now) c.args.clients.now c.do_rise-rise.result c.in_ok-only.only c.in_ok-each.each c.both.result
    c.both-2.result
    (rise_of c.args.case.now.round.now c.deref-2.result.now c.do_rise-rise.result
    (c.deref-2.ensures.value ∙ c.in_ok-entities.ensures ∙ ap (λ (ls : List ClientLine). map (λ l. l.entity) ls) shown)
    c.do_rise-rise.ensures)
    (only_of (standing_of c.args.case.now.before.now) c.args.case.now.round.now c.deref-3.result.now c.in_ok-only.only again
    c.in_ok-only.ensures)
    c.in_ok-each.ensures c.both.ensures c.both-2.ensures
