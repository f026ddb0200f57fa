use Rattle.std.proofs.lemmas.Result.{on_ok_weaker}
use Rattle.seam_rule_rounds.specs.RoundTexts.{journal_text}
use Rattle.seam_report.proofs.Parts.{in_three_parts}
use Rattle.seam_report.proofs.round.write_traced_round.Goals as goal

pub returns : goal.returns
returns c =
    on_ok_weaker c.push_lines.result
    (in_three_parts c.args.out.now.items (journal_text c.args.steps.now) c.args.defs.now c.args.round.now c.push_round_number.new.out.items
    c.push_journal.new.out.items c.push_lines.new.out.items c.in_ok-push_round_number.ensures c.in_ok-push_journal.ensures)
    c.push_lines.ensures
