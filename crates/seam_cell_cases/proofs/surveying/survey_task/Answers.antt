use Rattle.std.proofs.Common.{rules, refl, ap, option_map, ◌∙◌}
use Rattle.seam_node_steps.specs.Maps.{set_at}
use Rattle.seam_cell_parts.specs.Stepping.{core_of}
use Rattle.seam_cell_parts.proofs.SetLemmas.{first_taken}
use Rattle.seam_cell_cases.proofs.SurveyLemmas.{from_ok, from_err, moot_done, surveyed, survey_told, survey_undone}
use Rattle.seam_cell_cases.proofs.surveying.survey_task.Goals as goal

pub settle_again-left-requires-clause-there : goal.settle_again-left-requires-clause-there
settle_again-left-requires-clause-there c = c.requires.whole.cell.there c.in-Some.e c.in_ok-real.real.core c.in_ok-real.ensures.real

pub is_moot-requires-clause-there : goal.is_moot-requires-clause-there
is_moot-requires-clause-there c = c.requires.whole.cell.there c.in-Some.e

pub returns-then-is_moot : goal.returns-then-is_moot
returns-then-is_moot c =
    let e = c.in-Some.e in
    let es = c.take_first.new.self in
    let lists = c.args.lists.now in
    let done =
    moot_done c.args.known.now c.args.reals.now c.args.remotes.now lists (record { survey = es; looks = lists.looks }) c.args.out.now e es
    (c.is_moot.ensures.moot c.if-is_moot.true) (c.requires.whole.cell.cell.keys e)
    (first_taken c.take_first.result lists.survey es e c.take_first.ensures.some c.take_first.ensures.none c.in-Some.ensures) refl refl in
    record { state = done.0; sent = done.1; err = search rules; err_out = search rules; marks = search rules }

pub returns-in-Ok-clause-state : goal.returns-in-Ok-clause-state
returns-in-Ok-clause-state c =
    let did = c.settle_again-left in
    let e = c.in-Some.e in
    let x = c.in_ok-real.real.core in
    let at = c.in_ok-real.ensures.real in
    let left = option_map core_of did.result.left in
    let is = first_taken c.take_first-in-Ok.result c.args.lists.now.survey c.take_first-in-Ok.new.self e
    c.take_first-in-Ok.ensures.some c.take_first-in-Ok.ensures.none c.in-Some.ensures in
    surveyed c.args.known.now c.args.reals.now c.put_after.new.reals c.args.remotes.now did.new.remotes c.args.lists.now
    c.put_after.new.lists c.args.out.now did.new.out e c.take_first-in-Ok.new.self x left at (c.is_moot.ensures.due c.if-is_moot.false)
    (c.requires.whole.cell.cell.keys e x at) is (from_ok _ did.result.result c.in-Ok.field-0 c.in-Ok.is did.ensures.done)
    (c.put_after.ensures.items ∙ ap (λ w. set_at w e left) c.in_ok-real.ensures.items) c.put_after.ensures.survey
    c.put_after.ensures.looks

pub returns-in-Ok-clause-sent : goal.returns-in-Ok-clause-sent
returns-in-Ok-clause-sent c =
    let did = c.settle_again-left in
    let e = c.in-Some.e in
    let x = c.in_ok-real.real.core in
    let at = c.in_ok-real.ensures.real in
    let left = option_map core_of did.result.left in
    let is = first_taken c.take_first-in-Ok.result c.args.lists.now.survey c.take_first-in-Ok.new.self e
    c.take_first-in-Ok.ensures.some c.take_first-in-Ok.ensures.none c.in-Some.ensures in
    survey_told c.args.known.now c.args.reals.now c.put_after.new.reals c.args.remotes.now did.new.remotes c.args.lists.now
    c.put_after.new.lists c.args.out.now did.new.out e c.take_first-in-Ok.new.self x left at (c.is_moot.ensures.due c.if-is_moot.false)
    (c.requires.whole.cell.cell.keys e x at) is (from_ok _ did.result.result c.in-Ok.field-0 c.in-Ok.is did.ensures.done)

pub returns-in-Err-clause-err : goal.returns-in-Err-clause-err
returns-in-Err-clause-err c =
    let did = c.settle_again-left in
    let e = c.in-Some.e in
    let left = option_map core_of did.result.left in
    survey_undone c.args.known.now c.args.reals.now c.put_after-in-Err.new.reals c.args.remotes.now did.new.remotes c.args.lists.now
    c.put_after-in-Err.new.lists c.args.out.now did.new.out e c.in_ok-real.real.core left c.in_ok-real.ensures.real
    (from_err _ did.result.result c.in-Err.error c.in-Err.is did.ensures.err)
    (from_err _ did.result.result c.in-Err.error c.in-Err.is did.ensures.err_parts)
    (c.put_after-in-Err.ensures.items ∙ ap (λ w. set_at w e left) c.in_ok-real.ensures.items) c.put_after-in-Err.ensures.survey
    c.put_after-in-Err.ensures.looks
