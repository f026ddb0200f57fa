use Rattle.std.proofs.Common.{◌≡◌, List, ℕ, map, sym, ◌∙◌}
use Rattle.seam_judge_data.specs.Standings.{standing_of}
use Rattle.seam_judge_reader.proofs.Adding.{begin_tells, did_tells, dob_tells, home_tells, base_tells, ghost_tells, to_tells, bound_tells}
use Rattle.seam_judge_reader.proofs.Adding.{did_formed, dob_formed, home_formed, base_formed, to_formed}
use Rattle.seam_judge_reader.proofs.rounds.add_data.Goals as goal

pub returns-in-Begin-clause-told : goal.returns-in-Begin-clause-told
returns-in-Begin-clause-told c =
    begin_tells c.args.known.now.header.now.defs (standing_of c.args.known.now.standing.now).book c.args.round.now _ c.round.view_is
    c.args.kind c.in-Begin.is (map (λ w. w.now) c.args.words.now) c.long_number-round-inside.result
    (λ m long e. c.long_number-round-inside.ensures m long (c.word_at.ensures ∙ e))

pub returns-in_ok-push-in-Did-clause-form : goal.returns-in_ok-push-in-Did-clause-form
returns-in_ok-push-in-Did-clause-form c =
    did_formed c.args.known.now.header.now.defs (standing_of c.args.known.now.standing.now).book c.args.round.now _ c.round.view_is
    c.push.new.self.items c.in_ok-done_line-in-Did.field-0 c.in_ok-push-in-Did.ensures.items c.in_ok-done_line-in-Did.ensures.form

pub returns-in_ok-push-in-Did-clause-told : goal.returns-in_ok-push-in-Did-clause-told
returns-in_ok-push-in-Did-clause-told c =
    did_tells c.args.known.now.header.now.defs (standing_of c.args.known.now.standing.now).book c.args.round.now _ c.round.view_is
    c.args.kind c.in-Did.is (map (λ w. w.now) c.args.words.now) c.push.new.self.items c.in_ok-done_line-in-Did.field-0
    c.in_ok-push-in-Did.ensures.items c.in_ok-done_line-in-Did.ensures.told

pub returns-in_ok-push-in-Dob-clause-form : goal.returns-in_ok-push-in-Dob-clause-form
returns-in_ok-push-in-Dob-clause-form c =
    dob_formed c.args.known.now.header.now.defs (standing_of c.args.known.now.standing.now).book c.args.round.now _ c.round.view_is
    c.push-in-Dob.new.self.items c.in_ok-done_line-in-Dob.field-0 c.in_ok-push-in-Dob.ensures.items c.in_ok-done_line-in-Dob.ensures.form

pub returns-in_ok-push-in-Dob-clause-told : goal.returns-in_ok-push-in-Dob-clause-told
returns-in_ok-push-in-Dob-clause-told c =
    dob_tells c.args.known.now.header.now.defs (standing_of c.args.known.now.standing.now).book c.args.round.now _ c.round.view_is
    c.args.kind c.in-Dob.is (map (λ w. w.now) c.args.words.now) c.push-in-Dob.new.self.items c.in_ok-done_line-in-Dob.field-0
    c.in_ok-push-in-Dob.ensures.items c.in_ok-done_line-in-Dob.ensures.told

pub returns-in_ok-push-in-Home-clause-form : goal.returns-in_ok-push-in-Home-clause-form
returns-in_ok-push-in-Home-clause-form c =
    home_formed c.args.known.now.header.now.defs (standing_of c.args.known.now.standing.now).book c.args.round.now _ c.round.view_is
    c.push-in-Home.new.self.items c.in_ok-home_line-in-Home.field-0 c.in_ok-push-in-Home.ensures.items
    c.in_ok-home_line-in-Home.ensures.form

pub returns-in_ok-push-in-Home-clause-told : goal.returns-in_ok-push-in-Home-clause-told
returns-in_ok-push-in-Home-clause-told c =
    home_tells c.args.known.now.header.now.defs (standing_of c.args.known.now.standing.now).book c.args.round.now _ c.round.view_is
    c.args.kind c.in-Home.is (map (λ w. w.now) c.args.words.now) c.push-in-Home.new.self.items c.in_ok-home_line-in-Home.field-0
    c.in_ok-push-in-Home.ensures.items c.in_ok-home_line-in-Home.ensures.told

pub returns-in_ok-push-in-Base-clause-form : goal.returns-in_ok-push-in-Base-clause-form
returns-in_ok-push-in-Base-clause-form c =
    base_formed c.args.known.now.header.now.defs (standing_of c.args.known.now.standing.now).book c.args.round.now _ c.round.view_is
    c.push-in-Base.new.self.items c.in_ok-base_line-in-Base.field-0 c.in_ok-push-in-Base.ensures.items
    c.in_ok-base_line-in-Base.ensures.form

pub returns-in_ok-push-in-Base-clause-told : goal.returns-in_ok-push-in-Base-clause-told
returns-in_ok-push-in-Base-clause-told c =
    base_tells c.args.known.now.header.now.defs (standing_of c.args.known.now.standing.now).book c.args.round.now _ c.round.view_is
    c.args.kind c.in-Base.is (map (λ w. w.now) c.args.words.now) c.push-in-Base.new.self.items c.in_ok-base_line-in-Base.field-0
    c.in_ok-push-in-Base.ensures.items c.in_ok-base_line-in-Base.ensures.told

pub returns-in_ok-push-in-To-clause-form : goal.returns-in_ok-push-in-To-clause-form
returns-in_ok-push-in-To-clause-form c =
    to_formed c.args.known.now.header.now.defs (standing_of c.args.known.now.standing.now).book c.args.round.now _ c.round.view_is
    c.push-in-To.new.self.items c.in_ok-client_line-in-To.field-0 c.in_ok-push-in-To.ensures.items c.in_ok-client_line-in-To.ensures.form

pub returns-in_ok-push-in-To-clause-told : goal.returns-in_ok-push-in-To-clause-told
returns-in_ok-push-in-To-clause-told c =
    to_tells c.args.known.now.header.now.defs (standing_of c.args.known.now.standing.now).book c.args.round.now _ c.round.view_is
    c.args.kind c.in-To.is (map (λ w. w.now) c.args.words.now) c.push-in-To.new.self.items c.in_ok-client_line-in-To.field-0
    c.in_ok-push-in-To.ensures.items c.in_ok-client_line-in-To.ensures.told

pub returns-in_ok-push-in-Ghost-clause-told : goal.returns-in_ok-push-in-Ghost-clause-told
returns-in_ok-push-in-Ghost-clause-told c =
    ghost_tells c.args.known.now.header.now.defs (standing_of c.args.known.now.standing.now).book c.args.round.now _ c.round.view_is
    c.args.kind c.in-Ghost.is (map (λ w. w.now) c.args.words.now) c.push-in-Ghost.new.self.items c.ghost_line.result
    c.in_ok-push-in-Ghost.ensures.items c.ghost_line.ensures.told

pub returns-in-Bound-clause-told : goal.returns-in-Bound-clause-told
returns-in-Bound-clause-told c =
    bound_tells c.args.known.now.header.now.defs (standing_of c.args.known.now.standing.now).book c.args.round.now _ c.round.view_is
    c.args.kind c.in-Bound.is (map (λ w. w.now) c.args.words.now) c.with_bound-round-inside.result c.with_bound-round-inside.ensures
