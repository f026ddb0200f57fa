use Rattle.std.proofs.Common.{◌≡◌, ◌≢◌, ◌+◌, sym, ◌∙◌, ap, subst, IfNone, IfSome, MatchBool}
use Rattle.seam_rule_rounds.specs.Prelude.{RoundData, round_text}
use Rattle.seam_law_texts.specs.Forms.{IsFormed}
use Rattle.seam_judge_data.specs.Standings.{standing_of}
use Rattle.seam_judge_rounds.specs.After.{after_round}
use Rattle.seam_judge_rounds.specs.HeldPlaces.{HaveHomes}
use Rattle.seam_judge_rounds.specs.Points.{Holds, IsFirstBroken, points}
use Rattle.seam_law_verdicts.specs.Verdicts.{BeginsAsRefusal, FailsRound}
use Rattle.seam_check.proofs.Judgments.{homes_stand}
use Rattle.seam_check.proofs.Rounds.{broken, goes, no_round, surplus}
use Rattle.seam_check.proofs.judging.take_round.Goals as goal

pub returns-then-begins_as_refusal : goal.returns-then-begins_as_refusal
returns-then-begins_as_refusal c = λ h s beside.
    surplus h s c.args.text.now
    (subst (λ b. MatchBool b (BeginsAsRefusal c.args.text.now) (¬ (BeginsAsRefusal c.args.text.now)))
    c.if-begins_as_refusal.true c.begins_as_refusal.ensures)

pub returns-in_default : goal.returns-in_default
returns-in_default c = λ h s beside.
    no_round h s c.args.script.now beside c.header-header.result.now c.standing-standing.result.now c.header-header.ensures.header
    c.standing-standing.ensures c.args.text.now c.first_piece.result.0.now c.first_piece.result.1.now c.first_piece.ensures.whole
    c.first_piece.ensures.round
    (subst (λ b. MatchBool b (BeginsAsRefusal c.args.text.now) (¬ (BeginsAsRefusal c.args.text.now)))
    c.if-begins_as_refusal.false c.begins_as_refusal.ensures)
    (subst
    (λ read. IfNone read ((r : RoundData) → IsFormed c.header-header.result.now.defs (standing_of c.standing-standing.result.now).book r →
    round_text c.header-header.result.now.defs r ≢ c.first_piece.result.0.now))
    c.in_default.is c.in_ok-round.ensures.none)

pub judge-requires-clause-homes : goal.judge-requires-clause-homes
judge-requires-clause-homes c =
    subst (λ q. HaveHomes (standing_of q)) (sym c.standing-standing.ensures) (homes_stand c.args.script.now c.requires)

pub judge-requires-clause-range : goal.judge-requires-clause-range
judge-requires-clause-range c = c.header-header.ensures.range

pub returns-in-Some-2 : goal.returns-in-Some-2
returns-in-Some-2 c = λ h s beside.
    subst (FailsRound h s c.args.text.now) (sym c.number_of.ensures)
    (broken h s c.args.script.now beside c.header-header.result.now c.standing-standing.result.now c.header-header.ensures.header
    c.standing-standing.ensures c.args.text.now c.first_piece.result.0.now c.first_piece.result.1.now c.first_piece.ensures.whole
    c.first_piece.ensures.round c.in-Some.round c.in-Some-2.point
    (subst (λ read. IfSome read (λ round. round_text c.header-header.result.now.defs round ≡ c.first_piece.result.0.now)) c.in-Some.is
    c.in_ok-round.ensures.text)
    (subst (λ read. IfSome read (IsFormed c.header-header.result.now.defs (standing_of c.standing-standing.result.now).book)) c.in-Some.is
    c.in_ok-round.ensures.form)
    (subst
    (IsFirstBroken
    (Holds c.header-header.result.now (standing_of c.standing-standing.result.now) c.in-Some.round
    (after_round (standing_of c.standing-standing.result.now) c.in-Some.round)) points)
    c.in-Some-2.is c.in_ok-point.ensures.first))

pub returns : goal.returns
returns c = λ h s beside.
    let legal = c.in_ok-point.ensures.legal.0 c.in-None.is in
    let numbered = legal.number ∙ ap (λ q. q.rounds + 1) c.standing-standing.ensures in
    goes h s c.args.script.now beside c.header-header.result.now c.standing-standing.result.now c.header-header.ensures.header
    c.standing-standing.ensures c.args.text.now c.first_piece.result.0.now c.first_piece.result.1.now c.first_piece.ensures.whole
    c.first_piece.ensures.round c.in-Some.round c.end_round.new.self
    (subst (λ read. IfSome read (λ round. round_text c.header-header.result.now.defs round ≡ c.first_piece.result.0.now)) c.in-Some.is
    c.in_ok-round.ensures.text)
    legal
    (c.in_ok-end_round-in-None.ensures.ended (c.in_ok-end_round-in-None.ensures.numbered.1 numbered) h s beside.at)
