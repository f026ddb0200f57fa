use Rattle.std.proofs.Common.{◌≡◌, ◌∙◌}
use Rattle.seam_rule_rounds.specs.Prelude.{round_text}
use Rattle.seam_judge_reader.proofs.PieceSteps.{front_is, rest_is}
use Rattle.seam_judge_reader.proofs.pieces.first_piece.Goals as goal

pub returns-clause-round : goal.returns-clause-round
returns-clause-round c = λ defs are r after e.
    let same = c.after_piece-rest.ensures.round defs are r after e in
    let text = c.args.text.now in
    let rest = c.after_piece-rest.result.now in (
      c.split_at.ensures.front ∙ front_is text (round_text defs r) rest after e same,
      c.split_at.ensures.back ∙ rest_is text (round_text defs r) rest after e same,
    )
