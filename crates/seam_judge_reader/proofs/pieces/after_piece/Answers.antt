use Rattle.std.proofs.Common.{◌≡◌, ◌≢◌, ◌∷◌, ◌∙◌, ℕ, List, sym, true, false, subst, MatchBool}
use Rattle.seam_judge_reader.proofs.PieceSteps.{round_begins}
use Rattle.seam_judge_reader.proofs.pieces.after_piece.Goals as goal

pub returns-else-begins_a_round-clause-round : goal.returns-else-begins_a_round-clause-round
returns-else-begins_a_round-clause-round c = λ defs are r after e.
    let other =
    subst (λ b. MatchBool b ((rest : List ℕ) × (c.args.text.now ≡ 114 ∷ 111 ∷ 117 ∷ 110 ∷ 100 ∷ 32 ∷ rest))
    ((rest : List ℕ) → c.args.text.now ≢ 114 ∷ 111 ∷ 117 ∷ 110 ∷ 100 ∷ 32 ∷ rest)) c.if-begins_a_round.false c.begins_a_round.ensures in
    let begins = round_begins defs r after in
    absurd (other begins.0 (e ∙ begins.1))
