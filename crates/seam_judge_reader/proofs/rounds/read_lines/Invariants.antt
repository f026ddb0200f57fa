use Rattle.std.proofs.Common.{◌≡◌, length}
use Rattle.seam_rule_rounds.specs.Prelude.{RoundData, round_text}
use Rattle.seam_judge_data.specs.Standings.{standing_of}
use Rattle.seam_law_texts.specs.Forms.{HasFormedLines, IsFormed}
use Rattle.seam_judge_reader.proofs.RoundSteps.{ToCome}
use Rattle.seam_judge_reader.proofs.rounds.read_lines.Given as goal

abbrev pub invariant-loop-rest : goal.invariant-loop-rest
invariant-loop-rest l = record {
  form : HasFormedLines l.header.defs (standing_of l.standing).book l.round;
  told : (r : RoundData) → IsFormed l.header.defs (standing_of l.standing).book r → round_text l.header.defs r ≡ l.text →
      ToCome l.header.defs (standing_of l.standing).book l.rest l.round r;
}

abbrev pub decreases-loop-rest : goal.decreases-loop-rest
decreases-loop-rest l = length l.rest
