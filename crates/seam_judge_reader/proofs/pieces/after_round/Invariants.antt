use Rattle.std.proofs.Common.{◌≡◌, ◌≤◌, ◌++◌, ℕ, List, length}
use Rattle.seam_defs.specs.Types.{AreDefs}
use Rattle.seam_defs.specs.declared.types.TypeDef.{TypeDef}
use Rattle.seam_rule_rounds.specs.Prelude.{RoundData, round_text}
use Rattle.seam_judge_reader.proofs.PieceSteps.{ToEnd}
use Rattle.seam_judge_reader.proofs.pieces.after_round.Given as goal

abbrev pub invariant-loop-ends : goal.invariant-loop-ends
invariant-loop-ends l = record {
  within : length l.rest ≤ length l.text;
  round : (defs : List TypeDef) → AreDefs defs → (r : RoundData) (after : List ℕ) → l.text ≡ round_text defs r ++ after →
      ToEnd defs l.rest after;
}

abbrev pub decreases-loop-ends : goal.decreases-loop-ends
decreases-loop-ends l = length l.rest
