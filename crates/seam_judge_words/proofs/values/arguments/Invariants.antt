use Rattle.std.proofs.Common.{◌≡◌, List, length, map}
use Rattle.seam_value.specs.Values.{text_of}
use Rattle.seam_value.specs.declared.values.Value.{Value}
use Rattle.seam_defs.specs.Deeds.{AreArgsOf}
use Rattle.seam_judge_words.proofs.ValueSteps.{FittingArgs, ArgsToCome}
use Rattle.seam_judge_words.proofs.values.arguments.Given as goal

abbrev pub invariant-loop-ty : goal.invariant-loop-ty
invariant-loop-ty l = record {
  form : FittingArgs l.types l.left l.values.items;
  told : (ws : List Value) → AreArgsOf l.types ws → map (λ w. w.now) l.words ≡ map text_of ws →
      ArgsToCome l.left (map (λ w. w.now) l.rest) l.values.items ws;
}

abbrev pub decreases-loop-ty : goal.decreases-loop-ty
decreases-loop-ty l = length l.left
