use Rattle.std.proofs.Common.{◌≡◌, take, map}
use Rattle.seam_call.specs.declared.shown.ClientText.TheVariants as text
use Rattle.seam_judge_rounds.proofs.looked.texts_shown.Given as goal

abbrev pub invariant-loop-x : goal.invariant-loop-x
invariant-loop-x l = l.texts.items ≡ map text.Shown (take l.x-index l.shown)
