use Rattle.std.proofs.Common.{◌≡◌, take}
use Rattle.seam_judge_expected.specs.Entities.{among_numbers}
use Rattle.seam_judge_expected.proofs.entities.among_numbers.Given as goal

abbrev pub invariant-loop-number : goal.invariant-loop-number
invariant-loop-number l = l.made.items ≡ among_numbers l.creates (take l.number-index l.numbers)
