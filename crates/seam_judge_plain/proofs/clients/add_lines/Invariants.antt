use Rattle.std.proofs.Common.{◌≡◌, ◌++◌, ◌+◌, take}
use Rattle.seam_judge_plain.specs.Plain.{lines_from}
use Rattle.seam_judge_plain.proofs.clients.add_lines.Given as goal

abbrev pub invariant-loop-text : goal.invariant-loop-text
invariant-loop-text l =
    (l.lines.items ≡ l.initial.lines.items ++ lines_from l.create l.former (take l.text-index l.texts))
    × (l.number ≡ l.former + l.text-index)
