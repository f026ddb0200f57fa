use Rattle.std.proofs.Common.{◌≡◌, ◌++◌, take}
use Rattle.std.specs.List.{flat_map}
use Rattle.seam_rule_lines.specs.LineTexts.{done_text}
use Rattle.seam_world_text.specs.RoundParts.{done_of_type}
use Rattle.seam_world_text.proofs.calls.push_calls.Given as goal

abbrev pub invariant-loop-call : goal.invariant-loop-call
invariant-loop-call l =
    l.out.items ≡ l.initial.out.items ++ flat_map (done_text l.word l.defs) (done_of_type l.ty (take l.call-index l.calls))
