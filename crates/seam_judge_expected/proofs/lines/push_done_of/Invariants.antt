use Rattle.std.proofs.Common.{◌≡◌, ◌++◌, take, map}
use Rattle.std.specs.Prelude.{filter}
use Rattle.seam_call.specs.Calls.{is_for}
use Rattle.seam_judge_expected.proofs.lines.push_done_of.Given as goal

abbrev pub invariant-loop-call : goal.invariant-loop-call
invariant-loop-call l = l.lines.items ≡ l.initial.lines.items
    ++ map (λ x. record { ty = l.create.ty; call = x }) (filter (is_for l.part l.create.entity) (take l.call-index l.calls))
