use Rattle.std.proofs.Common.{◌∙◌, ℕ, List, sym, ap, arith}
use Rattle.std.specs.Ordering.{nat_cmp}
use Rattle.std.specs.Cmp.Lexicographic.{slice_cmp}
use Rattle.seam_defs.proofs.ByteOrder.{decided_at, decided_by_length}
use Rattle.seam_defs.proofs.defs.order.Goals as goal

pub returns-then-name-i : goal.returns-then-name-i
returns-then-name-i c =
    c.cmp.ensures
    ∙ sym (decided_at c.bytes-name.result.now c.args.sought.now c.loop-i.i (omega arith) (omega arith) c.loop-i.invariant c.if-name-i.true)
    ∙ ap (λ (name : List ℕ). slice_cmp nat_cmp name c.args.sought.now) c.bytes-name.ensures.value

pub returns : goal.returns
returns c =
    c.cmp-2.ensures
    ∙ sym (decided_by_length c.bytes-name.result.now c.args.sought.now (λ k in_name in_sought. c.loop-i.invariant k (omega arith)))
    ∙ ap (λ (name : List ℕ). slice_cmp nat_cmp name c.args.sought.now) c.bytes-name.ensures.value
