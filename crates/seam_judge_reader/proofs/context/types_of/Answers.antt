use Rattle.std.proofs.Common.{◌≡◌, ◌<◌, ◌∙◌, None, length, sym, ap, arith, nat_cmp}
use Rattle.std.specs.FinMap as table
use Rattle.seam_judge_reader.proofs.EntityTypes.{copied_none, copied_some, one_kept, one_known}
use Rattle.seam_judge_reader.proofs.context.types_of.Goals as goal
use Rattle.seam_judge_reader.proofs.context.types_of.Goals.{then-is_none+in_ok-keep_type, else-is_none}

pub loop-create-init : goal.loop-create-init
loop-create-init c = λ e. ap (λ m. table.get m.items e) c.new-types.ensures ∙ table.get-empty nat_cmp e

pub loop-create-preserved : goal.loop-create-preserved
loop-create-preserved c =
    let creates = c.args.creates.now in
    let i = c.loop-create.create-index in
    let old = c.loop-create.types.items in
    let below : i < length creates = omega arith in
    elim c.if-is_none.branch [
      | then-is_none+in_ok-keep_type w ↦
          one_kept creates i _ below old c.if-is_none.types.items c.loop-create.invariant
          (sym c.get.ensures.item ∙ copied_none c.get.result c.is_none.result c.is_none.ensures w.if-is_none.true)
          (ap (λ m. m.items) w.types-is ∙ w.in_ok-keep_type.ensures)
      | else-is_none w ↦
          let known = copied_some c.get.result c.is_none.result c.is_none.ensures w.if-is_none.false in
          one_known creates i _ below old c.if-is_none.types.items c.loop-create.invariant known.0
          (sym c.get.ensures.item ∙ known.1) (ap (λ m. m.items) w.types-is)
    ]
