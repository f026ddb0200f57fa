use Rattle.std.proofs.Common.{take, List, sym, subst, add-one}
use Rattle.std.proofs.Math.Seq.{take-suc}
use Rattle.seam_call.specs.declared.create.Create.{Create}
use Rattle.seam_world_text.specs.Residents.{Adds}
use Rattle.seam_world_text.proofs.Numbers.{one_more_added}
use Rattle.seam_world_text.proofs.residents.add_all.Goals as goal

pub loop-create-preserved : goal.loop-create-preserved
loop-create-preserved c =
    let i = c.loop-create.create-index in
    record {
      done =
          subst (λ (cs : List Create). Adds cs c.args.residents.now c.add.new.residents)
          (sym (rw add-one (take-suc c.args.creates.now i _ c.loop-create-test.true)))
          (one_more_added c.args.residents.now c.loop-create.residents c.add.new.residents (take i c.args.creates.now) _
          c.loop-create.invariant.done c.in_ok-add.ensures.adds);
      named = c.in_ok-add.ensures.named;
    }
