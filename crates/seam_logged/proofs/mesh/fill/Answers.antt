use Rattle.std.proofs.Common.{◌∙◌, ◌∷◌, ◌++◌, [], ap, sym, append_assoc}
use Rattle.seam_logged.specs.Mesh.{at_start}
use Rattle.seam_logged.proofs.Rows.{at_start_append}
use Rattle.seam_logged.proofs.mesh.fill.Goals as goal

pub loop-item-preserved : goal.loop-item-preserved
loop-item-preserved g c =
    let done = c.loop-item.yielded in
    let next = at_start (c.in-Some.item ∷ []) in (
      c.in-Ok.ensures.ok ∙ (ap (λ l. l ++ next) c.loop-item.invariant.0
          ∙ (append_assoc c.args.out.now.put (at_start done) next
          ∙ ap (λ l. c.args.out.now.put ++ l) (sym (at_start_append done (c.in-Some.item ∷ []))))),
      c.put.ensures.ring ∙ c.loop-item.invariant.1,
    )
