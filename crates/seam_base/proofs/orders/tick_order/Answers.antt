use Rattle.std.proofs.Common.{sym, ap, ◌∙◌, ◌++◌, ◌∷◌, [], map, append_assoc, arith}
use Rattle.std.specs.List.{range_with_len}
use Rattle.std.proofs.lemmas.List.FromFn.{map-range_with_len_more}
use Rattle.seam_node_steps.specs.Prelude.{tick_to, Tick}
use Rattle.seam_base.proofs.orders.tick_order.Goals as goal

pub loop-k-preserved : goal.loop-k-preserved
loop-k-preserved c = record {
  sent = c.send.ensures.items
      ∙ (ap (λ ms. ms ++ (c.loop-k.k, Tick) ∷ []) c.loop-k.invariant.sent
      ∙ (append_assoc c.args.out.now.items (map tick_to (range_with_len 0 c.loop-k.k)) _
      ∙ ap (λ ms. c.args.out.now.items ++ ms) (sym (map-range_with_len_more tick_to 0 c.loop-k.k c.loop-k.k (omega arith)))));
  room = let r = c.loop-k.invariant.room in let s = c.send.ensures.spare in omega (arith, r, s);
}
