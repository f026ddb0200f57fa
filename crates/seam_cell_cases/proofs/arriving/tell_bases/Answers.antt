use Rattle.std.proofs.Common.{sym, ap, ◌∙◌, ◌+◌, ◌++◌, ◌∷◌, [], map, append_assoc, arith}
use Rattle.std.specs.List.{range_with_len}
use Rattle.std.proofs.lemmas.List.FromFn.{map-range_with_len_more}
use Rattle.seam_cell_cases.specs.Arriving.{current_of}
use Rattle.seam_cell_cases.proofs.arriving.tell_bases.Goals as goal

pub loop-k-preserved : goal.loop-k-preserved
loop-k-preserved c =
    let f = current_of c.args.e c.args.known.now.me c.args.generation in
    record {
      sent = c.send.ensures.items
          ∙ (ap (λ ms. ms ++ f (16 + c.loop-k.k) ∷ []) c.loop-k.invariant.sent
          ∙ (append_assoc c.args.out.now.items (map f (range_with_len 16 c.loop-k.k)) (f (16 + c.loop-k.k) ∷ [])
          ∙ ap (λ ms. c.args.out.now.items ++ ms) (sym (map-range_with_len_more f 16 c.loop-k.k (16 + c.loop-k.k) (omega arith)))));
      room = let r = c.loop-k.invariant.room in let s = c.send.ensures.spare in omega (arith, r, s);
    }
