use Rattle.std.proofs.Common.{◌≡◌, List, sym, ap, ◌∙◌, ◌++◌, ◌∷◌, [], map, take, length, append_assoc, arith}
use Rattle.std.proofs.Math.Seq.{take-append_seam}
use Rattle.std.specs.List.{range_with_len}
use Rattle.std.proofs.lemmas.List.FromFn.{map-range_with_len_more}
use Rattle.seam_node_steps.specs.Prelude.{bounds_to, Bounds}
use Rattle.seam_base.proofs.orders.tell_bounds.Goals as goal

-- what was there before is there still
kept_before : {A : Type 0} (before after more : List A) → after ≡ before ++ more → take (length before) after ≡ before
kept_before before after more is = ap (take (length before)) is ∙ take-append_seam before more

pub loop-k-preserved : goal.loop-k-preserved
loop-k-preserved c =
    let b = c.args.bounds.now in
    record {
      sent = c.send.ensures.items
          ∙ ((λ i. c.loop-k.invariant.sent i ++ (c.loop-k.k, Bounds (c.in_ok-more.ensures i)) ∷ [])
          ∙ (append_assoc c.args.out.now.items (map (bounds_to b) (range_with_len 0 c.loop-k.k)) _
          ∙ ap (λ ms. c.args.out.now.items ++ ms) (sym (map-range_with_len_more (bounds_to b) 0 c.loop-k.k c.loop-k.k (omega arith)))));
      room = let r = c.loop-k.invariant.room in let s = c.send.ensures.spare in omega (arith, r, s);
    }

pub returns-in_err-more-clause-kept : goal.returns-in_err-more-clause-kept
returns-in_err-more-clause-kept c = kept_before c.args.out.now.items c.loop-k.out.items _ c.loop-k.invariant.sent

pub returns-clause-kept : goal.returns-clause-kept
returns-clause-kept c = kept_before c.args.out.now.items c.loop-k.out.items _ c.loop-k.invariant.sent
