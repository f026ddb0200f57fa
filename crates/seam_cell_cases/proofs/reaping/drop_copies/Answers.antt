use Rattle.std.proofs.Common.{◌≡◌, ◌++◌, ap, sym, ◌∙◌, append_assoc, arith}
use Rattle.std.specs.List.{filter_map, range_with_len}
use Rattle.seam_node_steps.specs.CellCases.{drop_at}
use Rattle.seam_cell_parts.specs.News.{listed}
use Rattle.seam_cell_parts.proofs.NewsLemmas.{told_more}
use Rattle.seam_cell_cases.proofs.reaping.drop_copies.Goals as goal

pub loop-k-preserved : goal.loop-k-preserved
loop-k-preserved c =
    let r = c.args.real.now.core in
    let so_far = filter_map (drop_at r) (range_with_len 0 c.loop-k.k) in
    record {
      sent =
          c.drop_copy.ensures.sent
          ∙ (ap (λ l. l ++ listed (drop_at r c.loop-k.k)) c.loop-k.invariant.sent
          ∙ (append_assoc c.args.out.now.items so_far (listed (drop_at r c.loop-k.k))
          ∙ ap (λ l. c.args.out.now.items ++ l) (sym (told_more (drop_at r) c.loop-k.k))));
      room = let a = c.loop-k.invariant.room in let b = c.drop_copy.ensures.spare in omega (arith, a, b);
    }

pub returns : goal.returns
returns c =
    let r = c.args.real.now.core in
    c.loop-k.invariant.sent
    ∙ ap (λ n. c.args.out.now.items ++ filter_map (drop_at r) (range_with_len 0 n))
    (let end : c.loop-k.k ≡ 16 = omega (arith, c.loop-k-test.false, c.loop-k.auto.k-end) in end)
