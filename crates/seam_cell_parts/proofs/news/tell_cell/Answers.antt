use Rattle.std.proofs.Common.{◌++◌, [], ◌∷◌, ap, sym, ◌∙◌}
use Rattle.seam_node_steps.specs.Prelude.{GhostSet, copy_with, node_with}
use Rattle.seam_cell_parts.specs.News.{state_of, message_for, listed}
use Rattle.seam_cell_parts.proofs.news.tell_cell.Goals as goal

pub returns-in_ok-reserve-in-Set-clause-ok : goal.returns-in_ok-reserve-in-Set-clause-ok
returns-in_ok-reserve-in-Set-clause-ok c me settings =
    let of = c.args.of.now in
    let t = c.args.t.now in
    let copy = copy_with (node_with of.defs.now me settings) of.ty of.version (state_of of) in
    let sent = c.args.out.now.items in
    c.send.ensures.items
    ∙ (ap (λ l. l ++ (c.args.k, GhostSet t.entity t.beat c.in_ok-copy-in-Set.copy) ∷ []) c.reserve.ensures.items
    ∙ (ap (λ g. sent ++ (c.args.k, GhostSet t.entity t.beat g) ∷ []) (c.in_ok-copy-in-Set.ensures me settings)
    ∙ ap (λ w. sent ++ listed (message_for t copy c.args.k w)) (sym c.in-Set.is ∙ c.word.ensures)))
