use Rattle.std.proofs.Common.{nat_lt, refl, sym, ap, ◌∙◌}
use Rattle.seam_node_steps.specs.Prelude.{copy_with, node_with}
use Rattle.seam_cell_parts.specs.News.{state_of}
use Rattle.seam_cell_parts.specs.Kept.{here_in}
use Rattle.seam_cell_parts.specs.Stepping.{telling_at, parts_of}
use Rattle.seam_cell_parts.proofs.SettleLemmas.{begun_is, copy_is}
use Rattle.seam_cell_parts.proofs.settle.begin.Goals as goal

pub returns-in-Ok-clause-begun : goal.returns-in-Ok-clause-begun
returns-in-Ok-clause-begun c later is ty public state =
    let k = c.args.known.now in
    let of = c.args.of.now in
    begun_is (here_in k) k.bounds c.args.real.now.core later c.args.changed is c.tell_from-telling.result
    (copy_with (node_with of.defs.now k.me k.settings) of.ty of.version (state_of of))
    (c.tell_from-telling.ensures ∙ ap (λ s. telling_at (here_in k) k.bounds.tree c.args.real.now.core s.pos c.args.changed) (sym state))
    (copy_is (here_in k) of.defs.now later of.ty of.version (state_of of) c.requires.defs ty public state)
    (parts_of c.args.remotes.now c.args.out.now) (parts_of c.tell_all.new.remotes c.tell_all.new.out) _ refl
    (λ i. nat_lt (c.len-start.ensures.len i) (c.len.ensures.len i)) c.in_ok-brought.ensures c.in-Ok.ensures.nexts
    (c.in-Ok.ensures.ghosts k.me k.settings)
    (c.in-Ok.ensures.sent k.me k.settings)
