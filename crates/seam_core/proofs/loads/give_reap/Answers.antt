use Rattle.std.proofs.Common.{◌≡◌, ◌+◌, ◌%◌, ◌∙◌, ap, sym, subst}
use Rattle.std.proofs.lemmas.Result.{on_ok_weaker}
use Rattle.seam_call.specs.declared.order.Order.TheVariants as order
use Rattle.seam_node_steps.specs.Prelude.{EachNode, World, cell_count}
use Rattle.seam_node_steps.specs.Loads.{with_order}
use Rattle.seam_core.specs.Loads.{IsNumbered}
use Rattle.seam_core.proofs.Loading.{known_noted, reap_is_order}
use Rattle.seam_core.proofs.loads.give_reap.Goals as goal

pub give-requires : goal.give-requires
give-requires c =
    subst (λ (w : World). EachNode IsNumbered w.nodes) (sym c.in_ok-note_all.ensures)
    (known_noted (λ k h. h.me ≡ k) c.args.net.now c.args.e c.requires.numbered)

pub returns : goal.returns
returns c =
    on_ok_weaker c.give.result
    (λ is. is ∙ ap (λ to. with_order c.note_all.new.net (to, order.Reap c.args.e)) c.base_node_of-to.ensures
    ∙ ap (λ (w : World). with_order w (cell_count + (c.args.e % c.args.bases), order.Reap c.args.e)) c.in_ok-note_all.ensures
    ∙ reap_is_order c.args.net.now c.args.bases c.args.e c.requires.bases) c.give.ensures
