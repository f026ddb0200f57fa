use Rattle.std.proofs.Common.{ap, sym, ◌∙◌}
use Rattle.std.specs.FinMap as table
use Rattle.std.proofs.lemmas.Result.{on_ok_weaker}
use Rattle.seam_node_steps.specs.Prelude.{ghost_after, copy_with, node_with, set_at}
use Rattle.seam_cell_parts.specs.News.{state_of}
use Rattle.seam_cell_parts.proofs.SettleLemmas.{other_test, heard_away}
use Rattle.seam_cell_parts.proofs.settle.tell_all.Goals as goal

pub returns-clause-sent : goal.returns-clause-sent
returns-clause-sent c me settings =
    on_ok_weaker c.tell_own.result (λ e. c.reserve.ensures.items ∙ c.in_ok-tell.ensures.ok me settings) c.tell_own.ensures.ok

pub returns-clause-ghosts : goal.returns-clause-ghosts
returns-clause-ghosts c me settings =
    let t = c.args.t.now in
    let of = c.args.of.now in
    let ghosts = c.args.remotes.now.copies.ghosts in
    let copy = copy_with (node_with of.defs.now me settings) of.ty of.version (state_of of) in
    on_ok_weaker c.tell_own.result
    (λ e. e
    ∙ (ap (λ o. set_at ghosts t.entity (ghost_after (table.get ghosts t.entity) (record { beat = t.beat; copy = o })))
    (c.in_ok-own.ensures me settings)
    ∙ sym (heard_away t copy ghosts (other_test t.home t.me c.if-t.false))))
    c.tell_own.ensures.ok
