use Rattle.std.proofs.Common.{◌≡◌, ◌+◌, None, ap, ◌∙◌}
use Rattle.std.specs.FinMap as table
use Rattle.seam_node_steps.specs.Prelude.{ghost_after, set_at, CellView}
use Rattle.seam_cell_parts.specs.Kept.{cell_of}
use Rattle.seam_cell_parts.proofs.MarkLemmas.{put_back}
use Rattle.seam_cell_cases.proofs.ArriveLemmas.{reaped}
use Rattle.seam_cell_cases.proofs.reaping.reap.Goals as goal

pub returns-clause-state : goal.returns-clause-state
returns-clause-state c = λ k from.
    let d : CellView = cell_of k c.args.reals.now c.args.remotes.now c.args.lists.now in
    let e = c.args.e in
    let known = table.get c.args.remotes.now.copies.ghosts e in
    reaped d from e c.in_ok-real.real.core c.in_ok-real.ensures.real c.if-not-may_go.ensures c.close.new.reals.items.items
    c.drop_copy.new.self.ghosts c.unlist.new.lists.survey c.unlist.new.lists.looks
    (c.close.ensures.items ∙ c.in_ok-real.ensures.items)
    (c.in_default.ensures.ok
    ∙ λ i. set_at c.args.remotes.now.copies.ghosts e (ghost_after known (record { beat = c.beat.ensures i + 1; copy = None })))
    c.unlist.ensures.survey c.unlist.ensures.looks

-- the real that was taken out is put back, and the book is as it was
pub returns-in-Err-clause-err : goal.returns-in-Err-clause-err
returns-in-Err-clause-err c = λ k.
    let m = c.args.reals.now.items.items in
    let e = c.args.e in
    let x = c.in_ok-real.real.core in
    let reals : c.put_in.new.reals.items.items ≡ m =
    c.put_in.ensures.items
    ∙ (ap (λ w. table.insert w e x) c.in_ok-real.ensures.items ∙ put_back m e x c.in_ok-real.ensures.real) in
    λ i. record (cell_of k c.args.reals.now c.args.remotes.now c.args.lists.now) { reals = reals i; ghosts = c.in-Err.ensures.err i }
