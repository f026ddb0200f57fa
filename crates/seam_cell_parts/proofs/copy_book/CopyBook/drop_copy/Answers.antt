use Rattle.std.proofs.Common.{None, ap, sym, ◌∙◌}
use Rattle.std.specs.FinMap as map
use Rattle.seam_node_steps.specs.Prelude.{Ghost, GhostCopy, ghost_after, set_at}
use Rattle.seam_cell_parts.specs.Spots.{copy_locations}
use Rattle.seam_cell_parts.proofs.SettleLemmas.{book_after}
use Rattle.seam_cell_parts.proofs.SpotLemmas.{copy_changed}
use Rattle.seam_cell_parts.proofs.copy_book.CopyBook.drop_copy.Goals as goal

pub invariant_of-self : goal.invariant_of-self
invariant_of-self c =
    let g : Ghost GhostCopy = record { beat = c.args.beat; copy = None } in
    c.forget.ensures (copy_locations c.self.inside.book.ghosts) (copy_locations c.drop_copy.new.self.ghosts) c.self.invariant
    (λ q. ap (λ w. copy_locations w.ghosts q) c.in-Ok-Taken.ensures.after
    ∙ copy_changed c.self.inside.book c.args.e g (sym c.in-Ok-Taken.field-0-is ∙ c.in-Ok-Taken.ensures.answer) q)

pub returns-in-Ok-Ignored-clause-ok : goal.returns-in-Ok-Ignored-clause-ok
returns-in-Ok-Ignored-clause-ok c =
    ap (λ w. w.ghosts) c.in-Ok-Ignored.ensures.after
    ∙ (book_after c.self.inside.book c.args.e (record { beat = c.args.beat; copy = None })
    ∙ ap (λ w. set_at w.ghosts c.args.e (ghost_after (map.get w.ghosts c.args.e) (record { beat = c.args.beat; copy = None })))
    c.self.view_is)
