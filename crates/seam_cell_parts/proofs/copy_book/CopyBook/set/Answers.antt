use Rattle.std.proofs.Common.{Some, ap, sym, ◌∙◌}
use Rattle.std.specs.Prelude.{if◌then◌else◌}
use Rattle.std.specs.Ordering.{nat_cmp, eq_by_cmp}
use Rattle.std.specs.FinMap as map
use Rattle.seam_node_steps.specs.Prelude.{Ghost, GhostCopy, ghost_after, set_at}
use Rattle.seam_cell_parts.specs.Spots.{copy_locations}
use Rattle.seam_cell_parts.proofs.SettleLemmas.{book_after}
use Rattle.seam_cell_parts.proofs.SpotLemmas.{copy_changed}
use Rattle.seam_cell_parts.proofs.copy_book.CopyBook.set.Goals as goal

pub invariant_of-self : goal.invariant_of-self
invariant_of-self c =
    let g : Ghost GhostCopy = record { beat = c.args.beat; copy = Some c.args.copy } in
    c.note.ensures (copy_locations c.self.inside.book.ghosts) (copy_locations c.set.new.self.ghosts) c.self.invariant
    (λ q. ap (λ w. copy_locations w.ghosts q) c.in-Ok-Taken.ensures.after
    ∙ (copy_changed c.self.inside.book c.args.e g (sym c.in-Ok-Taken.field-0-is ∙ c.in-Ok-Taken.ensures.answer) q
    ∙ ap (λ p. if eq_by_cmp nat_cmp q c.args.e then Some p else copy_locations c.self.inside.book.ghosts q)
    (sym c.location_of-location.ensures)))

pub returns-in-Ok-Ignored-clause-ok : goal.returns-in-Ok-Ignored-clause-ok
returns-in-Ok-Ignored-clause-ok c =
    ap (λ w. w.ghosts) c.in-Ok-Ignored.ensures.after
    ∙ (book_after c.self.inside.book c.args.e (record { beat = c.args.beat; copy = Some c.args.copy })
    ∙ ap (λ w. set_at w.ghosts c.args.e (ghost_after (map.get w.ghosts c.args.e) (record { beat = c.args.beat; copy = Some c.args.copy })))
    c.self.view_is)
