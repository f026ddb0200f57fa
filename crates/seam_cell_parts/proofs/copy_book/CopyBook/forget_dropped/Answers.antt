use Rattle.std.proofs.Common.{ap, sym, subst, ◌∙◌}
use Rattle.seam_cell_parts.specs.Spots.{AreKeptNoted, copy_locations}
use Rattle.seam_cell_parts.proofs.SpotLemmas.{copies_stay_noted}
use Rattle.seam_cell_parts.proofs.copy_book.CopyBook.forget_dropped.Goals as goal

pub invariant_of-self : goal.invariant_of-self
invariant_of-self c =
    subst (AreKeptNoted c.self.inside.spots)
    (sym (ap (λ w. copy_locations w.ghosts) c.forget_dropped.ensures ∙ copies_stay_noted c.self.inside.book.ghosts))
    c.self.invariant
