use Rattle.std.proofs.Common.{Some, refl, sym, ap, ◌∙◌}
use Rattle.seam_cell_parts.proofs.RealLemmas.{taken_out}
use Rattle.seam_cell_parts.proofs.reals.take_out.Goals as goal

pub returns-clause-place : goal.returns-clause-place
returns-clause-place c =
    taken_out c.args.reals.now
    (record { items = c.take.new.self; ready = c.insert.new.self; witnesses = c.args.reals.now.witnesses }) c.args.e
    c.parcel.inside.real.core c.requires.kept (sym c.take.ensures.item ∙ (c.in-Some.is ∙ ap Some (sym c.parcel.view_is)))
    (ap (λ t. t.items) c.take.ensures.after) c.in-Some.ensures.room c.in_ok-insert.ensures.ok refl
