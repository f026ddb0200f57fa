use Rattle.std.proofs.Common.{Some, ap, sym, ◌∙◌, eqb, slice_get}
use Rattle.std.specs.List.{list_any}
use Rattle.seam_view.proofs.Shown.{once_when_rising}
use Rattle.seam_view.proofs.Zipped.{found_zipped, none_zipped}
use Rattle.seam_view.proofs.departed.Settled.get.Goals as goal

pub returns-in-Ok : goal.returns-in-Ok
returns-in-Ok c =
    let ks = c.args.self.now.entities.items in
    ap Some c.index.ensures
    ∙ sym (found_zipped ks c.args.self.now.versions.items c.in-Ok.place c.args.e _ (once_when_rising ks c.requires.rising) c.requires.many
    (ap (λ l. slice_get l c.in-Ok.place) (sym c.deref.ensures.value) ∙ c.in-Ok.ensures.there))

pub returns-in-Err : goal.returns-in-Err
returns-in-Err c =
    sym (none_zipped c.args.e c.args.self.now.entities.items c.args.self.now.versions.items
    (ap (list_any (eqb c.args.e)) (sym c.deref.ensures.value) ∙ c.in-Err.ensures.absent))
