use Rattle.std.proofs.Common.{is_some, ap, sym, ◌∙◌, eqb, slice_get}
use Rattle.std.specs.List.{list_any}
use Rattle.seam_view.proofs.Shown.{once_when_rising}
use Rattle.seam_view.proofs.Zipped.{found_zipped, placed_zipped, none_zipped}
use Rattle.seam_view.proofs.departed.Settled.set.Goals as goal

pub returns-in-Ok-clause-there : goal.returns-in-Ok-clause-there
returns-in-Ok-clause-there c =
    let ks = c.args.self.now.entities.items in
    ap is_some
    (found_zipped ks c.args.self.now.versions.items c.in-Ok.place c.args.e 0 (once_when_rising ks c.requires.rising) c.requires.many
    (ap (λ l. slice_get l c.in-Ok.place) (sym c.deref.ensures.value) ∙ c.in-Ok.ensures.there))

pub returns-in-Ok-clause-set : goal.returns-in-Ok-clause-set
returns-in-Ok-clause-set c =
    let ks = c.args.self.now.entities.items in
    placed_zipped ks c.args.self.now.versions.items c.in-Ok.place c.args.e c.args.version (once_when_rising ks c.requires.rising)
    c.requires.many (ap (λ l. slice_get l c.in-Ok.place) (sym c.deref.ensures.value) ∙ c.in-Ok.ensures.there)

pub returns-in-Err-clause-none : goal.returns-in-Err-clause-none
returns-in-Err-clause-none c =
    none_zipped c.args.e c.args.self.now.entities.items c.args.self.now.versions.items
    (ap (list_any (eqb c.args.e)) (sym c.deref.ensures.value) ∙ c.in-Err.ensures.absent)
