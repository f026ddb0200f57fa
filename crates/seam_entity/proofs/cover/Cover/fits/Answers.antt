use Rattle.std.proofs.Common.{◌≡◌, true, sym, ◌∙◌, subst}
use Rattle.std.specs.List.{list_any}
use Rattle.seam_defs.specs.declared.flags.Part.TheVariants as part
use Rattle.seam_defs.specs.declared.states.Deed.TheVariants as deed
use Rattle.seam_entity.specs.Covers.{takes, covers}
use Rattle.seam_entity.specs.Fitting.{can_do}
use Rattle.seam_entity.specs.Preparing.{node_with}
use Rattle.seam_entity.proofs.CoverLemmas.{covered_fits}
use Rattle.seam_entity.proofs.cover.Cover.fits.Goals as goal

pub returns-then-is_inside : goal.returns-then-is_inside
returns-then-is_inside c = λ all me k covered.
    covered_fits (node_with c.args.defs.now me c.args.settings.now) c.args.ty _ (sym c.is_inside.ensures ∙ c.if-is_inside.true)
    (λ m args any.
    subst (λ t. can_do c.args.settings.now.size t part.Cell (deed.Method m args) ≡ true) c.type_at.ensures.value
    (c.are_cell_methods.ensures all c.args.settings.now.size m args
    (subst (λ ms. list_any (takes m args) ms ≡ true) (sym c.deref.ensures.value) any)))
    c.args.entity c.if-self-entity.true k (subst (λ v. covers v k ≡ true) (sym c.self.view_is) covered)
