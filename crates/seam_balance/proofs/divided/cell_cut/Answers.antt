use Rattle.std.proofs.Common.{◌≡◌, ◌≤◌, ◌<◌, ◌-◌, sym, ap, ◌∙◌, arith, Some}
use Rattle.std.proofs.lemmas.Option.{same_Some, slice_get-get_or}
use Rattle.std.specs.Option.{option_map}
use Rattle.seam_tree.specs.declared.cut.Cut.{Cut}
use Rattle.seam_tree.specs.Division.{cells_of, no_cut, cut_after, cell_cut_by}
use Rattle.seam_tree.proofs.Changes.{cut_number_from_one}
use Rattle.seam_balance.proofs.divided.cell_cut.Goals as goal

pub returns : goal.returns
returns c =
    let from : 1 ≤ c.args.b = c.requires.from_one in
    let to : c.args.b < cells_of c.args.tree.now = c.requires.to_last in
    let is : cell_cut_by c.args.tree.now c.args.b ≡ Some (cut_after c.args.tree.now (c.args.b - 1)).cell =
    ap (option_map (λ (x : Cut). x.cell)) (cut_number_from_one c.args.tree.now c.args.b from
    ∙ slice_get-get_or c.args.tree.now.cuts (c.args.b - 1) no_cut (omega arith)) in
    same_Some _ _ (sym c.unwrap.ensures ∙ c.cut_of.ensures.value ∙ is)
