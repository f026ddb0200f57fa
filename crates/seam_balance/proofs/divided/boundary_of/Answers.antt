use Rattle.std.proofs.Common.{◌≡◌, ◌≤◌, ◌<◌, ◌-◌, sym, ap, ◌∙◌, arith, Some}
use Rattle.std.proofs.lemmas.Option.{same_Some, slice_get-get_or}
use Rattle.std.specs.Option.{option_map}
use Rattle.seam_tree.specs.declared.cut.Cut.{Cut}
use Rattle.seam_tree.specs.Division.{cells_of, no_cut, boundary_of}
use Rattle.seam_tree.proofs.Changes.{cut_number_from_one}
use Rattle.seam_balance.specs.Balance.{boundary_at}
use Rattle.seam_balance.proofs.divided.boundary_of.Goals as goal

pub returns : goal.returns
returns c =
    let from : 1 ≤ c.args.b = c.requires.from_one in
    let to : c.args.b < cells_of c.args.tree.now = c.requires.to_last in
    let is : boundary_of c.args.tree.now c.args.b ≡ Some (boundary_at c.args.tree.now c.args.b) =
    ap (option_map (λ (x : Cut). x.boundary)) (cut_number_from_one c.args.tree.now c.args.b from
    ∙ slice_get-get_or c.args.tree.now.cuts (c.args.b - 1) no_cut (omega arith)) in
    same_Some _ _ (sym c.unwrap.ensures ∙ c.boundary.ensures.value ∙ is)
