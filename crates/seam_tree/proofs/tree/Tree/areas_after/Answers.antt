use Rattle.std.proofs.Common.{◌≡◌, subst}
use Rattle.std.specs.Option.{IfNone}
use Rattle.seam_tree.specs.Division.{Division}
use Rattle.seam_tree.proofs.Areas.{tree_proper}
use Rattle.seam_tree.proofs.Filled.{EmptyAfter, some_where_proper}
use Rattle.seam_tree.proofs.tree.Tree.areas_after.Goals as goal

pub unwrap-requires : goal.unwrap-requires
unwrap-requires c =
    let is : record { size = c.self.inside.size; cuts = c.made.result.now } ≡ c.args.self.now =
    λ i. record { size = (c.self.view_is i).size; cuts = c.made.ensures.cuts i } in
    some_where_proper c.args.self.now c.args.made c.areas_after.result
    (tree_proper c.args.self.now c.args.made c.made.ensures.tree c.requires)
    (subst (λ (t : Division). IfNone c.areas_after.result (EmptyAfter t c.args.made)) is c.areas_after.ensures.empty)
