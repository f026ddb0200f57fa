use Rattle.std.proofs.Common.{◌≡◌, ◌<◌, ℕ, true, subst}
use Rattle.std.specs.Prelude.{◌↔◌}
use Rattle.std.specs.FinSet as set
use Rattle.seam_tree.specs.Division.{cells_of}
use Rattle.seam_cell_cases.proofs.ArriveLemmas.{fit_where_below}
use Rattle.seam_cell_cases.proofs.arriving.are_cells.Goals as goal

pub returns : goal.returns
returns c =
    let tells : (c.are_below.result ≡ true) ↔ ((k : ℕ) → set.contains c.args.haunts k ≡ true → k < cells_of c.args.tree.now) =
    subst (λ n. (c.are_below.result ≡ true) ↔ ((k : ℕ) → set.contains c.args.haunts k ≡ true → k < n))
    c.cells.ensures.count c.are_below.ensures.below in
    fit_where_below c.args.haunts c.args.tree.now c.are_below.result tells c.are_below.ensures.small
