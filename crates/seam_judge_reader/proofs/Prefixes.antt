-- The cuts of a tree can be made one after the other.
use Rattle.std.proofs.Common.{◌≡◌, ℕ, zero, suc, ◌+◌, ◌<◌, ◌≤◌, List, [], ◌∷◌, ◌++◌, length, refl, sym, subst, arith, slice_index_or}
use Rattle.std.proofs.Common.{length-append}
use Rattle.seam_tree.specs.declared.cut.Cut.{Cut}
use Rattle.seam_tree.specs.Boundary.{RunsThrough}
use Rattle.seam_tree.specs.Division.{Division, IsTree, cut_after, area_after}
use Rattle.seam_tree.specs.Change.{CanCut}
use Rattle.seam_tree.proofs.Areas.{proper_step, tree_proper}
use Rattle.seam_tree.proofs.Agree.{area_agree}

at_front : (xs ys : List Cut) (c d : Cut) → slice_index_or (xs ++ c ∷ ys) (length xs) d ≡ c
at_front [] ys c d = refl
at_front (x ∷ xs) ys c d = at_front xs ys c d

in_front : (xs ys : List Cut) (k : ℕ) (d : Cut) → k < length xs → slice_index_or xs k d ≡ slice_index_or (xs ++ ys) k d
in_front [] ys k d below = absurd (omega arith)
in_front (x ∷ xs) ys zero d below = refl
in_front (x ∷ xs) ys (suc k) d below = in_front xs ys k d (omega arith)

pub can_cut : (size : ℕ) (former : List Cut) (c : Cut) (later : List Cut) →
    IsTree (record { size = size; cuts = former ++ c ∷ later }) → CanCut (record { size = size; cuts = former }) c.cell c.boundary
can_cut size former c later tree =
    let t : Division = record { size = size; cuts = former ++ c ∷ later } in
    let u : Division = record { size = size; cuts = former } in
    let n = length former in
    let long : length t.cuts ≡ n + length (c ∷ later) = length-append former (c ∷ later) in
    let within : n < length t.cuts = omega (arith, long) in
    let up_to : suc n ≤ length t.cuts = omega (arith, within) in
    let this : cut_after t n ≡ c = at_front former later c _ in
    let there = tree.cell_was_there n within in
    let below : c.cell ≤ n = subst (λ (x : Cut). x.cell ≤ n) this there in
    let divided = (proper_step t n there (tree_proper t (suc n) tree up_to)).1 in
    let runs : RunsThrough c.boundary (area_after t n c.cell) =
    subst (λ (x : Cut). RunsThrough x.boundary (area_after t n x.cell)) this divided in
    let agree = area_agree u t n (record { size = refl; cuts = λ k small. in_front former (c ∷ later) k _ small }) c.cell in
    let cells = tree.cells_to in
    record {
      there = omega (arith, below);
      runs = subst (RunsThrough c.boundary) (sym agree) runs;
      room = omega (arith, cells, long);
    }
