-- The order of a tree's boundaries from the root on.
use Rattle.std.specs.Prelude.{ℕ, ◌+◌, ◌==◌, List, [], ◌∷◌, ◌++◌, if◌then◌else◌}
use Rattle.seam_tree.specs.declared.cut.Cut.{Cut}
use Rattle.seam_tree.specs.Division.{Division}

-- the boundaries within a cell that later cuts make, of which the first has the number: the first that cuts the cell,
-- then those below its lower side, which stays the cell, and then those below its upper side, which is the new cell
abbrev pub boundaries_within : List Cut → ℕ → ℕ → List ℕ
boundaries_within [] number cell = []
boundaries_within (c ∷ cuts) number cell =
    if c.cell == cell then number ∷ (boundaries_within cuts (number + 1) cell ++ boundaries_within cuts (number + 1) number)
    else boundaries_within cuts (number + 1) cell

-- all boundaries of a tree
abbrev pub boundaries_from_root : Division → List ℕ
boundaries_from_root t = boundaries_within t.cuts 1 0
