-- The tables of a tree: that of its cuts, of fifteen places, and that of its cells' areas, of sixteen; and the entries of
-- those that are free.
use Rattle.std.specs.Prelude.{ℕ, ◌-◌, List, length, ◌++◌, replicate, map}
use Rattle.std.specs.List.{range_with_len}
use Rattle.seam_geo.specs.Rect.{Area}
use Rattle.seam_tree.specs.declared.cut.Cut.{Cut}
use Rattle.seam_tree.specs.Division.{Division, area_after, no_cut}

-- the cuts, filled up to fifteen
abbrev pub padded : List Cut → List Cut
padded cuts = cuts ++ replicate (15 - length cuts) no_cut

-- the areas after the first n cuts, by the cells' numbers; a number that no cell has yet has the whole space
abbrev pub table_after : Division → ℕ → List Area
table_after t n = map (area_after t n) (range_with_len 0 16)

-- the cells' areas, by their numbers
abbrev pub area_table : Division → List Area
area_table t = table_after t (length t.cuts)
