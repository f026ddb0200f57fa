-- For callers: the cell of any position is a cell of the tree.
use Rattle.std.proofs.Common.{◌<◌, length, arith}
use Rattle.seam_geo.specs.declared.pos.Pos.{Pos}
use Rattle.seam_tree.specs.Division.{Division, leaf_at, cells_of}
use Rattle.seam_tree.proofs.Areas.{leaf_within}

pub leaf_is_cell : (t : Division) (p : Pos) → leaf_at t p < cells_of t
leaf_is_cell t p = omega (arith, leaf_within t (length t.cuts) p)
