-- Sets of cells, by their numbers.
use Rattle.std.specs.Ordering.{nat_cmp}
use Rattle.std.specs.FinSet as set

-- a set of cell numbers
abbrev pub Cells : Type 0
Cells = set.FinSet nat_cmp
