-- A set of cells as a number, which has a binary digit for each cell, the least first.
use Rattle.std.specs.Prelude.{ℕ, zero, suc, ◌+◌, ◌^◌, ◌==◌, if◌then◌else◌}
use Rattle.std.specs.Int.{bit_at}
use Rattle.std.specs.List.{range_with_len}
use Rattle.std.specs.FinSet as set
use Rattle.seam_tree.specs.Cells.{Cells}

-- the numbers below 16 whose digit is 1
unfoldable pub marked : ℕ → Cells
marked digits = set.retain (set.from_list (range_with_len 0 16)) (λ k. bit_at digits k == 1)

-- the number whose digits are 1 for the members below `count`, and 0 for all others
unfoldable pub digits_of : Cells → ℕ → ℕ
digits_of s zero = 0
digits_of s (suc k) = (if set.contains s k then 2 ^ k else 0) + digits_of s k
