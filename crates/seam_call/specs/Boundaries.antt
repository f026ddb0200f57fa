-- The boundaries that a cell goes by: those of the round's start, or others that replaced them.
use Rattle.std.specs.Prelude.{ℕ, Bool, true, false, ◌==◌, Option, None, Some}
use Rattle.seam_tree.specs.Division.{Division}
use Rattle.seam_call.specs.declared.order.Boundaries.{Boundaries}

-- the boundaries of a round's start
abbrev pub at_start : Division → Boundaries
at_start t = record { tree = t; number = 0 }

-- the number of those that are brought: none are brought of the round's start
abbrev pub number_in : Option Boundaries → ℕ
number_in None = 0
number_in (Some b) = b.number

abbrev pub unless_first : Bool → Boundaries → Option Boundaries
unless_first true b = None
unless_first false b = Some b

-- what a cell that goes by these boundaries brings to others
abbrev pub brought : Boundaries → Option Boundaries
brought b = unless_first (b.number == 0) b
