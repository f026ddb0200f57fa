-- Where a survey has nothing to do.
use Rattle.std.specs.Prelude.{◌≡◌, true, Option, Some}
use Rattle.seam_node_steps.specs.Prelude.{Division, Here, RealView, may_settle}
use Rattle.seam_cell_parts.specs.Settling.{IsAtRest}

-- the real, if it is here and may settle, is at rest
abbrev pub IsMoot : Here → Division → Option RealView → Type 0
IsMoot h t o = (r : RealView) → o ≡ Some r → may_settle r ≡ true → IsAtRest h t r
