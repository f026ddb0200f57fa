-- Which deeds a part can do.
use Rattle.std.specs.Prelude.{ℕ, Bool, true, ◌&&◌, nat_lt}
use Rattle.seam_geo.specs.declared.pos.Pos.{Pos}
use Rattle.seam_defs.specs.declared.flags.Part.{Part}
use Rattle.seam_defs.specs.declared.types.TypeDef.{TypeDef}
use Rattle.seam_defs.specs.declared.states.Deed.{Deed}
use Rattle.seam_defs.specs.declared.states.Deed.TheVariants.{Move, Method}
use Rattle.seam_defs.specs.Deeds.{part_of_deed}
use Rattle.seam_defs.specs.Tests.{fits_deed, same_part}

-- the position is in a space of that size
abbrev pub is_inside : ℕ → Pos → Bool
is_inside size p = nat_lt p.x size && nat_lt p.z size

-- a move goes to a position in the space
abbrev pub stays_inside : ℕ → Deed → Bool
stays_inside size (Move p) = is_inside size p
stays_inside size (Method m args) = true

-- the deed is one of that part of the type, fits it, and does not leave the space
abbrev pub can_do : ℕ → TypeDef → Part → Deed → Bool
can_do size t p d = same_part (part_of_deed t d) p && (fits_deed t d && stays_inside size d)
