-- What a world has of an entity, found by the entity's base node, and by the route that this has to the real.
use Rattle.std.specs.Prelude.{◌≡◌, ℕ, ◌+◌, ◌-◌, ◌%◌, List, [], ◌∷◌, length, Option, None, Some, option_map, if◌then◌else◌}
use Rattle.std.specs.List.{flat_map}
use Rattle.std.specs.FinSet as set
use Rattle.seam_node_steps.specs.Prelude.{Pos, Part, Call, Line, cell_count, cell_numbers, RealView, RouteView, PartView, World}
use Rattle.seam_rule_rounds.specs.Prelude.{HomeLine, BaseLine, GhostLine}
use Rattle.seam_law_calls.specs.Prelude.{entity_flow, real_in, proxy_of, lines_in}
use Rattle.seam_law_book.specs.Prelude.{done_by_part, home_read}
use Rattle.seam_law_transcript.specs.Prelude.{base_if}
use Rattle.seam_defs.specs.declared.flags.Part.TheVariants as part

-- ---- the entity

-- how many base nodes the world has, and which node is the entity's base node
abbrev pub bases_of : World → ℕ
bases_of w = length w.nodes - cell_count

abbrev pub node_for : World → ℕ → ℕ
node_for w e = cell_count + (e % bases_of w)

-- its base part, at its base node
abbrev pub part_found : World → ℕ → Option PartView
part_found w e = ((entity_flow e w).slot (node_for w e)).base.part

-- its real with the cell that it is in, where a route leads to it
abbrev pub by_route : World → ℕ → Option RouteView → Option (ℕ × RealView)
by_route w e None = None
by_route w e (Some r) = option_map (λ q. (r.cell, q)) (real_in ((entity_flow e w).slot r.cell))

-- the same by the route of its base node
abbrev pub home_found : World → ℕ → Option (ℕ × RealView)
home_found w e = by_route w e ((entity_flow e w).slot (node_for w e)).base.route

-- wherever its real is, the route of its base node leads there: so that the real may be looked for in a cell first
abbrev pub RoutesLeadHome : World → Type 0
RoutesLeadHome w = (e k : ℕ) (r : RealView) → real_in ((entity_flow e w).slot k) ≡ Some r → home_found w e ≡ Some (k, r)

-- ---- its lines

-- the calls that its cell part, or its base part, executed in the round
abbrev pub done_at_home : Option (ℕ × RealView) → List Call
done_at_home None = []
done_at_home (Some p) = p.1.done

abbrev pub done_found : Part → World → ℕ → List Call
done_found part.Cell w e = done_at_home (home_found w e)
done_found part.Base w e = done_by_part (part_found w e)

-- its home line
abbrev pub home_line_at : ℕ → Option (ℕ × RealView) → List HomeLine
home_line_at e None = []
home_line_at e (Some p) = home_read e p.0 p.1 ∷ []

abbrev pub homes_found : World → ℕ → List HomeLine
homes_found w e = home_line_at e (home_found w e)

-- its base line
abbrev pub bases_found : World → ℕ → List BaseLine
bases_found w e = base_if e (part_found w e)

-- its ghost lines, at its public version: one for each cell that its real has as a haunt
abbrev pub ghost_line : ℕ → ℕ → ℕ → GhostLine
ghost_line e version k = record { entity = e; cell = k; version = version }

abbrev pub haunt_line : ℕ → RealView → ℕ → List GhostLine
haunt_line e r k = if set.contains r.haunts k then ghost_line e r.public k ∷ [] else []

abbrev pub ghost_lines_at : ℕ → Option (ℕ × RealView) → List GhostLine
ghost_lines_at e None = []
ghost_lines_at e (Some p) = flat_map (haunt_line e p.1) cell_numbers

abbrev pub ghosts_found : World → ℕ → List GhostLine
ghosts_found w e = ghost_lines_at e (home_found w e)

-- the lines that its client was shown in the round so far
abbrev pub lines_found : World → ℕ → List Line
lines_found w e = lines_in (proxy_of (part_found w e))

-- where it is
abbrev pub position_at : Option (ℕ × RealView) → List Pos
position_at None = []
position_at (Some p) = p.1.state.pos ∷ []

abbrev pub positions_found : World → ℕ → List Pos
positions_found w e = position_at (home_found w e)
