-- Where entities are held: how a place follows from what an entity did in a round.
use Rattle.std.specs.Prelude.{ℕ, ◌+◌, List, filter, if◌then◌else◌}
use Rattle.std.specs.List.{range_with_len}
use Rattle.std.specs.FinSet as set
use Rattle.seam_tree.specs.Division.{Division, cells_of, leaf_at}
use Rattle.seam_haunt.specs.Places.{Distances, Place, IsPlaceAfter}
use Rattle.seam_defs.specs.declared.flags.Part.TheVariants as part
use Rattle.seam_defs.specs.declared.settings.Settings.{Settings}
use Rattle.seam_call.specs.declared.create.Create.{Create}
use Rattle.seam_toml.specs.declared.header.Header.{Header}
use Rattle.seam_rule_lines.specs.Book.{is_new, tree_of}
use Rattle.seam_rule_rounds.specs.FlatTable.{version_of, position_at, positions_past}
use Rattle.seam_rule_rounds.specs.Standing.{Standing}

-- up to which distances from its area a cell keeps an entity, gets a ghost of it, and keeps that ghost
abbrev pub distances : Settings → Distances
distances s = record { kept = s.offload_hysteresis; near = s.ghost_distance; far = s.ghost_distance + s.ghost_hysteresis }

-- where an entity was held when the round began: a new one in the cell in which it is made, and nowhere else
abbrev pub place_before : Standing → Create → Place
place_before s c =
    if is_new s.book c.entity then record { home = leaf_at (tree_of s.book) c.pos; ghosts = set.empty } else s.places c.entity

-- an entity may have the place that it is left in: settled, by the round's tree, where it was when the round began and after each
-- call that its cell part executed in the round
abbrev pub HasPlace : Header → Standing → Standing → Create → Type 0
HasPlace h s t c =
    let order = t.orders part.Cell c.entity in
    let began = version_of s.orders part.Cell c in
    IsPlaceAfter (distances h.settings) (tree_of s.book) (place_before s c) (position_at h c order began)
    (positions_past h c order began) (t.places c.entity)

-- the cells of a tree that have a ghost, in rising number
abbrev pub ghost_cells : Division → Place → List ℕ
ghost_cells tree place = filter (λ cell. set.contains place.ghosts cell) (range_with_len 0 (cells_of tree))
