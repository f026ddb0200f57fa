-- The points of a legal round, one by one.
use Rattle.std.specs.Prelude.{◌≡◌, ◌⊎◌, ◌+◌, ◌≤◌, ℕ, List, [], ◌∷◌, length, map, Option, None, Some}
use Rattle.std.specs.List.{All, flat_map}
use Rattle.seam_defs.specs.declared.flags.Part.TheVariants as part
use Rattle.seam_rule_rounds.specs.Prelude.{Create, Header, Lists, ExtendsOrders, live_as, tree_of, Standing, HasPlace, RoundData, HasShown}
use Rattle.seam_rule_rounds.specs.Prelude.{HasLooked, home_line, base_line, ghost_lines, HasBounds, Place, Distances, distances}
use Rattle.seam_rule_rounds.specs.Prelude.{settled_all, Division, Pos, place_before, position_at, positions_past, version_of}
use Rattle.seam_judge_rounds.specs.declared.verdict.Point.{Point}
use Rattle.seam_judge_rounds.specs.declared.verdict.Point.TheVariants as point

-- what is said of the list of live entities, of which there is one
abbrev pub OfLive : Standing → (List Create → Type 0) → Type 0
OfLive s P = (live : List Create) → Lists (live_as s.book) live → P live

-- the cell of the home after a round, as *IsPlaceAfter* has the whole place: that of the place settled at the start and then after each
-- call, or, where there was one, after the calls alone
abbrev pub IsCellAfter : Distances → Division → Place → Pos → List Pos → ℕ → Type 0
IsCellAfter d t was start path home =
    ((settled_all d t was (start ∷ path)).home ≡ home) ⊎ ((1 ≤ length path) × ((settled_all d t was path).home ≡ home))

-- an entity may have its home in the cell in which it is left
abbrev pub HasCell : Header → Standing → Standing → Create → Type 0
HasCell h s t c =
    let order = t.orders part.Cell c.entity in
    let began = version_of s.orders part.Cell c in
    IsCellAfter (distances h.settings) (tree_of s.book) (place_before s c) (position_at h c order began)
    (positions_past h c order began) (t.places c.entity).home

-- the point holds: the field of *IsRound* of its name, and of *Cells* what *places* says of homes alone
abbrev pub Holds : Header → Standing → RoundData → Standing → Point → Type 0
Holds h s r t point.Number = r.number ≡ s.rounds + 1
Holds h s r t point.Did = ExtendsOrders s.book part.Cell (s.orders part.Cell) (t.orders part.Cell) r.did
Holds h s r t point.Dob = ExtendsOrders s.book part.Base (s.orders part.Base) (t.orders part.Base) r.dob
Holds h s r t point.Homes = OfLive s (λ live. r.homes ≡ map (home_line h t) live)
Holds h s r t point.Cells = OfLive s (All (HasCell h s t))
Holds h s r t point.Bases = OfLive s (λ live. r.bases ≡ map (base_line h t) live)
Holds h s r t point.Places = OfLive s (All (HasPlace h s t))
Holds h s r t point.Ghosts = OfLive s (λ live. r.ghosts ≡ flat_map (ghost_lines h (tree_of s.book) t) live)
Holds h s r t point.Shown = HasShown h s r t
Holds h s r t point.Looked = OfLive s (HasLooked h s r t)
Holds h s r t point.Bounds = HasBounds h s r t

-- the points after the number, in the order in which they are judged
abbrev pub later_points : List Point
later_points =
    point.Did ∷ point.Dob ∷ point.Homes ∷ point.Cells ∷ point.Bases ∷ point.Places ∷ point.Ghosts ∷ point.Shown ∷ point.Looked
    ∷ point.Bounds ∷ []

-- all points in that order
abbrev pub points : List Point
points = point.Number ∷ later_points

-- the first of the points that does not hold, where one does not: all before it hold
abbrev pub IsFirstBroken : (Point → Type 0) → List Point → Option Point → Type 0
IsFirstBroken H [] broken = broken ≡ None
IsFirstBroken H (p ∷ ps) broken = (¬ (H p) × (broken ≡ Some p)) ⊎ (H p × IsFirstBroken H ps broken)
