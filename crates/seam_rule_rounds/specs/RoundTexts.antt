-- The text of each line of a round, and of a round.
use Rattle.std.specs.Prelude.{ℕ, List, [], ◌∷◌, ◌++◌, length, codes, Option, Some, None}
use Rattle.std.specs.List.{flat_map, zip, range_with_len}
use Rattle.seam_value.specs.Values.{decimal_of}
use Rattle.seam_machine.specs.declared.machines.Event.{Event}
use Rattle.seam_watch.specs.declared.journal.Journal.{Journal}
use Rattle.seam_tree.specs.declared.cut.Cut.{Cut}
use Rattle.seam_tree.specs.Division.{Division}
use Rattle.seam_defs.specs.Types.{type_of}
use Rattle.seam_defs.specs.Deeds.{values_text}
use Rattle.seam_defs.specs.declared.types.TypeDef.{TypeDef}
use Rattle.seam_defs.specs.declared.flags.Group.{Group}
use Rattle.seam_defs.specs.declared.flags.Group.TheVariants as group
use Rattle.seam_defs.specs.declared.states.State.{State}
use Rattle.seam_call.specs.declared.shown.Shown.{Shown}
use Rattle.seam_call.specs.declared.shown.Shown.TheVariants.{Own, Enter, Set, Leave}
use Rattle.seam_call.specs.declared.shown.ClientText.{ClientText}
use Rattle.seam_call.specs.declared.shown.ClientText.TheVariants as text
use Rattle.seam_rule_lines.specs.Language.{axis_text}
use Rattle.seam_rule_lines.specs.LineTexts.{field, number_text, done_text, home_text, base_text}
use Rattle.seam_rule_rounds.specs.Lines.{GhostLine, ClientLine, RoundData}

-- a state: its position, and the values of a group
abbrev pub state_text : TypeDef → Group → State → List ℕ
state_text t g s = field s.pos.x ++ field s.pos.z ++ values_text t.properties g s.props

-- the entity, the cell, and the public version
abbrev pub ghost_text : GhostLine → List ℕ
ghost_text l = codes "ghost " ++ decimal_of l.entity ++ field l.cell ++ field l.version ++ 10 ∷ []

-- what the client of an entity of a type is shown of cell parts
abbrev pub shown_text : List TypeDef → (ty : ℕ) → Shown → List ℕ
shown_text defs ty (Own v s) = codes " own" ++ field v ++ state_text (type_of defs ty) group.Own s
shown_text defs ty (Enter e k) =
    codes " enter" ++ field e ++ 32 ∷ (type_of defs k.ty).name ++ field k.version ++ state_text (type_of defs k.ty) group.Other k.state
shown_text defs ty (Set e k) = codes " set" ++ field e ++ field k.version ++ state_text (type_of defs k.ty) group.Other k.state
shown_text defs ty (Leave e) = codes " leave" ++ field e

-- what it is shown
abbrev pub told_text : List TypeDef → (ty : ℕ) → ClientText → List ℕ
told_text defs ty (text.Shown x) = shown_text defs ty x
told_text defs ty (text.Base v props) = codes " base" ++ field v ++ values_text (type_of defs ty).properties group.BaseClient props

-- the client's entity, the number of the line, and what is shown
abbrev pub client_text : List TypeDef → ClientLine → List ℕ
client_text defs l = codes "to " ++ decimal_of l.entity ++ field l.line.number ++ told_text defs l.ty l.line.text ++ 10 ∷ []

-- a boundary: its number, its axis and its place
abbrev pub bound_text : ℕ × Cut → List ℕ
bound_text b = codes "bound " ++ decimal_of b.0 ++ 32 ∷ axis_text b.1.boundary.axis ++ field b.1.boundary.at ++ 10 ∷ []

-- the boundaries of a tree, from number 1 on; nothing where there is no tree
abbrev pub bounds_text : Option Division → List ℕ
bounds_text None = []
bounds_text (Some tree) = flat_map bound_text (zip (range_with_len 1 (length tree.cuts)) tree.cuts)

-- what a node did: its task, or a message that came from another node
abbrev pub work_text : Option ℕ → List ℕ
work_text None = codes " task"
work_text (Some from) = codes " from " ++ decimal_of from

-- a step of a node
abbrev pub step_text : Event → List ℕ
step_text e = codes "step " ++ decimal_of e.node ++ work_text e.from ++ 10 ∷ []

-- the steps of a phase, after its number
abbrev pub phase_text : ℕ → List Event → List ℕ
phase_text number steps = number_text (codes "phase ") number ++ flat_map step_text steps

-- the steps of a round
abbrev pub journal_text : Journal → List ℕ
journal_text j = phase_text 1 j.calls ++ phase_text 2 j.reaps ++ phase_text 3 j.looks

-- the text of a round with that of its steps, which stands after the round's number
abbrev pub traced_text : (steps : List ℕ) → List TypeDef → RoundData → List ℕ
traced_text steps defs r =
    number_text (codes "round ") r.number ++ steps
    ++ flat_map (done_text (codes "did ") defs) r.did ++ flat_map (done_text (codes "dob ") defs) r.dob
    ++ flat_map (home_text defs) r.homes ++ flat_map (base_text defs) r.bases
    ++ flat_map ghost_text r.ghosts ++ flat_map (client_text defs) r.shown ++ bounds_text r.bounds
    ++ number_text (codes "end ") r.number

-- the text of a round: its lines, in their order
abbrev pub round_text : List TypeDef → RoundData → List ℕ
round_text defs r = traced_text [] defs r
