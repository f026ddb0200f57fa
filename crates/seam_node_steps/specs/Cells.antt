-- A cell and its step.
use Rattle.std.specs.Prelude.{ℕ, Bool, true, false, not, nat_le, nat_lt, ◌&&◌, ◌||◌, ◌==◌, is_some, List, [], ◌∷◌, ◌++◌, map, filter, find}
use Rattle.std.specs.Prelude.{Option, None, Some}
use Rattle.std.specs.Prelude.{option_map}
use Rattle.std.specs.Ordering.{nat_cmp}
use Rattle.std.specs.FinMap as table
use Rattle.seam_tree.specs.Division.{Division, cells_of}
use Rattle.seam_ghosts.specs.declared.Ghost.{Ghost}
use Rattle.seam_ghosts.specs.Book.{copied}
use Rattle.seam_machine.specs.Views.{Stepped}
use Rattle.seam_machine.specs.declared.machines.Input.{Input}
use Rattle.seam_machine.specs.declared.machines.Input.TheVariants.{Task, From}
use Rattle.seam_call.specs.declared.order.Boundaries.{Boundaries}
use Rattle.seam_call.specs.declared.shown.GhostCopy.{GhostCopy}
use Rattle.seam_call.specs.Boundaries.{number_in}
use Rattle.seam_entity.specs.Reals.{RealView}
use Rattle.seam_entity.specs.declared.message.Msg.{Msg}
use Rattle.seam_entity.specs.declared.message.Msg.TheVariants.{Hand, Tick}
use Rattle.seam_node_steps.specs.Maps.{Map, set_at, number_of, has_any, with_entity}
use Rattle.seam_entity.specs.Here.{Here, cell_count}
use Rattle.seam_entity.specs.ReadyCalls.{has_ready}
use Rattle.seam_node_steps.specs.Slots.{Slot, NextPlace, SlotStep, unless_stray}
use Rattle.seam_node_steps.specs.CellCases.{about, bounds_in, slot_steps, survey_task, stray_survey, ready_call_task, stray_ready_call}
use Rattle.seam_node_steps.specs.CellCases.{stray_hand}
use Rattle.seam_node_steps.specs.CellLooks.{Known, other_of_real, other_of_copy, look_task, stray_look}

-- a cell: its tree, the number of that among those of the round, its reals, next places and ghosts by entity, the entities whose reals are
-- to be settled and those whose
-- witnesses are to look
pub record CellView : Type 0 where
  pub here : Here
  pub tree : Division
  pub number : ℕ
  pub reals : Map RealView
  pub nexts : Map NextPlace
  pub ghosts : Map (Ghost GhostCopy)
  pub survey : List ℕ
  pub looks : List ℕ

-- what the cell has of an entity
abbrev pub slot_of : CellView → ℕ → Slot
slot_of c e = record { real = table.get c.reals e; next = table.get c.nexts e; ghost = table.get c.ghosts e }

-- the cell with another slot of the entity
abbrev pub with_slot : CellView → ℕ → Slot → CellView
with_slot c e s = record c { reals = set_at c.reals e s.real; nexts = set_at c.nexts e s.next; ghosts = set_at c.ghosts e s.ghost }

abbrev pub after_slot : CellView → ℕ → Option Slot → CellView
after_slot c e None = c
after_slot c e (Some s) = with_slot c e s

abbrev pub is_another : ℕ → ℕ → Bool
is_another e q = not (q == e)

abbrev pub without : ℕ → List ℕ → List ℕ
without e es = filter (is_another e) es

-- the lists without the entity, where its entries go
abbrev pub unlisted_by : Bool → CellView → ℕ → CellView
unlisted_by true c e = record c { survey = without e c.survey; looks = without e c.looks }
unlisted_by false c e = c

-- the cell after a step of one entity's slot
abbrev pub stepped : CellView → ℕ → SlotStep → Stepped CellView Msg
stepped c e t = record { state = unlisted_by t.unlisted (after_slot c e t.slot) e; sent = t.sent }

abbrev pub cell_rests : CellView → Stepped CellView Msg
cell_rests c = record { state = c; sent = [] }

-- ---- boundaries

-- those that the cell goes by
abbrev pub boundaries_of : CellView → Boundaries
boundaries_of c = record { tree = c.tree; number = c.number }

-- they are of this space, and newer than the cell's
abbrev pub are_newer : CellView → Boundaries → Bool
are_newer c b = nat_lt c.number b.number && (b.tree.size == c.here.settings.size && nat_le (cells_of b.tree) cell_count)

-- newer bounds: the cell takes them, and all its reals are to settle by them, in rising number; older bounds: nothing changes
abbrev pub renewed_if : Bool → CellView → Boundaries → CellView
renewed_if true c b = record c { tree = b.tree; number = b.number; survey = table.keys c.reals }
renewed_if false c b = c

-- the cell by the boundaries that a message brings, if it brings any
abbrev pub renewed : CellView → Option Boundaries → CellView
renewed c None = c
renewed c (Some b) = renewed_if (are_newer c b) c b

-- the message is a real that comes, and was settled by older boundaries than the cell's
abbrev pub comes_late : CellView → Msg → Bool
comes_late c (Hand r b) = nat_lt (number_in b) c.number && not (stray_hand c.here c.tree r (table.get c.reals r.entity))
comes_late c _ = false

-- the entity is to settle
abbrev pub listed_if : Bool → ℕ → Stepped CellView Msg → Stepped CellView Msg
listed_if true e t = record { state = record t.state { survey = with_entity e t.state.survey }; sent = t.sent }
listed_if false e t = t

-- ---- what the cell knows

abbrev pub known_real : Here → ℕ × RealView → Known
known_real h p = (p.0, other_of_real h p.1)

abbrev pub known_copy : Here → ℕ × GhostCopy → Known
known_copy h p = (p.0, other_of_copy h p.1)

-- the reals and the copies here, each as other clients are shown it
abbrev pub known_in : CellView → List Known
known_in c = map (known_real c.here) (table.entries c.reals) ++ map (known_copy c.here) (copied (table.entries c.ghosts))

abbrev pub is_of_another : ℕ → Known → Bool
is_of_another e k = is_another e k.0

-- what the cell knows of others than e, in rising number; of an entity that has a real and a copy here, the real
abbrev pub known_to : CellView → ℕ → List Known
known_to c e = filter (is_of_another e) (table.entries (table.from_entries {R = nat_cmp} (known_in c)))

-- ---- tasks

abbrev pub surveys : CellView → ℕ → Option RealView → SlotStep
surveys c e r = unless_stray (stray_survey r) (survey_task c.here (boundaries_of c) (slot_of c e) r)

abbrev pub calls_ready : CellView → ℕ → Option RealView → SlotStep
calls_ready c e r = unless_stray (stray_ready_call r) (ready_call_task c.here (boundaries_of c) (slot_of c e) r)

abbrev pub looks_around : CellView → ℕ → Option RealView → List Known → SlotStep
looks_around c e r known = unless_stray (stray_look c.here r known) (look_task c.here (slot_of c e) r known)

abbrev pub real_is_ready : ℕ × RealView → Bool
real_is_ready p = has_ready p.1.orders

-- the least entity whose real has a ready call
abbrev pub ready_entity : CellView → Option ℕ
ready_entity c = option_map number_of (find real_is_ready (table.entries c.reals))

-- last, the first entity of the look list is taken and looks
abbrev pub look_next : CellView → List ℕ → Stepped CellView Msg
look_next c [] = cell_rests c
look_next c (e ∷ es) = stepped (record c { looks = es }) e (looks_around c e (table.get c.reals e) (known_to c e))

-- else the least entity with a ready call executes it
abbrev pub ready_next : CellView → Option ℕ → Stepped CellView Msg
ready_next c (Some e) = stepped c e (calls_ready c e (table.get c.reals e))
ready_next c None = look_next c c.looks

-- first, the first entity of the survey list is taken and settles
abbrev pub cell_task : CellView → List ℕ → Stepped CellView Msg
cell_task c (e ∷ es) = stepped (record c { survey = es }) e (surveys c e (table.get c.reals e))
cell_task c [] = ready_next c (ready_entity c)

-- ---- messages

abbrev pub has_witness : ℕ × RealView → Bool
has_witness p = is_some p.1.witness

-- the entities whose reals have a witness, in rising number
abbrev pub witnesses : CellView → List ℕ
witnesses c = map number_of (filter has_witness (table.entries c.reals))

-- tick: the look list becomes the reals with a witness, in rising entity number
abbrev pub tick : CellView → CellView
tick c = record c { looks = witnesses c }

abbrev pub ticked : CellView → Msg → CellView
ticked c Tick = tick c
ticked c _ = c

-- what a message about an entity, or about all of them, does to the cell; a real that comes late is to settle
abbrev pub cell_hears : CellView → Msg → Option ℕ → Stepped CellView Msg
cell_hears c m (Some e) = listed_if (comes_late c m) e (stepped c e (slot_steps c.here (boundaries_of c) (slot_of c e) m))
cell_hears c m None = cell_rests (ticked c m)

-- a cell's step; boundaries that a message brings come first
abbrev pub cell_steps : CellView → Input Msg → Stepped CellView Msg
cell_steps c Task = cell_task c c.survey
cell_steps c (From a m) = cell_hears (renewed c (bounds_in m)) m (about m)

-- the cell has a task: an entity is to settle, to execute a ready call, or to look
abbrev pub cell_has_work : CellView → Bool
cell_has_work c = has_any c.survey || (is_some (ready_entity c) || has_any c.looks)
