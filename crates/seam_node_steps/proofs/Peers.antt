-- For callers: a step of a node keeps what the node knows, and so the number of nodes; and a cell's boundaries, but for newer ones that a
-- message brings.
use Rattle.std.proofs.Common.{◌≡◌, ℕ, Bool, true, false, List, [], ◌∷◌, Option, None, Some, refl, ap, ◌∙◌, ◌==◌, ◌&&◌}
use Rattle.std.proofs.Common.{nat_le, nat_lt}
use Rattle.std.proofs.lemmas.Bool.{eqb-true}
use Rattle.std.specs.FinMap as table
use Rattle.seam_node_steps.specs.Prelude.{Input, Task, From, Msg, peers_of, Slot, SlotStep, about, slot_steps, CellView, after_slot}
use Rattle.seam_node_steps.specs.Prelude.{unlisted_by, stepped, cell_steps, cell_task, ready_next, look_next, cell_hears, ready_entity}
use Rattle.seam_node_steps.specs.Prelude.{surveys, calls_ready, looks_around, known_to, slot_of, NodeView, node_steps, node_peers, Cell}
use Rattle.seam_node_steps.specs.Prelude.{Boundaries, are_newer, cell_count, cells_of, renewed_if}
use Rattle.seam_node_steps.specs.Prelude.{Base, IsNode, Stepped, Tick, boundaries_of, bounds_in, comes_late, listed_if, renewed, ticked}
use Rattle.seam_node_steps.proofs.Targets.{renewed_here}
use Rattle.seam_node_steps.proofs.ValidCells.{cell_stays_valid}
use Rattle.seam_node_steps.proofs.ValidBases.{base_stays_valid, base_frame}

-- the cell knows the same, and has the same boundaries
pub record SameFrame (c d : CellView) : Type 0 where
  pub here : d.here ≡ c.here
  pub tree : d.tree ≡ c.tree
  pub number : d.number ≡ c.number

unlisted_same : (b : Bool) (c : CellView) (e : ℕ) → SameFrame c (unlisted_by b c e)
unlisted_same true c e = record { here = refl; tree = refl; number = refl }
unlisted_same false c e = record { here = refl; tree = refl; number = refl }

slot_same : (b : Bool) (c : CellView) (e : ℕ) (o : Option Slot) → SameFrame c (unlisted_by b (after_slot c e o) e)
slot_same b c e None = unlisted_same b c e
slot_same b c e (Some s) =
    let u = unlisted_same b (after_slot c e (Some s)) e in
    record { here = u.here; tree = u.tree; number = u.number }

step_same : (c : CellView) (e : ℕ) (t : SlotStep) → SameFrame c (stepped c e t).state
step_same c e t = slot_same t.unlisted c e t.slot

look_same : (c : CellView) (es : List ℕ) → SameFrame c (look_next c es).state
look_same c [] = record { here = refl; tree = refl; number = refl }
look_same c (e ∷ es) =
    let s = step_same (record c { looks = es }) e (looks_around c e (table.get c.reals e) (known_to c e)) in
    record { here = s.here; tree = s.tree; number = s.number }

ready_same : (c : CellView) (o : Option ℕ) → SameFrame c (ready_next c o).state
ready_same c (Some e) = step_same c e (calls_ready c e (table.get c.reals e))
ready_same c None = look_same c c.looks

task_same : (c : CellView) (es : List ℕ) → SameFrame c (cell_task c es).state
task_same c (e ∷ es) =
    let s = step_same (record c { survey = es }) e (surveys c e (table.get c.reals e)) in
    record { here = s.here; tree = s.tree; number = s.number }
task_same c [] = ready_same c (ready_entity c)

listed_same : (b : Bool) (c : CellView) (e : ℕ) (t : Stepped CellView Msg) → SameFrame c t.state → SameFrame c (listed_if b e t).state
listed_same true c e t s = record { here = s.here; tree = s.tree; number = s.number }
listed_same false c e t s = s

ticked_same : (c : CellView) (m : Msg) → SameFrame c (ticked c m)
ticked_same c Tick = record { here = refl; tree = refl; number = refl }
ticked_same c _ = record { here = refl; tree = refl; number = refl }

hears_same : (c : CellView) (m : Msg) (o : Option ℕ) → SameFrame c (cell_hears c m o).state
hears_same c m (Some e) =
    let t = slot_steps c.here (boundaries_of c) (slot_of c e) m in
    listed_same (comes_late c m) c e (stepped c e t) (step_same c e t)
hears_same c m None = ticked_same c m

-- the cell by the boundaries that an input brings
abbrev pub renewed_by : CellView → Input Msg → CellView
renewed_by c Task = c
renewed_by c (From a m) = renewed c (bounds_in m)

-- a cell's step keeps what the cell knows, and its boundaries but for newer ones
pub cell_frame : (c : CellView) (i : Input Msg) → SameFrame (renewed_by c i) (cell_steps c i).state
cell_frame c Task = task_same c c.survey
cell_frame c (From a m) = hears_same (renewed c (bounds_in m)) m (about m)

pub cell_here : (c : CellView) (i : Input Msg) → (cell_steps c i).state.here ≡ c.here
cell_here c Task = (cell_frame c Task).here
cell_here c (From a m) = (cell_frame c (From a m)).here ∙ renewed_here c (bounds_in m)

-- and its space
same_size : (x y z : Bool) → (x && (y && z)) ≡ true → y ≡ true
same_size true true z h = refl
same_size true false z h = cc
same_size false y z h = cc

renewed_size : (d : Bool) (c : CellView) (b : Boundaries) → are_newer c b ≡ d → c.tree.size ≡ c.here.settings.size →
    (renewed_if d c b).tree.size ≡ c.here.settings.size
renewed_size true c b newer is =
    eqb-true b.tree.size c.here.settings.size
    (same_size (nat_lt c.number b.number) (b.tree.size == c.here.settings.size) (nat_le (cells_of b.tree) cell_count) newer)
renewed_size false c b newer is = is

size_by : (c : CellView) (o : Option Boundaries) → c.tree.size ≡ c.here.settings.size → (renewed c o).tree.size ≡ c.here.settings.size
size_by c None is = is
size_by c (Some b) is = renewed_size (are_newer c b) c b refl is

pub cell_space : (c : CellView) (i : Input Msg) → c.tree.size ≡ c.here.settings.size →
    (cell_steps c i).state.tree.size ≡ c.here.settings.size
cell_space c Task is = ap (λ t. t.size) (cell_frame c Task).tree ∙ is
cell_space c (From a m) is = ap (λ t. t.size) (cell_frame c (From a m)).tree ∙ size_by c (bounds_in m) is

pub peers_stay : (s : NodeView) (i : Input Msg) → node_peers (node_steps s i).state ≡ node_peers s
peers_stay (Cell c) i = ap peers_of (cell_here c i)
peers_stay (Base b) i = ap peers_of (base_frame b i).here

pub node_stays_valid : (s : NodeView) (i : Input Msg) → IsNode s → IsNode (node_steps s i).state
node_stays_valid (Cell c) i is = cell_stays_valid c i is
node_stays_valid (Base b) i is = base_stays_valid b i is
