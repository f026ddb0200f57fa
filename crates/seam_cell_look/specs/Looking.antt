-- What a witness of a cell sees and tells.
use Rattle.std.specs.Prelude.{ℕ, ◌+◌, Bool, true, false, List, [], ◌∷◌, length, is_some, Option, None, Some}
use Rattle.seam_node_steps.specs.Prelude.{Ghost, GhostCopy, Msg, Shown, Own, own_of, Here, base_of, properties, RealView, WitnessView, Map}
use Rattle.seam_node_steps.specs.Prelude.{told_after, Known, looks_of, shown_of, after_looking, numbered, stray_look_by, own_due, CellView}
use Rattle.seam_view.specs.Replica.{after_looks}
use Rattle.seam_cell_look.specs.declared.looking.Glance.{Glance}

-- ---- what the witness does

abbrev pub own_when : Bool → Shown → List Shown
own_when true s = s ∷ []
own_when false s = []

-- the own state, where it is due: the last one that was told is older
abbrev pub own_told : Here → RealView → Option ℕ → List Shown
own_told h r told = own_when (own_due told r.version) (Own r.version (own_of (properties h r.ty) r.state))

-- the cell with these reals and ghosts
abbrev pub seeing : CellView → Here → Map RealView → Map (Ghost GhostCopy) → CellView
seeing c h reals ghosts = record c { here = h; reals = reals; ghosts = ghosts }

abbrev pub looked_by : Bool → Here → RealView → WitnessView → List Known → WitnessView
looked_by true h r w known = w
looked_by false h r w known = after_looking known (looks_of r w known) (shown_of h r w known) r w

-- the witness after it looked at what is known; it stays where the numbers of its updates would not be small
abbrev pub looked : Here → RealView → WitnessView → List Known → WitnessView
looked h r w known = looked_by (stray_look_by h r (Some w) known) h r w known

abbrev pub told_by_look : Bool → Here → RealView → WitnessView → List Known → List (ℕ × Msg)
told_by_look true h r w known = []
told_by_look false h r w known = numbered (base_of h r.entity) r.entity w.sent (shown_of h r w known)

-- what it tells then
abbrev pub told_at_look : Here → RealView → WitnessView → List Known → List (ℕ × Msg)
told_at_look h r w known = told_by_look (stray_look_by h r (Some w) known) h r w known

-- the witness after it told what was made ready
abbrev pub told_these : Glance → RealView → WitnessView → WitnessView
told_these g r w = record {
  view = after_looks g.seen.items w.view g.looks.items;
  told = told_after (own_due w.told r.version) r.version w.told;
  sent = w.sent + length g.shown.shown;
}

-- the real is there and has a witness
abbrev pub real_has_witness : Option RealView → Bool
real_has_witness None = false
real_has_witness (Some r) = is_some r.witness
