-- Settling: a real's home is found anew, its haunts are told, and it may be handed over.
use Rattle.std.specs.Prelude.{ℕ, ◌+◌, Bool, true, false, ◌||◌, ◌==◌, List, [], ◌∷◌, ◌++◌, filter_map, Option, None, Some, option_map}
use Rattle.std.specs.FinSet as set
use Rattle.seam_geo.specs.declared.pos.Pos.{Pos}
use Rattle.seam_tree.specs.Division.{Division}
use Rattle.seam_tree.specs.Cells.{Cells}
use Rattle.seam_haunt.specs.Haunts.{haunts_of}
use Rattle.seam_haunt.specs.Places.{home_at}
use Rattle.seam_call.specs.declared.order.Boundaries.{Boundaries}
use Rattle.seam_call.specs.declared.shown.GhostCopy.{GhostCopy}
use Rattle.seam_call.specs.Boundaries.{brought}
use Rattle.seam_entity.specs.Reals.{RealView}
use Rattle.seam_entity.specs.declared.message.Msg.{Msg}
use Rattle.seam_entity.specs.declared.message.Msg.TheVariants.{Hand, GhostSet, GhostDrop}
use Rattle.seam_entity.specs.Here.{Here, cell_numbers}
use Rattle.seam_entity.specs.Executing.{copy_of_real, settled_to}
use Rattle.seam_node_steps.specs.Slots.{Slot, SlotStep, heard}

-- ---- point 1: the home

-- this cell keeps a real that is near its area; any other belongs to the leaf of its position
abbrev pub home_after : Here → Division → Pos → ℕ
home_after h t p = home_at h.settings.offload_hysteresis t h.me p

-- ---- what haunts are told

-- the haunts of a real at this position with this home, of which these were haunts
abbrev pub haunts_at : Here → Division → Pos → ℕ → Cells → Cells
haunts_at h t p home old = haunts_of p home old t h.settings.ghost_distance (h.settings.ghost_distance + h.settings.ghost_hysteresis)

-- what a cell is told, by whether it is a haunt now, was one, and others may see a change
abbrev pub told : ℕ → ℕ → GhostCopy → Bool → Bool → Bool → Option Msg
told e beat c true false changed = Some (GhostSet e beat c)
told e beat c true true true = Some (GhostSet e beat c)
told e beat c true true false = None
told e beat c false true changed = Some (GhostDrop e beat)
told e beat c false false changed = None

abbrev pub told_unless : Bool → ℕ → Option Msg → Option (ℕ × Msg)
told_unless true k m = None
told_unless false k m = option_map (λ (x : Msg). (k, x)) m

-- what cell k is told of a real that settles in cell j with these haunts: this cell and cell j are told nothing
abbrev pub ghost_message : Here → RealView → ℕ → Cells → Bool → ℕ → Option (ℕ × Msg)
ghost_message h r j haunts changed k =
    told_unless ((k == h.me) || (k == j)) k
    (told r.entity (r.beat + 1) (copy_of_real h r) (set.contains haunts k) (set.contains r.haunts k) changed)

-- what all cells are told, in rising number, under the next beat
abbrev pub ghost_messages : Here → RealView → ℕ → Cells → Bool → List (ℕ × Msg)
ghost_messages h r j haunts changed = filter_map (ghost_message h r j haunts changed) cell_numbers

-- ---- point 2: it stays, and the beat rises where anything is sent

abbrev pub beat_after : {A : Type 0} → List A → ℕ → ℕ
beat_after [] beat = beat
beat_after (m ∷ ms) beat = beat + 1

abbrev pub stayed : Slot → RealView → Cells → List (ℕ × Msg) → SlotStep
stayed s r haunts sent = record {
  slot = Some (record s { real = Some (settled_to r haunts (beat_after sent r.beat) r.generation) });
  unlisted = false;
  sent = sent;
}

abbrev pub stays : Here → Division → Slot → RealView → Bool → SlotStep
stays h t s r changed =
    let haunts : Cells = haunts_at h t r.state.pos h.me r.haunts in
    stayed s r haunts (ghost_messages h r h.me haunts changed)

-- ---- point 3: it goes to cell j; beat and generation rise, this cell counts as a former haunt, and its own book takes the
-- copy or drops it; the Hand comes last, with the cell's boundaries

abbrev pub copy_if : Bool → GhostCopy → Option GhostCopy
copy_if true c = Some c
copy_if false c = None

abbrev pub gone_to : Here → Boundaries → Slot → RealView → ℕ → Cells → List (ℕ × Msg) → SlotStep
gone_to h b s r j haunts sent = record {
  slot = Some (heard (record s { real = None; next = Some (record { cell = j; generation = r.generation + 1 }) }) (r.beat + 1)
      (copy_if (set.contains haunts h.me) (copy_of_real h r)));
  unlisted = true;
  sent = sent ++ (j, Hand (settled_to r haunts (r.beat + 1) (r.generation + 1)) (brought b)) ∷ [];
}

abbrev pub goes : Here → Boundaries → Slot → RealView → Bool → ℕ → SlotStep
goes h b s r changed j =
    let haunts : Cells = haunts_at h b.tree r.state.pos j (set.insert r.haunts h.me) in
    gone_to h b s r j haunts (ghost_messages h r j haunts changed)

-- ---- all of it

abbrev pub settled_by : Bool → Here → Boundaries → Slot → RealView → Bool → ℕ → SlotStep
settled_by true h b s r changed j = stays h b.tree s r changed
settled_by false h b s r changed j = goes h b s r changed j

-- the real, which is in this cell, settles by its boundaries; `changed` says that others may see a change of it
abbrev pub settled : Here → Boundaries → Slot → RealView → Bool → SlotStep
settled h b s r changed = let j = home_after h b.tree r.state.pos in settled_by (j == h.me) h b s r changed j
