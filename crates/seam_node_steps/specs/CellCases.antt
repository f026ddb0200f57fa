-- The cases of a cell's step: what a message, and a task about one entity, do to what the cell has of the entity.
use Rattle.std.specs.Prelude.{ℕ, ◌+◌, Bool, true, false, not, ◌&&◌, nat_lt, List, [], ◌∷◌, map, filter_map, Option, None, Some}
use Rattle.std.specs.List.{list_all}
use Rattle.std.specs.Ordering.{nat_cmp}
use Rattle.std.specs.declared.cmp.Ordering.{Ordering}
use Rattle.std.specs.declared.cmp.Ordering.TheVariants.{Less, Equal, Greater}
use Rattle.std.specs.FinSet as set
use Rattle.seam_tree.specs.Division.{Division, cells_of}
use Rattle.seam_order.specs.Held.{OrderView}
use Rattle.seam_order.specs.Offers.{next_item}
use Rattle.seam_call.specs.declared.call.Call.{Call as CallData}
use Rattle.seam_call.specs.declared.order.Boundaries.{Boundaries}
use Rattle.seam_call.specs.declared.shown.GhostCopy.{GhostCopy}
use Rattle.seam_entity.specs.Orders.{order_of}
use Rattle.seam_entity.specs.Reals.{RealView}
use Rattle.seam_entity.specs.declared.message.Msg.{Msg}
use Rattle.seam_entity.specs.declared.message.Msg.TheVariants.{Call, BaseCall, Hand, Current, GhostSet, GhostDrop, Tick, Reap, Update}
use Rattle.seam_entity.specs.declared.message.Msg.TheVariants.{Bounds}
use Rattle.seam_entity.specs.Numbers.{is_small, may_rise}
use Rattle.seam_entity.specs.Here.{Here, cell_numbers, base_numbers}
use Rattle.seam_entity.specs.ReadyCalls.{ready_order}
use Rattle.seam_entity.specs.Executing.{fits_real, fits_copy, may_settle, may_execute, may_call, with_offer, executed, executed_ready}
use Rattle.seam_entity.specs.Executing.{shows}
use Rattle.seam_node_steps.specs.Slots.{Slot, NextPlace, SlotStep, rests, unless_stray, becomes, heard}
use Rattle.seam_node_steps.specs.Settle.{settled}

-- ---- calls

-- the call is executed and the real settles where it is its turn, it is held where it is early, and nothing changes where it is late
abbrev pub offered : Here → Boundaries → Slot → RealView → CallData → Ordering → SlotStep
offered h b s r k Less = rests
offered h b s r k Equal = settled h b s (executed h r k) (shows h r k)
offered h b s r k Greater = becomes (record s { real = Some (with_offer r k) })

-- call, next place: the call is sent to the next place, as it is
abbrev pub call_next_place : CallData → Option NextPlace → SlotStep
call_next_place k None = rests
call_next_place k (Some n) = record { slot = None; unlisted = false; sent = (n.cell, Call k) ∷ [] }

-- where the real is here, the call is offered to its sender's order
abbrev pub call : Here → Boundaries → Slot → CallData → Option RealView → SlotStep
call h b s k (Some r) = offered h b s r k (nat_cmp k.number (order_of r.orders k.sender).next)
call h b s k None = call_next_place k s.next

-- a call that the real here may not be offered, or neither the real nor a next place is here
abbrev pub stray_call : Here → CallData → Option RealView → Option NextPlace → Bool
stray_call h k (Some r) n = not (may_call h r k)
stray_call h k None (Some n) = false
stray_call h k None None = true

-- ---- a hand-over

abbrev pub current_to : Here → RealView → ℕ → ℕ × Msg
current_to h r b = (b, Current r.entity h.me r.generation)

-- each base node is told, in rising number, that the real is here
abbrev pub currents : Here → RealView → List (ℕ × Msg)
currents h r = map (current_to h r) (base_numbers h)

-- hand-over comes: the real is placed, the next place goes, the own book drops the copy at the real's beat, and every base node is told
abbrev pub hand_over_comes : Here → Slot → RealView → SlotStep
hand_over_comes h s r =
    record { slot = Some (heard (record s { real = Some r; next = None }) r.beat None); unlisted = false; sent = currents h r }

abbrev pub has_small_numbers : RealView → Bool
has_small_numbers r = is_small r.beat && (is_small r.generation && is_small r.version)

-- where the first is true, k is a cell of the tree
abbrev pub is_cell_if : Bool → Division → ℕ → Bool
is_cell_if true t k = nat_lt k (cells_of t)
is_cell_if false t k = true

abbrev pub haunts_cell : Division → RealView → ℕ → Bool
haunts_cell t r k = is_cell_if (set.contains r.haunts k) t k

-- this cell and the real's haunts are cells of the tree
abbrev pub is_in_tree : Here → Division → RealView → Bool
is_in_tree h t r = nat_lt h.me (cells_of t) && list_all (haunts_cell t r) cell_numbers

-- the real fits, its haunts and this cell are in the tree, and its numbers are small
abbrev pub may_come : Here → Division → RealView → Bool
may_come h t r = fits_real h r && (is_in_tree h t r && has_small_numbers r)

-- a Hand of an entity whose real is here, or of a real that may not come
abbrev pub stray_hand : Here → Division → RealView → Option RealView → Bool
stray_hand h t r (Some q) = true
stray_hand h t r None = not (may_come h t r)

-- ---- ghosts

-- ghost set: the own book takes the copy at its beat, but nothing changes where the real is here
abbrev pub ghost_set : Slot → ℕ → GhostCopy → Option RealView → SlotStep
ghost_set s beat c None = becomes (heard s beat (Some c))
ghost_set s beat c (Some r) = rests

-- a copy that does not fit, or a number that is not small
abbrev pub stray_ghost_set : Here → ℕ → GhostCopy → Bool
stray_ghost_set h beat c = not (is_small beat && (is_small c.version && fits_copy h c))

-- ghost drop: the own book drops the copy at the beat
abbrev pub ghost_drop : Slot → ℕ → SlotStep
ghost_drop s beat = becomes (heard s beat None)

-- ---- a reap

abbrev pub drop_if : Bool → ℕ → Msg → Option (ℕ × Msg)
drop_if true k m = Some (k, m)
drop_if false k m = None

abbrev pub drop_at : RealView → ℕ → Option (ℕ × Msg)
drop_at r k = drop_if (set.contains r.haunts k) k (GhostDrop r.entity (r.beat + 1))

-- each haunt is told, in rising number, that it is none
abbrev pub drops : RealView → List (ℕ × Msg)
drops r = filter_map (drop_at r) cell_numbers

-- reap: the real goes, with its entries in both lists, its haunts drop their copies at the beat plus one, and so does the own book
abbrev pub reap : Slot → Option RealView → SlotStep
reap s (Some r) = record { slot = Some (heard (record s { real = None }) (r.beat + 1) None); unlisted = true; sent = drops r }
reap s None = rests

-- a Reap where the real is not, or of a real whose beat may not rise
abbrev pub stray_reap : Option RealView → Bool
stray_reap (Some r) = not (may_rise r.beat)
stray_reap None = true

-- ---- tasks about one entity

-- survey task: the real settles, not changed
abbrev pub survey_task : Here → Boundaries → Slot → Option RealView → SlotStep
survey_task h b s (Some r) = settled h b s r false
survey_task h b s None = rests

-- the real is not here, or its numbers may not rise
abbrev pub stray_survey : Option RealView → Bool
stray_survey (Some r) = not (may_settle r)
stray_survey None = true

abbrev pub executes_ready : Here → Boundaries → Slot → RealView → ℕ × OrderView CallData → Option CallData → SlotStep
executes_ready h b s r o (Some k) = settled h b s (executed_ready h r o k) (shows h r k)
executes_ready h b s r o None = rests

abbrev pub ready_in : Here → Boundaries → Slot → RealView → Option (ℕ × OrderView CallData) → SlotStep
ready_in h b s r (Some o) = executes_ready h b s r o (next_item o.1)
ready_in h b s r None = rests

-- ready-call task: the real executes the ready call of its least sender that has one, and settles
abbrev pub ready_call_task : Here → Boundaries → Slot → Option RealView → SlotStep
ready_call_task h b s (Some r) = ready_in h b s r (ready_order r.orders)
ready_call_task h b s None = rests

-- the real is not here, or its numbers may not rise
abbrev pub stray_ready_call : Option RealView → Bool
stray_ready_call (Some r) = not (may_execute r)
stray_ready_call None = true

-- ---- all messages about an entity

-- the entity that a message is about
abbrev pub about : Msg → Option ℕ
about (Call k) = Some k.entity
about (BaseCall k) = Some k.entity
about (Hand r b) = Some r.entity
about (Current e j g) = Some e
about (GhostSet e beat c) = Some e
about (GhostDrop e beat) = Some e
about (Reap e) = Some e
about (Update u) = Some u.entity
about _ = None

-- stray input at a cell: no case is for the message, or its conditions are not met
abbrev pub is_stray : Here → Division → Slot → Msg → Bool
is_stray h t s (Call k) = stray_call h k s.real s.next
is_stray h t s (Hand r b) = stray_hand h t r s.real
is_stray h t s (GhostSet e beat c) = stray_ghost_set h beat c
is_stray h t s (GhostDrop e beat) = not (is_small beat)
is_stray h t s Tick = false
is_stray h t s (Reap e) = stray_reap s.real
is_stray h t s (Bounds b) = false
is_stray h t s _ = true

-- what a message that is not stray does
abbrev pub case_of : Here → Boundaries → Slot → Msg → SlotStep
case_of h b s (Call k) = call h b s k s.real
case_of h b s (Hand r o) = hand_over_comes h s r
case_of h b s (GhostSet e beat c) = ghost_set s beat c s.real
case_of h b s (GhostDrop e beat) = ghost_drop s beat
case_of h b s (Reap e) = reap s s.real
case_of h b s _ = rests

-- what a message does to the slot of its entity
abbrev pub slot_steps : Here → Boundaries → Slot → Msg → SlotStep
slot_steps h b s m = unless_stray (is_stray h b.tree s m) (case_of h b s m)

-- the boundaries that a message brings
abbrev pub bounds_in : Msg → Option Boundaries
bounds_in (Hand r b) = b
bounds_in (Bounds b) = Some b
bounds_in _ = None
