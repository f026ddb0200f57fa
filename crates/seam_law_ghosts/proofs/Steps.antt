-- Each move of a node is one of those of what ghosts are told.
use Rattle.seam_law_ghosts.proofs.Prelude.{◌≡◌, ℕ, ◌+◌, ◌≤◌, Bool, true, false, ltb, cond, List, [], ◌∷◌, Option, None, Some, refl, sym, ap}
use Rattle.seam_law_ghosts.proofs.Prelude.{◌∙◌, subst, inl, inr, arith, range_with_len, Division, Ghost, beat_in, copy_in, ghost_after}
use Rattle.seam_law_ghosts.proofs.Prelude.{Part, part_of_deed, is_for, Call as CallData, GhostCopy, RealView, Msg, BaseCall, Hand, Current}
use Rattle.seam_law_ghosts.proofs.Prelude.{GhostSet, GhostDrop, Tick, Reap, Update, can_do, Here, cell_count, base_numbers, base_of}
use Rattle.seam_law_ghosts.proofs.Prelude.{type_at, order_passes, order_is_ready, fits_cell_part, SlotStep, slot_after, current_to}
use Rattle.seam_law_ghosts.proofs.Prelude.{haunts_at, is_stray, tick_to, entry_in, greater_entry, IsSilent, carried_in, Frame, IsTreeOf}
use Rattle.seam_law_ghosts.proofs.Prelude.{here_at, Has, AtCell, Does, Acts, surveys, calls, readies, CellMoves, BaseMoves, Moves}
use Rattle.seam_law_ghosts.proofs.Prelude.{at_a_cell, at_a_base, RealFits, real_in, real_of, Entry, brings, book_entry}
use Rattle.seam_law_ghosts.proofs.Prelude.{Executes, nothing, executes, GhostMoves, FindsRoom, not_stray, both, picked_passes}
use Rattle.seam_law_ghosts.proofs.Prelude.{item_passes_too, mapped_silent, numbered_silent}
use Rattle.std.specs.FinMap as table
use Rattle.std.specs.FinSet as set
use Rattle.seam_defs.specs.declared.flags.Part.TheVariants as part
use Rattle.seam_defs.specs.Tests.{same_part}
use Rattle.seam_entity.specs.declared.message.Msg.TheVariants.{Call}
use Rattle.seam_law_calls.specs.CellMoves as move
use Rattle.seam_law_calls.specs.BaseMoves as base_move
use Rattle.seam_law_ghosts.specs.GhostMoves as ghost
use Rattle.seam_law_ghosts.proofs.NewestTelling.{no_haunt_at_home}
use Rattle.seam_node_steps.specs.Prelude.{Boundaries}

-- ---- a book that hears an entry keeps the greater one

heard_by : (g : Option (Ghost GhostCopy)) (n : ℕ) (c : Option GhostCopy) (t : Bool) →
    (beat_in (cond t (Some (record { beat = n; copy = c })) g), copy_in (cond t (Some (record { beat = n; copy = c })) g))
    ≡ cond {A = Entry} t (n, c) (beat_in g, copy_in g)
heard_by g n c true = refl
heard_by g n c false = refl

heard_is : (g : Option (Ghost GhostCopy)) (n : ℕ) (c : Option GhostCopy) →
    (beat_in (ghost_after g (record { beat = n; copy = c })), copy_in (ghost_after g (record { beat = n; copy = c })))
    ≡ greater_entry (beat_in g, copy_in g) (Some (n, c))
heard_is g n c = heard_by g n c (ltb (beat_in g) n)

-- ---- a call of the cell part

cell_part_is : (p : Part) → same_part p part.Cell ≡ true → p ≡ part.Cell
cell_part_is part.Cell is = refl
cell_part_is part.Base is = cc

part_is : (h : Here) (x y : ℕ) (c : CallData) → fits_cell_part h x y c ≡ true → part_of_deed (type_at h y) c.deed ≡ part.Cell
part_is h x y c fits =
    let can = (both (is_for part.Cell x c) (can_do h.settings.size (type_at h y) part.Cell c.deed) fits).1 in
    cell_part_is (part_of_deed (type_at h y) c.deed) (both (same_part (part_of_deed (type_at h y) c.deed) part.Cell) _ can).0

module _ (f : Frame) (e ty k : ℕ) (s : Has) (i : Option Msg) (t : Has) (sent : List (ℕ × Msg)) where
  abbrev Its : Type 0
  Its = GhostMoves f e k s i t sent

  abbrev BringsNone : Type 0
  BringsNone = entry_in brings i ≡ None

  came_none : (m : Msg) → i ≡ Some m → brings m ≡ None → BringsNone
  came_none m h n = ap (entry_in brings) h ∙ n

  none_of : i ≡ None → BringsNone
  none_of h = ap (entry_in brings) h

  acts_none : (u : AtCell) (r q : RealView) (changed : Bool) → Acts (here_at f k) e s.cell i r u q changed → BringsNone
  acts_none u r q changed (surveys n a b c) = none_of a
  acts_none u r q changed (calls c a b d g) = came_none (Call c) a refl
  acts_none u r q changed (readies o c a b d g) = none_of a

  acts_execute : (u : AtCell) (r q : RealView) (changed : Bool) → Acts (here_at f k) e s.cell i r u q changed → RealFits f e ty k r →
      Executes f r q changed
  acts_execute u r q changed (surveys n a b c) fits = nothing refl refl
  acts_execute u r q changed (calls c a b d g) fits =
      executes c (record { entity = refl; type = refl; haunts = refl; beat = refl; generation = refl })
      (part_is (here_at f k) r.entity r.ty c (both (fits_cell_part (here_at f k) r.entity r.ty c) _ d).0) refl refl
  acts_execute u r q changed (readies o c a b d g) fits =
      let test = fits_cell_part (here_at f k) r.entity r.ty in
      let passes = picked_passes (order_passes test) order_is_ready o (table.entries r.orders) fits.held d in
      executes c (record { entity = refl; type = refl; haunts = refl; beat = refl; generation = refl })
      (part_is (here_at f k) r.entity r.ty c (item_passes_too test o.1.next c o.1.held passes g)) refl refl

  acts_slot : (u : AtCell) (r q : RealView) (changed : Bool) → Acts (here_at f k) e s.cell i r u q changed → u.slot ≡ s.cell.slot
  acts_slot u r q changed (surveys n a b c) = refl
  acts_slot u r q changed _ = refl

  module _ (x : SlotStep) (u : AtCell) (d : Does u x t.cell sent) where
    real_is : real_in t ≡ (slot_after x.slot u.slot).real
    real_is = ap (λ a. a.slot.real) d.state

    book_is : book_entry t ≡ (beat_in (slot_after x.slot u.slot).ghost, copy_in (slot_after x.slot u.slot).ghost)
    book_is = ap (λ a. (beat_in a.slot.ghost, copy_in a.slot.ghost)) d.state

    silent_of : IsSilent brings x.sent → IsSilent brings sent
    silent_of h = subst (IsSilent brings) (sym d.sends) h

  -- a step that leaves the slot
  leaves_it : (ps : List (ℕ × Msg)) (n : ℕ) (m : ℕ) → BringsNone →
      Does (record { slot = s.cell.slot; survey = n; looks = m }) (record { slot = None; unlisted = false; sent = ps }) t.cell sent →
      IsSilent brings ps → Its
  leaves_it ps n m none d silent = ghost.rests none (real_is _ _ d) (book_is _ _ d) (silent_of _ _ d silent)

  -- stray input at a cell
  strays_by : ((r : RealView) (bs : Option Boundaries) → i ≡ Some (Hand r bs) → FindsRoom f k s r) → (tree : Division) → IsTreeOf f tree →
      (m : Msg) → i ≡ Some m →
      is_stray (here_at f k) tree s.cell.slot m ≡ true → real_in t ≡ real_in s → book_entry t ≡ book_entry s → IsSilent brings sent → Its
  strays_by room tree of (Hand r bs) h b x y z = absurd (not_stray f k s r (room r bs h) tree of b)
  strays_by room tree of (GhostSet q n c) h b x y z = ghost.misses (GhostSet q n c) h refl (inr (tree, b)) x y z
  strays_by room tree of (GhostDrop q n) h b x y z = ghost.misses (GhostDrop q n) h refl (inr (tree, b)) x y z
  strays_by room tree of m h b x y z = ghost.rests (came_none m h refl) x y z

  cell_step : ((r : RealView) (bs : Option Boundaries) → i ≡ Some (Hand r bs) → FindsRoom f k s r) →
      ((r : RealView) → real_in s ≡ Some r → RealFits f e ty k r) →
      (tree : Division) → IsTreeOf f tree → CellMoves (here_at f k) tree e s.cell i t.cell sent → Its
  cell_step room fit tree of (move.rests n d) = leaves_it [] _ _ (none_of n) d tt
  cell_step room fit tree of (move.strays m n b d) =
      strays_by room tree of m n b (real_is _ s.cell d) (book_is _ s.cell d) (silent_of _ s.cell d tt)
  cell_step room fit tree of (move.stays u r q changed has own acts at d) =
      ghost.stays r q changed (haunts_at (here_at f k) tree q.state.pos k q.haunts)
      (no_haunt_at_home (here_at f k) tree q.state.pos k q.haunts) (acts_none u r q changed acts) has
      (acts_execute u r q changed acts (fit r has)) (real_is _ u d)
      (book_is _ u d) d.sends
  cell_step room fit tree of (move.goes u r q changed j has own acts at n d) =
      ghost.goes r q changed j (haunts_at (here_at f k) tree q.state.pos j (set.insert q.haunts k)) n
      (no_haunt_at_home (here_at f k) tree q.state.pos j (set.insert q.haunts k)) (acts_none u r q changed acts) has
      (acts_execute u r q changed acts (fit r has)) (real_is _ u d)
      (book_is _ u d ∙ heard_is s.cell.slot.ghost _ _) d.sends
  cell_step room fit tree of (move.late c r n has may lt d) = leaves_it [] _ _ (came_none (Call c) n refl) d tt
  cell_step room fit tree of (move.holds c r n own has mine may lt d) =
      ghost.touches r _ (came_none (Call c) n refl) has (real_is _ s.cell d)
      (record { entity = refl; type = refl; haunts = refl; beat = refl; generation = refl }) refl (book_is _ s.cell d)
      (silent_of _ s.cell d tt)
  cell_step room fit tree of (move.passes c p n own has at d) = leaves_it _ _ _ (came_none (Call c) n refl) d (refl, tt)
  cell_step room fit tree of (move.lands r bs n own has may d) =
      ghost.lands r bs n has (real_is _ s.cell d) (book_is _ s.cell d ∙ heard_is s.cell.slot.ghost r.beat None)
      (silent_of _ s.cell d (mapped_silent brings (current_to (here_at f k) r) (λ b. refl) (base_numbers (here_at f k))))
  cell_step room fit tree of (move.hears_set n c h has d) =
      ghost.hears (n, Some c) (ap (entry_in brings) h) (ap (carried_in real_of) h) (real_is _ s.cell d)
      (book_is _ s.cell d ∙ heard_is s.cell.slot.ghost n (Some c)) (silent_of _ s.cell d tt)
  cell_step room fit tree of (move.ignores_set n c r h has d) =
      ghost.ignores n c r h has (real_is _ s.cell d) (book_is _ s.cell d) (silent_of _ s.cell d tt)
  cell_step room fit tree of (move.hears_drop n h d) =
      ghost.hears (n, None) (ap (entry_in brings) h) (ap (carried_in real_of) h) (real_is _ s.cell d)
      (book_is _ s.cell d ∙ heard_is s.cell.slot.ghost n None) (silent_of _ s.cell d tt)
  cell_step room fit tree of (move.reaped r n has own may d) =
      ghost.reaped r n has (real_is _ s.cell d) (book_is _ s.cell d ∙ heard_is s.cell.slot.ghost (r.beat + 1) None) d.sends
  cell_step room fit tree of (move.ticks n st z) =
      ghost.rests (came_none Tick n refl) (ap (λ a. a.slot.real) st) (ap (λ a. (beat_in a.slot.ghost, copy_in a.slot.ghost)) st)
      (subst (IsSilent brings) (sym z) tt)
  cell_step room fit tree of (move.unlists n h at b d) = leaves_it [] _ _ (none_of h) d tt
  cell_step room fit tree of (move.looks n r w known h at has own v small d) =
      ghost.touches r _ (none_of h) has (real_is _ _ d)
      (record { entity = refl; type = refl; haunts = refl; beat = refl; generation = refl }) refl (book_is _ _ d)
      (silent_of _ _ d (numbered_silent brings (base_of (here_at f k) r.entity) r.entity w.sent _ (λ u. refl)))
  cell_step room fit tree of (move.overlooks n known h at b d) = leaves_it [] _ _ (none_of h) d tt
  cell_step room fit tree of (move.stuck r h has ready may d) = leaves_it [] _ _ (none_of h) d tt

  -- ---- a base node

  module _ (high : cell_count ≤ k) (same : t.cell ≡ s.cell) where
    idle : BringsNone → IsSilent brings sent → Its
    idle none silent =
        ghost.rests none (ap (λ c. c.slot.real) same) (ap (λ c. (beat_in c.slot.ghost, copy_in c.slot.ghost)) same) silent

    quiet : sent ≡ [] → IsSilent brings sent
    quiet z = subst (IsSilent brings) (sym z) tt

    one : (j : ℕ) (m : Msg) → brings m ≡ None → sent ≡ (j, m) ∷ [] → IsSilent brings sent
    one j m n z = subst (IsSilent brings) (sym z) (n, tt)

    missed : (m : Msg) → i ≡ Some m → real_of m ≡ None → sent ≡ [] → Its
    missed m n none z =
        ghost.misses m n none (inl high) (ap (λ c. c.slot.real) same) (ap (λ c. (beat_in c.slot.ghost, copy_in c.slot.ghost)) same)
        (quiet z)

    base_strays : ((r : RealView) (bs : Option Boundaries) → i ≡ Some (Hand r bs) → FindsRoom f k s r) → (m : Msg) → i ≡ Some m → sent
        ≡ [] → Its
    base_strays room (Hand r bs) n z = let low = (room r bs n).cell in absurd (omega (arith, low, high))
    base_strays room (GhostSet x m c) n z = missed (GhostSet x m c) n refl z
    base_strays room (GhostDrop x m) n z = missed (GhostDrop x m) n refl z
    base_strays room m n z = idle (came_none m n refl) (quiet z)

    base_step : ((r : RealView) (bs : Option Boundaries) → i ≡ Some (Hand r bs) → FindsRoom f k s r) → (cells : ℕ) →
        BaseMoves (here_at f k) cells e s.base i t.base sent → Its
    base_step room cells (base_move.rests n a z) = idle (none_of n) (quiet z)
    base_step room cells (base_move.strays m n b a z) = base_strays room m n z
    base_step room cells (base_move.reroutes new r n has b a z) = idle (came_none (Current e new.cell new.generation) n refl) (quiet z)
    base_step room cells (base_move.offers c p n is has may a z) = idle (came_none (BaseCall c) n refl) (quiet z)
    base_step room cells (base_move.updates u n is b a z) = idle (came_none (Update u) n refl) (quiet z)
    base_step room cells (base_move.orders_call c os r n at is has a z) = idle (none_of n) (one r.cell (Call c) refl z)
    base_step room cells (base_move.orders_base_call c os n at is b a z) =
        idle (none_of n) (one (base_of (here_at f k) e) (BaseCall c) refl z)
    base_step room cells (base_move.offers_own c os p n at is b has may a z) = idle (none_of n) (quiet z)
    base_step room cells (base_move.orders_tick os n at a z) =
        idle (none_of n) (subst (IsSilent brings) (sym z) (mapped_silent brings tick_to (λ j. refl) (range_with_len 0 cells)))
    base_step room cells (base_move.orders_reap os r n at has a z) = idle (none_of n) (one r.cell (Reap e) refl z)
    base_step room cells (base_move.stuck_order o os n at b a z) = idle (none_of n) (quiet z)
    base_step room cells (base_move.executes p o c n has may at item a z) = idle (none_of n) (quiet z)
    base_step room cells (base_move.stuck_part p n has is may a z) = idle (none_of n) (quiet z)
    base_step room cells (base_move.shows p n has is may a z) = idle (none_of n) (quiet z)
    base_step room cells (base_move.stuck_client p n has is may a z) = idle (none_of n) (quiet z)

  pub ghost_moves : ((r : RealView) (bs : Option Boundaries) → i ≡ Some (Hand r bs) → FindsRoom f k s r) →
      ((r : RealView) → real_in s ≡ Some r →
      RealFits f e ty k r) → Moves f e k s i t sent → Its
  ghost_moves room fit (at_a_cell tree of low m same) = cell_step room fit tree of m
  ghost_moves room fit (at_a_base high m same) = base_step high same room _ m
