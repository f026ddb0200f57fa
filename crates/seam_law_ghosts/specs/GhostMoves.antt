-- What a step does with what ghosts are told: the moves of a node with all else left out.
use Rattle.std.specs.Prelude.{◌≡◌, ℕ, ◌+◌, ◌≤◌, ◌⊎◌, Bool, true, false, List, [], ◌∷◌, ◌++◌, Option, None, Some}
use Rattle.std.specs.FinSet as set
use Rattle.seam_node_steps.specs.Prelude.{Division, Cells, part_of_deed, changes, type_of, Call as CallData, GhostCopy, RealView, Msg, Hand}
use Rattle.seam_node_steps.specs.Prelude.{GhostSet, Reap, cell_count, copy_of_real, settled_to, ghost_messages, beat_after, copy_if}
use Rattle.seam_node_steps.specs.Prelude.{is_stray, drops}
use Rattle.seam_law_flow.specs.Prelude.{entry_in, greater_entry, IsSilent, carried_in}
use Rattle.seam_law_calls.specs.Prelude.{Frame, here_at, Has, account_of, after_call, real_in, real_of}
use Rattle.seam_defs.specs.declared.flags.Part.TheVariants as part
use Rattle.seam_law_ghosts.specs.Entries.{Entry, brings, book_entry}
use Rattle.seam_node_steps.specs.Prelude.{Boundaries}

-- q is the same entity's real as r, with the same haunts, beat and generation
pub record IsPlacedAlike (r q : RealView) : Type 0 where
  pub entity : q.entity ≡ r.entity
  pub type : q.ty ≡ r.ty
  pub haunts : q.haunts ≡ r.haunts
  pub beat : q.beat ≡ r.beat
  pub generation : q.generation ≡ r.generation

-- the real r is q when it settles: it executed nothing, or a call of its cell part; and whether others may see a change
pub data Executes (f : Frame) (r q : RealView) (changed : Bool) : Type 0 where
  nothing : q ≡ r → changed ≡ false → Executes f r q changed
  executes : (c : CallData) → IsPlacedAlike r q → part_of_deed (type_of f.defs r.ty) c.deed ≡ part.Cell
      → account_of q ≡ after_call (type_of f.defs r.ty) (account_of r) c
      → changed ≡ changes (type_of f.defs r.ty) r.state c.deed → Executes f r q changed

-- what cells are told of the real q, which settles in cell k with these haunts, and whose home is cell j then
abbrev pub told_settling : Frame → ℕ → ℕ → Cells → RealView → Bool → List (ℕ × Msg)
told_settling f k j haunts q changed = ghost_messages (here_at f k) q j haunts changed

-- the real after it, where it stays
abbrev pub staying : Frame → ℕ → Cells → RealView → Bool → RealView
staying f k haunts q changed = settled_to q haunts (beat_after (told_settling f k k haunts q changed) q.beat) q.generation

-- and where it goes
abbrev pub going : Cells → RealView → RealView
going haunts q = settled_to q haunts (q.beat + 1) (q.generation + 1)

-- what the book of the cell that it leaves is told
abbrev pub left_entry : Frame → ℕ → Cells → RealView → Entry
left_entry f k haunts q = (q.beat + 1, copy_if (set.contains haunts k) (copy_of_real (here_at f k) q))

-- a ghost message that a base node, or a cell where it is stray, does not take
abbrev pub IsMissed : Frame → ℕ → Has → Msg → Type 0
IsMissed f k s m = (cell_count ≤ k) ⊎ ((tree : Division) × (is_stray (here_at f k) tree s.cell.slot m ≡ true))

-- node k, which has s of entity e, is fed i, has t afterwards and sends this about e
pub data GhostMoves (f : Frame) (e k : ℕ) (s : Has) (i : Option Msg) (t : Has) (sent : List (ℕ × Msg)) : Type 0 where
  -- nothing
  rests : entry_in brings i ≡ None → real_in t ≡ real_in s → book_entry t ≡ book_entry s → IsSilent brings sent
      → GhostMoves f e k s i t sent
  -- the real has other calls or another witness than before
  touches : (r q : RealView) → entry_in brings i ≡ None → real_in s ≡ Some r → real_in t ≡ Some q → IsPlacedAlike r q
      → account_of q ≡ account_of r → book_entry t ≡ book_entry s → IsSilent brings sent → GhostMoves f e k s i t sent
  -- a ghost message comes and is stray
  misses : (m : Msg) → i ≡ Some m → real_of m ≡ None → IsMissed f k s m → real_in t ≡ real_in s → book_entry t ≡ book_entry s
      → IsSilent brings sent → GhostMoves f e k s i t sent
  -- a copy comes where the real is
  ignores : (n : ℕ) (c : GhostCopy) (r : RealView) → i ≡ Some (GhostSet e n c) → real_in s ≡ Some r → real_in t ≡ real_in s
      → book_entry t ≡ book_entry s → IsSilent brings sent → GhostMoves f e k s i t sent
  -- a set or a drop comes to the book
  hears : (p : Entry) → entry_in brings i ≡ Some p → carried_in real_of i ≡ None → real_in t ≡ real_in s
      → book_entry t ≡ greater_entry (book_entry s) (Some p) → IsSilent brings sent → GhostMoves f e k s i t sent
  -- a hand-over comes
  lands : (r : RealView) (bs : Option Boundaries) → i ≡ Some (Hand r bs) → real_in s ≡ None → real_in t ≡ Some r
      → book_entry t ≡ greater_entry (book_entry s) (Some (r.beat, None)) → IsSilent brings sent → GhostMoves f e k s i t sent
  -- the real settles, with haunts of which its home is none, and stays
  stays : (r q : RealView) (changed : Bool) (haunts : Cells) → set.contains haunts k ≡ false → entry_in brings i ≡ None
      → real_in s ≡ Some r → Executes f r q changed → real_in t ≡ Some (staying f k haunts q changed) → book_entry t ≡ book_entry s
      → sent ≡ told_settling f k k haunts q changed → GhostMoves f e k s i t sent
  -- it settles, and goes to cell j
  goes : (r q : RealView) (changed : Bool) (j : ℕ) (haunts : Cells) → (j ≡ k → ⊥) → set.contains haunts j ≡ false
      → entry_in brings i ≡ None → real_in s ≡ Some r → Executes f r q changed → real_in t ≡ None
      → book_entry t ≡ greater_entry (book_entry s) (Some (left_entry f k haunts q))
      → sent ≡ told_settling f k j haunts q changed ++ (j, Hand (going haunts q) None) ∷ [] → GhostMoves f e k s i t sent
  -- the entity leaves the world
  reaped : (r : RealView) → i ≡ Some (Reap e) → real_in s ≡ Some r → real_in t ≡ None
      → book_entry t ≡ greater_entry (book_entry s) (Some (r.beat + 1, None)) → sent ≡ drops r → GhostMoves f e k s i t sent
