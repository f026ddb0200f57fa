-- Ghosts are true: each copy is what others may see of the state that its real had at the copy's version.
use Rattle.std.specs.Prelude.{◌≡◌, ℕ, ◌+◌, ◌-◌, ◌<◌, ◌≤◌, List, length, take, Some}
use Rattle.seam_node_steps.specs.Prelude.{State, ghost_of, type_of, Call, GhostCopy, RealView, World}
use Rattle.seam_law_flow.specs.Prelude.{AllBring, TokenPlace, In, On}
use Rattle.seam_law_calls.specs.Prelude.{Frame, entity_flow, account_of, after_calls, OneFrom}
use Rattle.seam_law_ghosts.specs.Entries.{Entry, brings, book_entry}

-- the state that a real had at a version, after so many of its further calls; at one not above that of the start it is the start's
abbrev pub state_at : Frame → RealView → List Call → ℕ → State
state_at f start further v = (after_calls (type_of f.defs start.ty) (account_of start) (take (v - start.version) further)).state

-- and its public version then
abbrev pub public_at : Frame → RealView → List Call → ℕ → ℕ
public_at f start further v = (after_calls (type_of f.defs start.ty) (account_of start) (take (v - start.version) further)).public

-- what others may see of a state of a real of this type, with its version
abbrev pub shown_at : Frame → ℕ → ℕ → State → GhostCopy
shown_at f ty version s = record { ty = ty; version = version; state = ghost_of (type_of f.defs ty).properties s }

-- the copy is what others may see of the state that the real had at the copy's version, which is a public one
pub record IsTrueCopy (f : Frame) (start : RealView) (further : List Call) (c : GhostCopy) : Type 0 where
  pub reached : c.version ≤ start.version + length further
  pub is : c ≡ shown_at f start.ty c.version (state_at f start further c.version)
  pub public : public_at f start further c.version ≡ c.version

-- an entry of the table: its beat is not above the last, and its copy, if it has one, is the one that the table has for the beat
pub record IsOfTable (table : ℕ → GhostCopy) (last : ℕ) (p : Entry) : Type 0 where
  pub low : p.0 ≤ last
  pub copy : (c : GhostCopy) → p.1 ≡ Some c → c ≡ table p.0

-- the table has, for each beat up to that of the real r, the copy that was told with it: each copy in a book or on its way is the
-- table's, versions rise with the beats, and that of the last is at most the public version
pub record IsTable (e : ℕ) (w : World) (r : RealView) (table : ℕ → GhostCopy) : Type 0 where
  pub books : (k : ℕ) → IsOfTable table r.beat (book_entry ((entity_flow e w).slot k))
  pub letters : (a k : ℕ) → AllBring brings (IsOfTable table r.beat) ((entity_flow e w).mail a k)
  pub rises : (a b : ℕ) → a ≤ b → b ≤ r.beat → (table a).version ≤ (table b).version
  pub top : (table r.beat).version ≤ r.public

-- the one real is what `start` became; the table is that of the start up to the start's beat, and has true copies for all later ones
pub record IsTrue (f : Frame) (e ty : ℕ) (start : RealView) (first : ℕ → GhostCopy) (w : World) : Type 0 where
  pub one : OneFrom f e ty start w
  pub table : ℕ → GhostCopy
  pub told : IsTable e w one.has.real table
  pub beats : start.beat ≤ one.has.real.beat
  pub kept : (b : ℕ) → b ≤ start.beat → table b ≡ first b
  pub true_copies : (b : ℕ) → start.beat < b → b ≤ one.has.real.beat → IsTrueCopy f start one.replays.further (table b)
  -- what others may see of the real now is true, too
  pub present : IsTrueCopy f start one.replays.further (shown_at f one.has.real.ty one.has.real.public one.has.real.state)

-- where the real is in a cell, nothing on its way there has a beat above that of the cell's book
abbrev pub IsHushed : ℕ → World → TokenPlace → Type 0
IsHushed e w (In k) = (a : ℕ) → AllBring brings (λ p. p.0 ≤ (book_entry ((entity_flow e w).slot k)).0) ((entity_flow e w).mail a k)
IsHushed e w (On a b) = Unit {0}
