-- Copies of an entity: what its real wants each cell to have of it, and that each cell is told so.
use Rattle.std.specs.Prelude.{◌≡◌, ℕ, ◌<◌, ◌≤◌, false, Option, None, Some}
use Rattle.std.specs.FinSet as set
use Rattle.seam_node_steps.specs.Prelude.{GhostCopy, RealView, cell_count, copy_if, holders, World}
use Rattle.seam_law_flow.specs.Prelude.{Newest, TokenPlace, In, On}
use Rattle.seam_law_calls.specs.Prelude.{Frame, entity_flow, real_at}
use Rattle.seam_law_ghosts.specs.Entries.{brings, book_entry}
use Rattle.seam_law_ghosts.specs.Truths.{shown_at}

-- what others may see of the real now
abbrev pub present : Frame → RealView → GhostCopy
present f r = shown_at f r.ty r.public r.state

-- what the real wants cell k to have of it: the present copy where the cell is one of its haunts, and none where it is not
abbrev pub wanted : Frame → RealView → ℕ → Option GhostCopy
wanted f r k = copy_if (set.contains r.haunts k) (present f r)

-- the greatest beat that the book of node k heard of the entity, and the copy that it has
abbrev pub beat_at : ℕ → World → ℕ → ℕ
beat_at e w k = (book_entry ((entity_flow e w).slot k)).0

abbrev pub copy_at : ℕ → World → ℕ → Option GhostCopy
copy_at e w k = (book_entry ((entity_flow e w).slot k)).1

-- ---- while messages are on their way

-- Of the entries of cell k, which are its book's and each that is on its way there, the one of greatest beat has what the real wants, and
-- its beat is at most the real's. What does not hold of it: that it is in the book or comes from the real's cell, since it may come from a
-- cell where the real was; that a cell which is no haunt has no copy, or a drop on its way from the real's cell; that no ghost message
-- comes where the real is; that the book of the real's cell has its beat.
pub record NewestIsWanted (f : Frame) (e : ℕ) (w : World) (r : RealView) (k : ℕ) : Type 0 where
  pub beat : ℕ
  pub low : beat ≤ r.beat
  pub newest : Newest book_entry brings (entity_flow e w) k beat (wanted f r k)

-- the cell where the real is, or to which it is on its way, is none of its haunts
abbrev pub IsAway : TokenPlace → RealView → Type 0
IsAway (In k) r = set.contains r.haunts k ≡ false
IsAway (On a k) r = set.contains r.haunts k ≡ false

-- each cell is told what the real wants
pub record NewestAreWanted (f : Frame) (e : ℕ) (w : World) (p : TokenPlace) (r : RealView) : Type 0 where
  pub away : IsAway p r
  pub cells : (k : ℕ) → k < cell_count → NewestIsWanted f e w r k

-- the newest entry of each cell is none
abbrev pub IsForgotten : ℕ → World → Type 0
IsForgotten e w = (k : ℕ) → k < cell_count → (beat : ℕ) × Newest book_entry brings (entity_flow e w) k beat None

-- ---- where nothing is on its way

-- what cells have of an entity whose real, r, is in cell `home`
pub record AreSettled (f : Frame) (e home : ℕ) (r : RealView) (w : World) : Type 0 where
  -- that cell is none of its haunts
  pub away : set.contains r.haunts home ≡ false
  -- each haunt has the present copy, and no other cell has one
  pub copies : (k : ℕ) → k < cell_count → copy_at e w k ≡ wanted f r k
  -- and no cell heard a greater beat than the real's
  pub beats : (k : ℕ) → k < cell_count → beat_at e w k ≤ r.beat

-- the record of copies between rounds
pub record AreCopiesBetweenRounds (f : Frame) (w : World) : Type 0 where
  -- each real has its copies
  pub settled : (e k : ℕ) (r : RealView) → real_at e w k ≡ Some r → AreSettled f e k r w
  -- and of an entity that has no holder no cell has one
  pub none : (e : ℕ) → holders w e ≡ 0 → (k : ℕ) → k < cell_count → copy_at e w k ≡ None

-- ---- what is near
