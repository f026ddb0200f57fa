-- The laws of reaps: what is true of a world to which a list of events led from one that was told to reap entities.
use Rattle.std.specs.Prelude.{◌≡◌, ℕ, ◌<◌, List, Some, None}
use Rattle.std.specs.List.{AllByRecursion}
use Rattle.seam_node_steps.specs.Prelude.{cell_count, GhostCopy, RealView, PartView, holders, World}
use Rattle.seam_law_flow.specs.Prelude.{In}
use Rattle.seam_law_calls.specs.Prelude.{Frame, entity_flow, HasNoPart, NoUpdateComes, real_at, real_in, NothingIsStray}
use Rattle.seam_law_calls.specs.Prelude.{CallsFindTheirWay, NoneIsStrayAtBases}
use Rattle.seam_law_rounds.specs.Prelude.{HasNoCalls, HasNoCallsToBase}
use Rattle.seam_law_ghosts.specs.Prelude.{copy_at, NewestAreWanted, IsForgotten, HadSameReal}
use Rattle.seam_law_all.specs.CallLaws.{NoneIsStrayAtCells}

-- The laws of reaps: of the world v to which a list of events led from u, where the entities `es` are to be reaped.
pub record ObeysLawsOfReaps (f : Frame) (u : World) (es : List ℕ) (v : World) : Type 0 where
  -- each entity that is not to be reaped keeps its one real, and no other gets one
  pub one_real : (e : ℕ) → holders u e ≡ 1 → AllByRecursion (λ x. x ≡ e → ⊥) es → holders v e ≡ 1
  pub no_other : (e : ℕ) → holders u e ≡ 0 → holders v e ≡ 0
  -- reals execute nothing: each that is there was in the same cell, and is the same but for its witness
  pub reals : (e k : ℕ) (q : RealView) → real_in ((entity_flow e v).slot k) ≡ Some q → HadSameReal e k q u
  -- no call waits, neither for its cell part nor for its base part
  pub no_calls : (e : ℕ) → holders u e ≡ 1 → HasNoCalls e v
  pub no_base_calls : (e : ℕ) → holders u e ≡ 1 → HasNoCallsToBase e v
  -- a copy that a cell has is the one that it had, so that no version falls
  pub copies : (e : ℕ) → holders u e ≡ 1 → (k : ℕ) (c : GhostCopy) → copy_at e v k ≡ Some c → copy_at e u k ≡ Some c
  -- where the real still is, each cell is told what it wants; where it is gone, that there is to be no copy
  pub told : (e home : ℕ) (r q : RealView) → real_at e u home ≡ Some r →
      real_at e v home ≡ Some q → NewestAreWanted f e v (In home) q
  pub forgotten : (e home : ℕ) (r : RealView) → real_at e u home ≡ Some r →
      real_at e v home ≡ None → IsForgotten e v
  -- a base part that is still there is what it was, with what its client was shown
  pub parts : (e home : ℕ) (r : RealView) → real_at e u home ≡ Some r → (k : ℕ) (p : PartView) →
      ((entity_flow e v).slot k).base.part ≡ Some p → ((entity_flow e u).slot k).base.part ≡ Some p
  -- calls find their way, about any entity: there are none
  pub ways : CallsFindTheirWay v
  -- nothing is stray, at a cell or at a base node, and no order to reap among it; and no update is on its way
  pub cells : NoneIsStrayAtCells v
  pub base_nodes : NoneIsStrayAtBases v
  pub bases : (e : ℕ) → holders u e ≡ 1 → NothingIsStray f e v
  pub updates : (e : ℕ) → NoUpdateComes e v

-- where it is quiet, nothing is left of those that were reaped: no real, no copy in any cell, no base part and no client
pub record AreGone (es : List ℕ) (v : World) : Type 0 where
  pub reals : AllByRecursion (λ e. holders v e ≡ 0) es
  pub copies : AllByRecursion (λ e. (k : ℕ) → k < cell_count → copy_at e v k ≡ None) es
  pub parts : AllByRecursion (λ e. HasNoPart e v) es
