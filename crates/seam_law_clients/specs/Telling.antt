-- What a witness tells its client over a list of events, and what its cells know all the while.
use Rattle.std.specs.Prelude.{◌≡◌, ℕ, ◌+◌, List, length, Some, slice_get}
use Rattle.seam_node_steps.specs.Prelude.{Event, Shown, RealView, WitnessView, CellView, World, Cell}
use Rattle.seam_law_flow.specs.Prelude.{Delivery}
use Rattle.seam_law_calls.specs.Prelude.{Frame, entity_flow, HasOne, home_of, updates_at, shown_at, tells, RunsTo, real_at}
use Rattle.seam_rule_clients.specs.Clients.{ClientReplica, after_all_shown}
use Rattle.seam_rule_clients.specs.Lines.{Truth, ShowsRightly}
use Rattle.seam_law_clients.specs.Witnesses.{own_now}
use Rattle.seam_law_clients.specs.Fits.{FitsWithin, KnowsTruth}

-- the world u comes between w and v: events lead from w to it, and from it to v
pub record ComesBetween (w v u : World) : Type 0 where
  pub before : List Event
  pub after : List Event
  pub from : RunsTo w before u
  pub to : RunsTo u after v

-- In each world between w and v what the client of e is to be shown of its own real is true, and so is what each cell knows of others.
pub record IsTrueBetween (f : Frame) (e : ℕ) (t : Truth) (w v : World) : Type 0 where
  pub own : (u : World) → ComesBetween w v u → (k : ℕ) (r : RealView) → real_at e u k ≡ Some r →
      t.own r.version (own_now f r)
  pub others : (u : World) → ComesBetween w v u → (k : ℕ) (cell : CellView) → slice_get u.nodes k ≡ Some (Cell cell) → KnowsTruth t cell e

-- What the witness of an entity told, in updates that are numbered from `first` on, its client may be shown, which showed c before.
pub record TellsRightly (f : Frame) (e ty first : ℕ) (t : Truth) (c : ClientReplica) (w : World) : Type 0 where
  -- the entity has one real, in a cell or on its way, which has the witness
  pub one : HasOne f e ty w
  pub witness : WitnessView
  pub has : one.real.witness ≡ Some witness
  -- what the witness told
  pub told : List Shown
  -- its next number follows
  pub number : witness.sent + 1 ≡ first + length told
  -- the client was shown the first ones of it, in order, and each of the others is held by its proxy or on its way, once
  pub delivery : Delivery updates_at shown_at tells (entity_flow e w) (home_of f e) first told
  -- each may be shown when it is its turn, and is true
  pub rightly : ShowsRightly t e c told
  -- the client that was shown all of it fits the witness
  pub fits : FitsWithin f one.real witness (after_all_shown c told)
