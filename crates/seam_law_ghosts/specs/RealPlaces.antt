-- The place of an entity's real: its home, and the cells that have a ghost of it; on its way through a round, and where a round leaves it.
use Rattle.std.specs.Prelude.{◌≡◌, ℕ, ◌+◌, ◌≤◌, List, [], ◌∷◌, length, Option, Some}
use Rattle.std.specs.List.{AllByRecursion}
use Rattle.std.specs.FinSet as set
use Rattle.seam_node_steps.specs.Prelude.{Pos, Division, leaf_at, Distances, Place, settled_all, IsPlaceAfter, Settings, State, TypeDef}
use Rattle.seam_node_steps.specs.Prelude.{after, type_of, IsQuiet, Event, Call, Create, Batch, RealView, WitnessView, created, real_begins}
use Rattle.seam_node_steps.specs.Prelude.{Msg, Hand, World, node_has_work, loaded, reaps_loaded, look_loaded}
use Rattle.seam_law_flow.specs.Prelude.{In, On}
use Rattle.seam_law_calls.specs.Prelude.{Frame, here_at, entity_flow, OneFrom, RunsTo, real_at}
use Rattle.seam_law_rounds.specs.Prelude.{AreReapable}
use Rattle.seam_haunt.specs.Places.{settled}
use Rattle.seam_law_flow.specs.Tokens as token
use Rattle.seam_node_steps.specs.Prelude.{Boundaries}

-- up to which distances a cell keeps an entity, gets a ghost of it and keeps that ghost, by the settings
abbrev pub distances_of : Settings → Distances
distances_of g = record { kept = g.offload_hysteresis; near = g.ghost_distance; far = g.ghost_distance + g.ghost_hysteresis }

-- the place of the real r whose cell is `home`
abbrev pub place_of : ℕ → RealView → Place
place_of home r = record { home = home; ghosts = r.haunts }

-- the place of an entity that is created: the leaf of its position, and no cell with a ghost
abbrev pub first_place : Division → Create → Place
first_place t x = record { home = leaf_at t x.pos; ghosts = set.empty }

-- where an entity in this state is after each of these calls, one after the other
abbrev pub positions_after : TypeDef → State → List Call → List Pos
positions_after t s [] = []
positions_after t s (c ∷ cs) = (after t s c.deed).pos ∷ positions_after t (after t s c.deed) cs

-- where the real is after each of these calls
abbrev pub path_of : Frame → RealView → List Call → List Pos
path_of f r cs = positions_after (type_of f.defs r.ty) r.state cs

-- the real of an entity that is created
abbrev pub made_real : Frame → Division → Create → RealView
made_real f t x = created (here_at f (leaf_at t x.pos)) x.entity x.ty x.pos

-- where the batch is loaded, the real r is in cell k, with no calls done and perhaps with a witness
pub record BeginsAt (w : World) (b : Batch) (e k : ℕ) (r : RealView) : Type 0 where
  pub witness : Option WitnessView
  pub here : real_at e (loaded w b) k ≡ Some (record (real_begins r) { witness = witness })

-- ---- within a round

-- the cell that the real is in, or to which it was handed over
abbrev pub home_of : token.TokenPlace → ℕ
home_of (In k) = k
home_of (On a b) = b

-- the survey list of the real's cell has the entity
abbrev pub IsDue : ℕ → World → token.TokenPlace → Type 0
IsDue e w (In k) = 1 ≤ ((entity_flow e w).slot k).cell.survey
IsDue e w (On a b) = ⊥

-- How a place goes through a round: it was `was`, at the position `start`, and the entity was at each position of the path after a call;
-- `due` says that its survey is still to come.
-- ("Settled at the start and after each call, or still due" is refuted: a call that comes before the survey may hand the real over, and
-- then it is taken off the list.)
pub data IsOnItsWay (d : Distances) (t : Division) (was : Place) (start : Pos) (path : List Pos) (place : Place) (due : Type 0)
    : Type 0 where
  -- it was settled at the start, and after each call
  surveyed : place ≡ settled_all d t was (start ∷ path) → IsOnItsWay d t was start path place due
  -- the first call came before the survey: it was settled after each call alone
  called : 1 ≤ length path → place ≡ settled_all d t was path → IsOnItsWay d t was start path place due
  -- nothing was settled yet, and the survey is still to come
  waits : path ≡ [] → place ≡ was → due → IsOnItsWay d t was start path place due

-- the entity's one real is what `start`, which was in cell `home`, became by further calls, and its place is on the way
pub record IsPlaced (f : Frame) (e ty home : ℕ) (start : RealView) (w : World) : Type 0 where
  pub one : OneFrom f e ty start w
  pub way : IsOnItsWay (distances_of f.settings) f.tree (place_of home start) start.state.pos (path_of f start one.replays.further)
      (place_of (home_of one.has.place) one.has.real) (IsDue e w one.has.place)

-- ---- at rest

-- the real r of cell k needs no settling by that tree: settling it where it is changes nothing
abbrev pub IsRestful : Settings → Division → ℕ → RealView → Type 0
IsRestful g tree k r = settled (distances_of g) tree (place_of k r) r.state.pos ≡ place_of k r

-- nor does the real that a letter to cell k carries, if it carries one
abbrev pub IsRestfulHand : Settings → Division → ℕ → Msg → Type 0
IsRestfulHand g tree k m = (r : RealView) (bs : Option Boundaries) → m ≡ Hand r bs → IsRestful g tree k r

-- the entity's real needs no settling by the frame's first tree where its cell's survey list has it not, nor on its way
pub record AreRestful (f : Frame) (e : ℕ) (w : World) : Type 0 where
  pub cells : (k : ℕ) (r : RealView) → real_at e w k ≡ Some r → ((entity_flow e w).slot k).cell.survey ≡ 0 →
      IsRestful f.settings f.tree k r
  pub hands : (a k : ℕ) → AllByRecursion (IsRestfulHand f.settings f.tree k) ((entity_flow e w).mail a k)

-- ---- at its end

-- The place of the real q, in cell k, is a right one by the tree t for an entity that was r, of the place `was`, at the round's start: it
-- is `was`, settled at that position, and then after each call that q executed in the round; where it executed one, the settling at the
-- start may be left out.
abbrev pub IsRightPlace : Frame → Division → Place → RealView → ℕ → RealView → Type 0
IsRightPlace f t was r k q = IsPlaceAfter (distances_of f.settings) t was r.state.pos (path_of f r q.done) (place_of k q)

-- the real q of cell k was there in world u, and is the same but for its witness
pub record HadSameReal (e k : ℕ) (q : RealView) (u : World) : Type 0 where
  pub real : RealView
  pub here : real_at e u k ≡ Some real
  pub same : q ≡ record real { witness = q.witness }

-- a round from world w, with the batch b, to v: it is loaded and runs until the world is quiet, then entities are reaped until it is
-- quiet again, and then witnesses look
pub record GoesThroughRound (w : World) (b : Batch) (v : World) : Type 0 where
  pub called : World
  pub call_events : List Event
  pub calls : RunsTo (loaded w b) call_events called
  pub calls_done : IsQuiet node_has_work called
  pub gone : List ℕ
  pub may : AreReapable called gone
  pub reaped : World
  pub reap_events : List Event
  pub reaps : RunsTo (reaps_loaded called gone) reap_events reaped
  pub reaps_done : IsQuiet node_has_work reaped
  pub look_events : List Event
  pub looks : RunsTo (look_loaded reaped) look_events v

-- ---- between rounds

-- the tree divides the space of the settings
abbrev pub IsOfSpace : Settings → Division → Type 0
IsOfSpace g t = t.size ≡ g.size

-- the record of places between rounds: the tree is of the settings' space, and each place is settled where its entity is
pub record ArePlaced (f : Frame) (w : World) : Type 0 where
  pub space : IsOfSpace f.settings f.tree
  pub settled : (e k : ℕ) (r : RealView) → real_at e w k ≡ Some r → IsRestful f.settings f.tree k r
