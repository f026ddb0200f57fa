-- The laws of a round's calls: what is true of a world to which a list of events led from a loaded one.
use Rattle.std.specs.Prelude.{◌≡◌, ℕ, ◌+◌, ◌<◌, ◌≤◌, false, List, ◌∷◌, Some, slice_get}
use Rattle.seam_node_steps.specs.Prelude.{link, Batch, cell_count, RealView, WitnessView, Msg, Update, PartView, about, is_stray, CellView}
use Rattle.seam_node_steps.specs.Prelude.{slot_of, holders, loaded, World, Cell}
use Rattle.seam_law_flow.specs.Prelude.{letters_of, TokenPlace}
use Rattle.seam_law_calls.specs.Prelude.{Frame, entity_flow, IsOne, OneFrom, AllLead, from_sender, CellCallsInTurn, home_of, HasBaseCalls}
use Rattle.seam_law_calls.specs.Prelude.{shown_at, CallsFindTheirWay, FindsClient, NoneIsStrayAtBases, NothingIsStray, real_at}
use Rattle.seam_law_rounds.specs.Prelude.{calls_of, framed, next_from, base_calls_of, next_to, IsServed, NewestRouteIsRight}
use Rattle.seam_law_ghosts.specs.Prelude.{HasNoStrayTask, IsRightPlace, IsTrue, place_of, present, NewestAreWanted, AreSettled}
use Rattle.seam_law_clients.specs.Prelude.{true_between, clients_loaded}
use Rattle.seam_call.specs.declared.shown.Update.{Update as UpdateData}
use Rattle.seam_rule_clients.specs.Clients.{ClientReplica}
use Rattle.seam_rule_clients.specs.Lines.{ShowsRightly}

-- ---- no node is given what it has no case for

-- no message to a cell that is the first of its link is stray there, and no task of a cell is
pub record NoneIsStrayAtCells (v : World) : Type 0 where
  pub messages : (a k : ℕ) (c : CellView) (m : Msg) (ms : List Msg) (e : ℕ) → slice_get v.nodes k ≡ Some (Cell c) →
      link v.rows a k ≡ m ∷ ms → about m ≡ Some e → is_stray c.here c.tree (slot_of c e) m ≡ false
  pub tasks : (k : ℕ) (c : CellView) → slice_get v.nodes k ≡ Some (Cell c) → HasNoStrayTask c

-- an update about any entity that is the first of its link finds the entity's client
abbrev pub UpdatesFindClients : Frame → World → Type 0
UpdatesFindClients f v = (e a k : ℕ) (u : UpdateData) (ms : List Msg) → (entity_flow e v).mail a k ≡ Update u ∷ ms →
    FindsClient f e k ((entity_flow e v).slot k).base u

-- ---- an entity

-- What is true of entity e, whose real was r where the batch b was loaded into w, once the world is v.
pub record GoesRightly (f : Frame) (clients : ℕ → ClientReplica) (w : World) (b : Batch) (e : ℕ) (r : RealView) (v : World) : Type 0 where
  -- its one real is r after further calls
  pub replays : OneFrom (framed f b) e r.ty r v
  -- whatever leads to a cell leads to where the real is, was or comes
  pub ways : AllLead (entity_flow e v)
  -- each call of the batch to the cell part waits once, until it is executed in its turn
  pub cell_calls : CellCallsInTurn e (λ s. next_from s r) (calls_of b e) v
  -- and so does each to the base part
  pub base_calls : (p : PartView) → ((entity_flow e (loaded w b)).slot (home_of f e)).base.part ≡ Some p →
      HasBaseCalls (framed f b) e r.ty (λ s. next_to s p) (base_calls_of b e) v
  -- each copy of it, in a book or on its way, is what others might see of a state that it had
  pub ghosts : IsTrue (framed f b) e r.ty r (λ n. present f r) v
  -- the newest that a cell has or is told is what the real wants
  pub told : (p : TokenPlace) (q : RealView) → IsOne e v p q → NewestAreWanted (framed f b) e v p q
  -- the newest route of each base node leads to the real
  pub routes : (p : TokenPlace) (q : RealView) → IsOne e v p q → (k : ℕ) → cell_count ≤ k → k < cell_count + f.settings.bases →
      NewestRouteIsRight p q (entity_flow e v) k
  -- nothing about it is stray at a base node
  pub bases : NothingIsStray (framed f b) e v
  -- its client is shown what its witness tells, in order, each update once
  pub served : IsServed (framed f b) e r.ty v
  -- and is shown rightly: nothing that was not true since the load, and nothing older than before
  pub shown : (x : WitnessView) → r.witness ≡ Some x →
      ShowsRightly (true_between (framed f b) e (loaded w b) v) e (clients_loaded f b clients e)
      (shown_at ((entity_flow e v).slot (home_of (framed f b) e)))

-- ---- the laws

-- The laws of a round's calls: of the world v to which a list of events led from w with the batch b loaded.
pub record ObeysLaws (f : Frame) (clients : ℕ → ClientReplica) (w : World) (b : Batch) (v : World) : Type 0 where
  -- each entity that has a holder as the batch is loaded has exactly one ever after, and no other gets one
  pub one_real : (e : ℕ) → holders (loaded w b) e ≡ 1 → holders v e ≡ 1
  pub no_other : (e : ℕ) → holders (loaded w b) e ≡ 0 → holders v e ≡ 0
  -- what is true of each
  pub each : (e k : ℕ) (r : RealView) → real_at e (loaded w b) k ≡ Some r → GoesRightly f clients w b e r v
  -- each call on a link, about any entity, comes where the entity's real is or was, or after the hand-over that brings it
  pub ways : CallsFindTheirWay v
  -- nothing is stray, whatever entity it is about
  pub cells : NoneIsStrayAtCells v
  pub base_nodes : NoneIsStrayAtBases v
  pub updates : UpdatesFindClients (framed f b) v

-- ---- where the calls leave the world quiet

-- What is true of entity e, whose real is then q of cell k, and was r of cell `home` where the batch was loaded.
pub record EndsRightly (f : Frame) (b : Batch) (e home : ℕ) (r : RealView) (k : ℕ) (q : RealView) (v : World) : Type 0 where
  -- its cell part executed all calls of each sender, in their order
  pub cell_calls : (s : ℕ) → letters_of (from_sender s) q.done ≡ calls_of b e s
  -- and so did its base part
  pub base_calls : (j : ℕ) (p : PartView) → ((entity_flow e v).slot j).base.part ≡ Some p → (s : ℕ) →
      letters_of (from_sender s) p.done ≡ base_calls_of b e s
  -- its place is a right one: settled where it was and after each call that it executed
  pub place : IsRightPlace f b.tree (place_of home r) r k q
  -- each haunt has the present copy, and no other cell has one
  pub copies : AreSettled (framed f b) e k q v
  -- and each base node has the route to it
  pub routes : (j : ℕ) → cell_count ≤ j → j < cell_count + f.settings.bases →
      ((entity_flow e v).slot j).base.route ≡ Some (record { cell = k; generation = q.generation })
