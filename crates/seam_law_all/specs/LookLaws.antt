-- The laws of looks: what is true of a world to which a list of events led from one whose witnesses are to look.
use Rattle.std.specs.Prelude.{◌≡◌, ℕ, List, ◌++◌, Some}
use Rattle.seam_node_steps.specs.Prelude.{Shown, GhostCopy, RealView, WitnessView, holders, World}
use Rattle.seam_law_flow.specs.Prelude.{In}
use Rattle.seam_law_calls.specs.Prelude.{Frame, entity_flow, home_of, shown_at, real_at, real_in, CallsFindTheirWay, NoneIsStrayAtBases}
use Rattle.seam_law_calls.specs.Prelude.{NothingIsStray}
use Rattle.seam_law_rounds.specs.Prelude.{HasNoCalls, IsServed, HasNoCallsToBase}
use Rattle.seam_law_ghosts.specs.Prelude.{NewestAreWanted, HadSameReal, copy_at}
use Rattle.seam_law_clients.specs.Prelude.{rows_of}
use Rattle.seam_rule_clients.specs.Clients.{ClientReplica, after_all_shown}
use Rattle.seam_rule_clients.specs.Looks.{one_look}
use Rattle.seam_law_all.specs.CallLaws.{NoneIsStrayAtCells, UpdatesFindClients}

-- what entity e's client was shown since the round began
abbrev pub shown_to : Frame → ℕ → World → List Shown
shown_to f e w = shown_at ((entity_flow e w).slot (home_of f e))

-- The laws of looks: of the world v to which a list of events led from u, where witnesses are to look and each client shows `clients e`.
pub record ObeysLawsOfLooks (f : Frame) (clients : ℕ → ClientReplica) (u v : World) : Type 0 where
  -- each entity keeps its one real, and no other gets one
  pub one_real : (e : ℕ) → holders u e ≡ 1 → holders v e ≡ 1
  pub no_other : (e : ℕ) → holders u e ≡ 0 → holders v e ≡ 0
  -- reals execute nothing: each that is there was in the same cell, and is the same but for its witness
  pub reals : (e k : ℕ) (q : RealView) → real_in ((entity_flow e v).slot k) ≡ Some q → HadSameReal e k q u
  -- no call waits, neither for its cell part nor for its base part
  pub no_calls : (e : ℕ) → holders u e ≡ 1 → HasNoCalls e v
  pub no_base_calls : (e : ℕ) → holders u e ≡ 1 → HasNoCallsToBase e v
  -- a copy that a cell has is the one that it had, so that no version falls
  pub copies : (e : ℕ) → holders u e ≡ 1 → (k : ℕ) (c : GhostCopy) → copy_at e v k ≡ Some c → copy_at e u k ≡ Some c
  -- each cell is told what the real wants
  pub told : (e home : ℕ) (r q : RealView) → real_at e u home ≡ Some r →
      real_at e v home ≡ Some q → NewestAreWanted f e v (In home) q
  -- each client is shown what its witness tells, in order, each update once
  pub served : (e k : ℕ) (r : RealView) → real_at e u k ≡ Some r → IsServed f e r.ty v
  -- and that is a first part of exactly one look at the flat table
  pub until : (e k : ℕ) (r : RealView) → real_at e u k ≡ Some r → (x : WitnessView) → r.witness ≡ Some x →
      (rest : List Shown) × (shown_to f e v ++ rest ≡ shown_to f e u ++ one_look (clients e) e (rows_of u))
  -- calls find their way, about any entity: there are none
  pub ways : CallsFindTheirWay v
  -- nothing is stray, at a cell or at a base node
  pub cells : NoneIsStrayAtCells v
  pub base_nodes : NoneIsStrayAtBases v
  pub bases : (e : ℕ) → holders u e ≡ 1 → NothingIsStray f e v
  pub updates : UpdatesFindClients f v

-- where it is quiet, each client was shown exactly that look
abbrev pub AreShownOneLook : Frame → (ℕ → ClientReplica) → World → World → Type 0
AreShownOneLook f clients u v = (e k : ℕ) (r : RealView) → real_at e u k ≡ Some r → (x : WitnessView) →
    r.witness ≡ Some x → shown_to f e v ≡ shown_to f e u ++ one_look (clients e) e (rows_of u)

-- once each client was shown one look at the flat table
abbrev pub clients_looked : (ℕ → ClientReplica) → World → ℕ → ClientReplica
clients_looked clients u e = after_all_shown (clients e) (one_look (clients e) e (rows_of u))
