-- What is true in a round: what each entity was since the load, and nothing before.
use Rattle.std.specs.Prelude.{◌≡◌, ℕ, ◌≤◌, Some, slice_get}
use Rattle.seam_node_steps.specs.Prelude.{State, GhostCopy, RealView, known_of, other_of_copy, CellView, known_to, World, Cell}
use Rattle.seam_law_flow.specs.Prelude.{TokenPlace}
use Rattle.seam_law_calls.specs.Prelude.{Frame, here_at, IsOne, Replays, real_at}
use Rattle.seam_law_ghosts.specs.Prelude.{IsTrueCopy}
use Rattle.seam_rule_clients.specs.Lines.{Truth}
use Rattle.seam_law_clients.specs.Witnesses.{own_now}
use Rattle.seam_law_clients.specs.Telling.{ComesBetween}

-- in some world between two the entity's real is at this version, and its own client is to be shown this state of it
pub record WasOwn (f : Frame) (e : ℕ) (w v : World) (version : ℕ) (state : State) : Type 0 where
  pub world : World
  pub between : ComesBetween w v world
  pub node : ℕ
  pub real : RealView
  pub here : real_at e world node ≡ Some real
  pub at : version ≡ real.version
  pub is : state ≡ own_now f real

-- in some world between two a cell knows this of x, for the client of e
pub record WasKnown (e : ℕ) (w v : World) (x : ℕ) (d : GhostCopy) : Type 0 where
  pub world : World
  pub between : ComesBetween w v world
  pub node : ℕ
  pub cell : CellView
  pub here : slice_get world.nodes node ≡ Some (Cell cell)
  pub known : known_of x (known_to cell e) ≡ Some d

-- In some world between two x has a real, which became that from the one in w by its calls; and d is what other clients are shown of it at
-- a version that it had by then, not below its public version in w and not above that in this world.
pub record WasOther (f : Frame) (w v : World) (x : ℕ) (d : GhostCopy) : Type 0 where
  pub home : ℕ
  pub first : RealView
  pub at_first : real_at x w home ≡ Some first
  pub world : World
  pub between : ComesBetween w v world
  pub place : TokenPlace
  pub real : RealView
  pub one : IsOne x world place real
  pub replays : Replays f first real
  pub copy : GhostCopy
  pub true_ : IsTrueCopy f first replays.further copy
  pub not_before : first.public ≤ copy.version
  pub not_ahead : copy.version ≤ real.public
  pub is : d ≡ other_of_copy (here_at f 0) copy

-- what is true between two worlds: of the client's own entity what its real was; of others what cells knew
abbrev pub known_between : Frame → ℕ → World → World → Truth
known_between f e w v = record { own = λ version state. WasOwn f e w v version state; other = λ x d. WasKnown e w v x d }

-- what is true of a round between two worlds: of the client's own entity what its real was; of others what they were to be shown as
abbrev pub true_between : Frame → ℕ → World → World → Truth
true_between f e w v = record { own = λ version state. WasOwn f e w v version state; other = λ x d. WasOther f w v x d }
