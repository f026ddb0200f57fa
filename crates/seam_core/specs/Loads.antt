-- What a load asks of a world.
use Rattle.std.specs.Prelude.{◌≡◌, ℕ, false, eqb, map, None}
use Rattle.std.specs.List.{AllByRecursion, IsDistinct}
use Rattle.seam_node_steps.specs.Prelude.{IsInSpace, EachNode, Batch, NodeView, World}
use Rattle.seam_law_calls.specs.Prelude.{has_of, real_in}
use Rattle.seam_law_rounds.specs.Prelude.{created_entity}
use Rattle.seam_base.specs.Nodes.{has_client}
use Rattle.seam_base.specs.Marks.{passes}
use Rattle.seam_core.specs.Nodes.{here_in}

-- ---- what nodes know of their world

-- node k knows its number
abbrev pub IsNumbered : ℕ → NodeView → Type 0
IsNumbered k s = (here_in s).me ≡ k

-- it knows that there are so many base nodes
abbrev pub HasBases : ℕ → NodeView → Type 0
HasBases n s = (here_in s).settings.bases ≡ n

-- that the space is of this size
abbrev pub HasSize : ℕ → NodeView → Type 0
HasSize n s = (here_in s).settings.size ≡ n

-- ---- a batch

-- a batch that a node can begin
pub record CanBegin (b : Batch) (s : NodeView) : Type 0 where
  -- its tree is of the settings' space
  pub space : HasSize b.tree.size s
  -- each entity that it creates is in that space, has no real here, and is created once
  pub inside : AllByRecursion (λ x. IsInSpace b.tree x.pos) b.creates
  pub new : AllByRecursion (λ x. real_in (has_of x.entity s) ≡ None) b.creates
  pub once : IsDistinct eqb (map created_entity b.creates)
  -- each that is to have a client has none here, and gets one
  pub unseen : AllByRecursion (λ e. passes has_client (has_of e s).base.part ≡ false) b.clients
  pub one_each : IsDistinct eqb b.clients

-- each node of the world can begin the batch
abbrev pub MayLoad : World → Batch → Type 0
MayLoad w b = EachNode (λ k s. CanBegin b s) w.nodes
