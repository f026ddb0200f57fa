-- After a reap: what is left of the calls to a base part.
use Rattle.std.specs.Prelude.{◌≡◌, ℕ, [], None}
use Rattle.std.specs.List.{AllByRecursion}
use Rattle.seam_node_steps.specs.Nodes.{World}
use Rattle.seam_law_calls.specs.Sights.{entity_flow}
use Rattle.seam_law_calls.specs.PartMoves.{base_call_in, calls_ordered}

-- no call to the entity's base part is ordered, and none is on its way
pub record HasNoBaseCalls (e : ℕ) (w : World) : Type 0 where
  pub orders : (k : ℕ) → calls_ordered ((entity_flow e w).slot k).base ≡ []
  pub letters : (a k : ℕ) → AllByRecursion (λ m. base_call_in m ≡ None) ((entity_flow e w).mail a k)

-- no node has a base part of the entity
abbrev pub HasNoPart : ℕ → World → Type 0
HasNoPart e w = (k : ℕ) → ((entity_flow e w).slot k).base.part ≡ None
