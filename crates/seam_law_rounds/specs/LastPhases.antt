-- The last phases of a round: entities are reaped, and witnesses look.
use Rattle.std.specs.Prelude.{◌≡◌, ℕ, Bool, true, false, eqb, ◌||◌, List, [], ◌∷◌, None, Some}
use Rattle.std.specs.List.{AllByRecursion, IsDistinct}
use Rattle.seam_node_steps.specs.Prelude.{input_from, happens, Event, Settings, TypeDef, RealView, may_rise, holders, World, node_steps}
use Rattle.seam_node_steps.specs.Prelude.{one_cell}
use Rattle.seam_law_flow.specs.Prelude.{WaitsOnce}
use Rattle.seam_law_calls.specs.Prelude.{Frame, entity_flow, reaps, as_sender, real_at, as_base_sender}

-- what the nodes of a world go by as it is opened: the tree of one cell
abbrev pub first_frame : List TypeDef → Settings → Frame
first_frame defs settings = record { defs = defs; settings = settings; tree = one_cell settings.size; later = [] }

-- entities that a quiet world may be told to reap: each is there, is once in the list, and its beat may rise
pub record AreReapable (w : World) (es : List ℕ) : Type 0 where
  pub there : AllByRecursion (λ e. holders w e ≡ 1) es
  pub once : IsDistinct eqb es
  pub small : (e k : ℕ) (r : RealView) → real_at e w k ≡ Some r → may_rise r.beat ≡ true

-- one of the events feeds the entity's Reap to a node
abbrev pub reap_comes : ℕ → World → List Event → Bool
reap_comes e w [] = false
reap_comes e w (v ∷ es) = reaps e (input_from w.rows v.node v.from) || reap_comes e (happens node_steps w v) es

-- no sender has a call to the entity's cell part waiting, of any number, anywhere
abbrev pub HasNoCalls : ℕ → World → Type 0
HasNoCalls e w = (s n : ℕ) → WaitsOnce (as_sender s (entity_flow e w)) n None

-- nor one to its base part
abbrev pub HasNoCallsToBase : ℕ → World → Type 0
HasNoCallsToBase e w = (s n : ℕ) → WaitsOnce (as_base_sender s (entity_flow e w)) n None
