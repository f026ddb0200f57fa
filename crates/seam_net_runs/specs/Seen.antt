-- A net whose nodes are seen through a function.
use Rattle.std.specs.Prelude.{◌≡◌, Bool, map}
use Rattle.seam_machine.specs.Views.{Stepped, NetView}
use Rattle.seam_machine.specs.declared.machines.Input.{Input}

-- the net with each node seen through f
abbrev pub seen : {N V M : Type 0} → (N → V) → NetView N M → NetView V M
seen f w = record { nodes = map f w.nodes; rows = w.rows }

-- a step of a node, seen through f, is the step of what is seen
pub record SeesSteps {N V M : Type 0} (f : N → V) (steps : N → Input M → Stepped N M) (seen_steps : V → Input M → Stepped V M) : Type 0
  where
    pub state : (s : N) (i : Input M) → f (steps s i).state ≡ (seen_steps (f s) i).state
    pub sent : (s : N) (i : Input M) → (steps s i).sent ≡ (seen_steps (f s) i).sent

-- the task of a node is there exactly where it is seen to be there
abbrev pub SeesWork : {N V : Type 0} → (N → V) → (N → Bool) → (V → Bool) → Type 0
SeesWork {N} f has_work seen_work = (s : N) → seen_work (f s) ≡ has_work s
