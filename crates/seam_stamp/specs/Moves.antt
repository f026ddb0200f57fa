-- Moves of all nodes in one list, that fit a net, and the run that they are.
use Rattle.std.specs.Prelude.{◌≡◌, ℕ, ◌<◌, ◌≤◌, Bool, List, [], ◌∷◌, ◌++◌, length, Some, slice_get, if◌then◌else◌, ◌==◌}
use Rattle.seam_machine.specs.Views.{Stepped, NetView}
use Rattle.seam_machine.specs.Nets.{link, run, AllEnabled, IsSquare}
use Rattle.seam_machine.specs.Sends.{items_to}
use Rattle.seam_machine.specs.declared.machines.Input.{Input}
use Rattle.seam_machine.specs.declared.machines.Event.{Event}
use Rattle.seam_stamp.specs.declared.Letter.{Letter}
use Rattle.seam_stamp.specs.Acts.{Act, received, state_after, sends, Legal, event_by, items}

-- a step, and the node that made it
pub record Move (M : Type 0) : Type 0 where
  pub node : ℕ
  pub act : Act M

-- the steps of node k
abbrev pub own : {M : Type 0} → ℕ → List (Move M) → List (Act M)
own k [] = []
own k (x ∷ xs) = if x.node == k then x.act ∷ own k xs else own k xs

-- the moves as events of the net
abbrev pub events : {M : Type 0} → List (Move M) → List Event
events [] = []
events (x ∷ xs) = event_by x.node x.act ∷ events xs

-- no stamp falls, and each is at least t; each move is of one of the n nodes
abbrev pub Rises : {M : Type 0} → ℕ → ℕ → List (Move M) → Type 0
Rises n t [] = Unit {0}
Rises n t (x ∷ xs) = (t ≤ x.act.stamp) × (x.node < n) × Rises n x.act.stamp xs

-- the moves are legal steps of each of the n nodes from the net; on each link what is received and then what is left is what was there
-- first and then what is sent
pub record Fits {N M : Type 0} (has_work : N → Bool) (steps : N → Input M → Stepped N M) (n : ℕ) (w : NetView N M) (start : ℕ → N)
    (last : ℕ → ℕ) (first rest : ℕ → ℕ → List (Letter M)) (xs : List (Move M)) : Type 0 where
  pub square : IsSquare w
  pub count : length w.nodes ≡ n
  pub nodes : (k : ℕ) → k < n → slice_get w.nodes k ≡ Some (start k)
  pub links : (a b : ℕ) → a < n → b < n → link w.rows a b ≡ items (first a b)
  pub legal : (k : ℕ) → k < n → Legal has_work steps n (last k) (start k) (own k xs)
  pub passed : (a b : ℕ) → a < n → b < n → received a (own b xs) ++ rest a b ≡ first a b ++ items_to b (sends steps (start a) (own a xs))

-- the moves are a run of the net, each enabled; it leaves each node's last state, and on each link what was not received
pub record IsRun {N M : Type 0} (has_work : N → Bool) (steps : N → Input M → Stepped N M) (n : ℕ) (w : NetView N M) (start : ℕ → N)
    (rest : ℕ → ℕ → List (Letter M)) (xs : List (Move M)) : Type 0 where
  pub enabled : AllEnabled has_work steps w (events xs)
  pub nodes : (k : ℕ) → k < n → slice_get (run steps w (events xs)).nodes k ≡ Some (state_after steps (start k) (own k xs))
  pub links : (a b : ℕ) → a < n → b < n → link (run steps w (events xs)).rows a b ≡ items (rest a b)
