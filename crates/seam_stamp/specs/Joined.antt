-- The logs of all nodes, once both ends of each link met.
use Rattle.std.specs.Prelude.{◌≡◌, ℕ, ◌<◌, ◌≤◌, Bool, List, [], ◌++◌, length, Some, slice_get, slice_index_or}
use Rattle.seam_machine.specs.Views.{Stepped, NetView}
use Rattle.seam_machine.specs.Nets.{link, IsSquare}
use Rattle.seam_machine.specs.Sends.{items_to}
use Rattle.seam_machine.specs.declared.machines.Input.{Input}
use Rattle.seam_machine.specs.declared.machines.Event.{Event}
use Rattle.seam_stamp.specs.declared.Letter.{Letter}
use Rattle.seam_stamp.specs.declared.Stamped.{Stamped}
use Rattle.seam_stamp.specs.Acts.{Act, received, state_after, sends, Legal, items, entries}

-- the steps are what node `me` did: its log and its state now, what its links gave, with the letters in hand last, and what was put into
-- its links after the letters that were there at the start
pub record Did {N M : Type 0} (has_work : N → Bool) (steps : N → Input M → Stepped N M) (n me : ℕ) (start : N) (first : ℕ → List (Letter M))
    (log : List (Stamped Event)) (now : N) (hand : List (ℕ × Letter M)) (taken put : ℕ → List (Letter M)) (ds : List (Act M)) : Type 0
  where
    pub log_is : log ≡ entries me ds
    pub node_is : now ≡ state_after steps start ds
    pub legal : Legal has_work steps n 0 start ds
    pub taken_is : (a : ℕ) → a < n → taken a ≡ received a ds ++ items_to a hand
    pub put_is : (b : ℕ) → b < n → put b ≡ first b ++ items_to b (sends steps start ds)

-- what is left of the link from a to b: the letters in hand, and what met in the link
abbrev pub left_of : {M : Type 0} → (ℕ → List (ℕ × Letter M)) → (ℕ → ℕ → List (Letter M)) → ℕ → ℕ → List (Letter M)
left_of hand met a b = items_to a (hand b) ++ met a b

-- each of the n nodes did, from the net w, what its log has, and on each link what was taken and what met is what was put
pub record Joined {N M : Type 0} (has_work : N → Bool) (steps : N → Input M → Stepped N M) (n : ℕ) (w : NetView N M) (start now : ℕ → N)
    (logs : List (List (Stamped Event))) (hand : ℕ → List (ℕ × Letter M)) (first taken put met : ℕ → ℕ → List (Letter M)) : Type 0 where
  pub square : IsSquare w
  pub count : length w.nodes ≡ n
  pub nodes : (k : ℕ) → k < n → slice_get w.nodes k ≡ Some (start k)
  pub links : (a b : ℕ) → a < n → b < n → link w.rows a b ≡ items (first a b)
  pub few : length logs ≤ n
  pub did : (k : ℕ) → k < n → (ds : List (Act M))
      × Did has_work steps n k (start k) (first k) (slice_index_or logs k []) (now k) (hand k) (taken k) (put k) ds
  pub meet : (a b : ℕ) → a < n → b < n → taken b a ++ met a b ≡ put a b

-- the net of the nodes and of what was left of the links
pub record IsRebuilt {N M : Type 0} (n : ℕ) (now : ℕ → N) (left : ℕ → ℕ → List (Letter M)) (v : NetView N M) : Type 0 where
  pub square : IsSquare v
  pub count : length v.nodes ≡ n
  pub nodes : (k : ℕ) → k < n → slice_get v.nodes k ≡ Some (now k)
  pub links : (a b : ℕ) → a < n → b < n → link v.rows a b ≡ items (left a b)
