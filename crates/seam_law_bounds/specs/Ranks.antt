-- Ranks of nodes, which say how often an entity's real was handed over before it was there.
use Rattle.std.specs.Prelude.{◌≡◌, ℕ, ◌+◌, ◌-◌, ◌≤◌, ◌⊎◌, Bool, true, false, ◌||◌, nat_le, if◌then◌else◌, List, [], ◌∷◌, Option, None, Some}
use Rattle.seam_node_steps.specs.Prelude.{RealView, Msg, Hand, NextPlace, World}
use Rattle.seam_law_flow.specs.Prelude.{Flow, TokenPlace, In, On}
use Rattle.seam_law_calls.specs.Prelude.{Has, entity_flow, IsOne}

abbrev pub rank_by : Option RealView → Option NextPlace → ℕ
rank_by (Some r) n = r.generation
rank_by None (Some n) = n.generation - 1
rank_by None None = 0

-- a node's rank: the generation of the real where it is here, and where it was, the one with which it left
abbrev pub rank_of : Has → ℕ
rank_of h = rank_by h.cell.slot.real h.cell.slot.next

-- a hand-over of at least that generation
abbrev pub is_hand_from : ℕ → Msg → Bool
is_hand_from n (Hand r bs) = nat_le n r.generation
is_hand_from n _ = false

abbrev pub has_hand_from : ℕ → List Msg → Bool
has_hand_from n [] = false
has_hand_from n (m ∷ ms) = is_hand_from n m || has_hand_from n ms

-- what is sent from node k to node j after what is on its way there comes to a node of at least that rank
abbrev pub ComesTo : Flow Has Msg → ℕ → ℕ → ℕ → Type 0
ComesTo w k j n = (n ≤ rank_of (w.slot j)) ⊎ (has_hand_from n (w.mail k j) ≡ true)

-- no rank is above `top`, the generation of the real; and what a node sends on to a next place comes to a node of higher rank
pub record AreRanked (w : Flow Has Msg) (top : ℕ) : Type 0 where
  pub highest : (k : ℕ) → rank_of (w.slot k) ≤ top
  pub nexts : (k : ℕ) (n : NextPlace) → (w.slot k).cell.slot.next ≡ Some n → (1 ≤ n.generation) × (n.generation ≤ top)
  pub climb : (k : ℕ) (n : NextPlace) → (w.slot k).cell.slot.next ≡ Some n → ComesTo w k n.cell n.generation

-- the real leaves a node
abbrev pub is_handed_over : TokenPlace → TokenPlace → Bool
is_handed_over (In k) (In j) = false
is_handed_over (In k) (On a b) = true
is_handed_over (On a b) p = false

-- what an event leaves of the ranks: none falls, and the generation of the one real rises by one where it is handed over, and not else
pub record Climbs (e : ℕ) (w v : World) : Type 0 where
  pub place : TokenPlace
  pub real : RealView
  pub one : IsOne e w place real
  pub ranks : AreRanked (entity_flow e w) real.generation
  pub place_then : TokenPlace
  pub real_then : RealView
  pub one_then : IsOne e v place_then real_then
  pub ranks_then : AreRanked (entity_flow e v) real_then.generation
  pub stays : (k : ℕ) → rank_of ((entity_flow e w).slot k) ≤ rank_of ((entity_flow e v).slot k)
  pub raised : real_then.generation ≡ real.generation + (if is_handed_over place place_then then 1 else 0)
