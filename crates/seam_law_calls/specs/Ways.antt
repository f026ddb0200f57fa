-- Calls find their way: where a call is sent, the entity's real is, was, or comes before it.
use Rattle.std.specs.Prelude.{◌≡◌, ℕ, Bool, true, false, not, ◌&&◌, ◌||◌, is_some, List, [], ◌∷◌, ◌++◌, Some}
use Rattle.std.specs.List.{AllByRecursion}
use Rattle.seam_node_steps.specs.Prelude.{link, Call as CallData, Msg, Current, NextPlace, RouteView, World}
use Rattle.seam_law_flow.specs.Prelude.{Flow, letters_of}
use Rattle.seam_entity.specs.declared.message.Msg.TheVariants.{Call}
use Rattle.seam_law_calls.specs.Sights.{Has, mine, entity_flow}
use Rattle.seam_law_calls.specs.Ones.{real_of}

-- the node has the entity's real, or had it and has the next place
abbrev pub is_visited : Has → Bool
is_visited s = is_some s.cell.slot.real || is_some s.cell.slot.next

abbrev pub is_call : Msg → Bool
is_call (Call c) = true
is_call _ = false

abbrev pub is_hand : Msg → Bool
is_hand m = is_some (real_of m)

abbrev pub has_hand : List Msg → Bool
has_hand [] = false
has_hand (m ∷ ms) = is_hand m || has_hand ms

-- each call comes where the real is or was, or after the hand-over that brings it
abbrev pub follow : Bool → List Msg → Bool
follow visited [] = true
follow visited (m ∷ ms) = (not (is_call m) || visited) && follow (visited || is_hand m) ms

-- a route says where the real is or was
abbrev pub NamesVisited : Flow Has Msg → Msg → Type 0
NamesVisited w m = (e j g : ℕ) → m ≡ Current e j g → is_visited (w.slot j) ≡ true

-- whatever leads to a cell leads to one where the real is, was, or comes: next places, routes, routes on their way, and calls
pub record AllLead (w : Flow Has Msg) : Type 0 where
  pub nexts : (k : ℕ) (n : NextPlace) → (w.slot k).cell.slot.next ≡ Some n →
      (is_visited (w.slot n.cell) || has_hand (w.mail k n.cell)) ≡ true
  pub routes : (k : ℕ) (r : RouteView) → (w.slot k).base.route ≡ Some r → is_visited (w.slot r.cell) ≡ true
  pub currents : (a k : ℕ) → AllByRecursion (NamesVisited w) (w.mail a k)
  pub calls : (a k : ℕ) → follow (is_visited (w.slot k)) (w.mail a k) ≡ true

-- each call on a link, about any entity, comes where the entity's real is or was, or after the hand-over that brings it
abbrev pub CallsFindTheirWay : World → Type 0
CallsFindTheirWay w = (a k : ℕ) (c : CallData) (before after : List Msg) → link w.rows a k ≡ before ++ Call c ∷ after →
    (is_visited ((entity_flow c.entity w).slot k) || has_hand (letters_of (mine c.entity) before)) ≡ true
