-- Each base node keeps a route to the entity, and messages go where they belong, after each event.
use Rattle.seam_law_calls.proofs.Prelude.{◌≡◌, ℕ, ◌<◌, ◌≤◌, List, length, Option, Some, ap, ◌∙◌, arith, happens, Occurs, Event, Msg, Reap}
use Rattle.seam_law_calls.proofs.Prelude.{cell_count, NextPlace, RouteView, NodeView, World, node_steps, Cell, Base, IsNode, comes}
use Rattle.seam_law_calls.proofs.Prelude.{letter_in, Frame, IsAt, IsInFrame, Has, AtBase, mine, has_of, has_none, entity_flow, Moves}
use Rattle.seam_law_calls.proofs.Prelude.{at_a_cell, at_a_base, IsFrame, HasOne, IsBaseNumber, IsForNode, HasRoutes, slots_kept, sent_kept}
use Rattle.seam_law_calls.proofs.BaseDeeds.{RouteAfter, same_route, newer_of, base_route}
use Rattle.seam_law_calls.proofs.ExampleMet.{slots}
use Rattle.seam_law_calls.proofs.OneReal.{goes}
use Rattle.seam_law_calls.proofs.RightNodes.{sends_right}

abbrev pub HasRoute : AtBase → Type 0
HasRoute b = (r : RouteView) × (b.route ≡ Some r)

-- a route stays one
route_after : {e : ℕ} {s : AtBase} {i : Option Msg} {t : AtBase} → RouteAfter e s i t → HasRoute s → HasRoute t
route_after (same_route is stray) r = (r.0, is ∙ r.1)
route_after (newer_of new x n has is) r = (_, is)

pub route_moves : (f : Frame) (e k : ℕ) (s : Has) (i : Option Msg) (t : Has) (sent : List (ℕ × Msg)) → Moves f e k s i t sent →
    HasRoute s.base → HasRoute t.base
route_moves f e k s i t sent (at_a_cell tree of low m same) r = (r.0, ap (λ b. b.route) same ∙ r.1)
route_moves f e k s i t sent (at_a_base high m same) r = route_after (base_route m) r

-- ---- what is true of every node

-- next places and routes are cells
abbrev LeadsToCells : Has → Type 0
LeadsToCells s = ((n : NextPlace) → s.cell.slot.next ≡ Some n → n.cell < cell_count) ×
    ((r : RouteView) → s.base.route ≡ Some r → r.cell < cell_count)

node_leads : (e : ℕ) (n : NodeView) → IsNode n → LeadsToCells (has_of e n)
node_leads e (Cell c) is = ((λ x has. is.nexts e x has), (λ r has. absurd (let z = has in cc)))
node_leads e (Base b) is = ((λ x has. absurd (let z = has in cc)), (λ r has. is.routes e r has))

none_leads : LeadsToCells has_none
none_leads = ((λ x has. absurd (let z = has in cc)), (λ r has. absurd (let z = has in cc)))

all_lead : (f : Frame) (e : ℕ) (w : World) → IsInFrame f w → (k : ℕ) → LeadsToCells ((entity_flow e w).slot k)
all_lead f e w q = slots (λ k s. LeadsToCells s) e w (λ k n at. node_leads e n (q.sound.states k n at)) (λ k. none_leads)

-- there is a base node
some_base : (f : Frame) (k : ℕ) (n : NodeView) → IsNode n → IsAt f k n → 1 ≤ f.settings.bases
some_base f k (Cell c) is at = let some = is.bases in let same = ap (λ h. h.settings.bases) at.here in omega (arith, some, same)
some_base f k (Base b) is at = let some = is.bases in let same = ap (λ h. h.settings.bases) at.here in omega (arith, some, same)

-- ---- an event

module _ (f : Frame) (frame : IsFrame f) (e ty : ℕ) (known : ty < length f.defs) (w : World) (v : Event) (o : Occurs w v)
    (one : HasOne f e ty w) (calm : letter_in (mine e) o.input ≡ Some (Reap e) → ⊥) where
  pub routes_happen : HasRoutes f e w → HasRoutes f e (happens node_steps w v)
  routes_happen h =
      let g = goes f frame e ty known w v o one calm in
      let lead = all_lead f e w one.fits.frame g.k in
      let q = one.fits.frame in
      let some = some_base f v.node o.node (q.sound.states v.node o.node o.is_node) (q.nodes v.node o.node o.is_node) in
      let sends =
      sends_right f frame some e g.k ((entity_flow e w).slot g.k) (comes g.input) ((entity_flow e (happens node_steps w v)).slot g.k)
      g.moves.0.sent (λ r is. let few = g.moves.1.0 r is in omega (arith, few)) lead.0 lead.1 g.moves.0.moves in
      record {
        routes =
            slots_kept (λ k s. IsBaseNumber f k → HasRoute s.base) g h.routes
            (λ is. route_moves f e g.k ((entity_flow e w).slot g.k) (comes g.input) ((entity_flow e (happens node_steps w v)).slot g.k)
            g.moves.0.sent g.moves.0.moves (h.routes g.k is));
        letters = sent_kept (λ a k m. IsForNode f k m) g g.moves.0.sent g.moves.0.items h.letters sends;
      }
