-- A net of machines keeps its shape, and its nodes send to its nodes alone.
use Rattle.std.proofs.Common.{◌≡◌, ℕ, List, length, ap, ◌∙◌, sym, subst}
use Rattle.std.specs.List.{All}
use Rattle.std.proofs.lemmas.List.Elements.{All-set}
use Rattle.std.proofs.lemmas.Option.{get_or_from_slice_get}
use Rattle.seam_machine.specs.Views.{NetView}
use Rattle.seam_machine.specs.Sends.{AllBelow}
use Rattle.seam_machine.specs.Nets.{happens, LeadsTo, ArePeers}
use Rattle.seam_machine.specs.Events.{Occurs}
use Rattle.seam_net_runs.specs.Sound.{MachineLaws, IsSound}
use Rattle.seam_machine.specs.declared.machines.Event.{Event}
use Rattle.seam_machine.proofs.Occurring.{occurs, node_within, nodes-happens, length-happens, square-happens}
use Rattle.seam_net_runs.proofs.Keeping.{each_node}
use Rattle.seam_net_runs.proofs.Runs.{leads_keeps}

module _ {N M : Type 0} (m : MachineLaws N M) where
  peers_at : (w : NetView N M) (e : Event) (o : Occurs w e) → ArePeers m.peer_count w → m.peer_count o.node ≡ length w.nodes
  peers_at w e o p =
      ap m.peer_count (sym (get_or_from_slice_get w.nodes e.node o.node o.node o.is_node)) ∙ p e.node o.node (node_within w e o)

  pub sound_sends : (w : NetView N M) (e : Event) (o : Occurs w e) → IsSound m.peer_count m.valid w →
      AllBelow (length w.nodes) (m.steps o.node o.input).sent
  sound_sends w e o q =
      let P : ℕ → Type 0 = λ n. AllBelow n (m.steps o.node o.input).sent in
      subst P (peers_at w e o q.peers) (m.targets o.node o.input (q.states e.node o.node o.is_node))

  pub sound_happens : (w : NetView N M) (e : Event) (o : Occurs w e) → IsSound m.peer_count m.valid w →
      IsSound m.peer_count m.valid (happens m.steps w e)
  sound_happens w e o q =
      let good = q.states e.node o.node o.is_node in
      let new = m.keeps_peers o.node o.input good ∙ peers_at w e o q.peers in
      let all = All-set (λ s. m.peer_count s ≡ length w.nodes) w.nodes e.node (m.steps o.node o.input).state new q.peers in
      let P : List N → Type 0 = λ l. All (λ s. m.peer_count s ≡ length w.nodes) l in
      let Q : ℕ → Type 0 = λ n. All (λ s. m.peer_count s ≡ n) (happens m.steps w e).nodes in
      record {
        square = square-happens m.steps w e o q.square;
        peers = subst Q (sym (length-happens m.steps w e o)) (subst P (sym (nodes-happens m.steps w e o)) all);
        states = each_node (λ k s. m.valid s) m.steps w e o q.states (m.stays_valid o.node o.input good);
      }

  pub sound_leads : (w v : NetView N M) (es : List Event) → IsSound m.peer_count m.valid w → LeadsTo m.has_work m.steps w es v →
      IsSound m.peer_count m.valid v
  sound_leads w v es q a =
      leads_keeps m.has_work m.steps (IsSound m.peer_count m.valid) (λ x e s h. sound_happens x e (occurs m.has_work x e h) s) w v es q a
