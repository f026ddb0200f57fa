use Rattle.std.proofs.Common.{◌≡◌, ◌<◌, ◌∙◌, ℕ, set, refl, sym, ap, length, arith, subst, Some}
use Rattle.std.specs.Prelude.{slice_get}
use Rattle.std.specs.List.{All}
use Rattle.std.proofs.lemmas.List.{length-set}
use Rattle.std.proofs.lemmas.List.Elements.{All-set}
use Rattle.std.proofs.lemmas.Option.{slice_get_read}
use Rattle.seam_machine.specs.Nets.{input_from, is_ready, ArePeers}
use Rattle.seam_machine.specs.Inside.{IsNet}
use Rattle.seam_machine.proofs.Occurring.{occurs, node_within, fed_happens, net_fed}
use Rattle.seam_machine.proofs.TaskMarks.{knows_after}
use Rattle.seam_machine.proofs.nets.Net.step.Goals as goal
use Rattle.seam_machine.proofs.nets.Net.step.Goals.{After-self, After-index_mut-node}

node_in : (g : _) (c : After-self g) → c.args.event.node < length c.self.inside.nodes.items
node_in g c =
    let h = node_within c.args.self.now c.args.event (occurs g.M.Machine.has_work c.args.self.now c.args.event c.requires.enabled) in
    omega (arith, h, ap (λ w. length w.nodes) c.self.view_is)

node_is : (g : _) (c : After-index_mut-node g) → slice_get c.args.self.now.nodes c.args.event.node ≡ Some c.index_mut-node.result.now
node_is g c =
    ap (λ w. slice_get w.nodes c.args.event.node) (sym c.self.view_is)
    ∙ slice_get_read c.self.inside.nodes.items (length c.self.inside.nodes.items) c.args.event.node c.index_mut-node.result.now refl
    (node_in g ((goal.at.After-index_mut-node g c).After-self)) c.index_mut-node.ensures.value

rows_are : (g : _) (c : After-self g) → c.self.inside.links.rows ≡ c.args.self.now.rows
rows_are g c = ap (λ w. w.rows) c.self.view_is

is_net : (g : _) (c : After-self g) → IsNet c.args.self.now
is_net g c = subst IsNet c.self.view_is c.self.invariant.0

pub feed-requires-clause-ready : goal.feed-requires-clause-ready
feed-requires-clause-ready g c =
    let i = (goal.at.feed-requires-clause-ready g c).After-self in
    let e = c.args.event in
    let node = node_is g ((goal.at.feed-requires-clause-ready g c).After-index_mut-node) in
    ap (λ r. is_ready g.M.Machine.has_work (Some c.index_mut-node.result.now) (input_from r e.node e.from)) (rows_are g i)
    ∙ (ap (λ s. is_ready g.M.Machine.has_work s (input_from c.args.self.now.rows e.node e.from)) (sym node) ∙ c.requires.enabled)

pub invariant_of-self-2 : goal.invariant_of-self-2
invariant_of-self-2 g c =
    let i = (goal.at.invariant_of-self-2 g c).After-self in (
      net_fed g.M.Machine.steps c.args.self.now c.args.event c.self.inside.nodes.items c.self.inside.links.rows
          c.feed.new.self.rows c.index_mut-node.result.now c.feed.new.node (ap (λ w. w.nodes) c.self.view_is) (rows_are g i)
          (node_is g ((goal.at.invariant_of-self-2 g c).After-index_mut-node)) c.in_ok-feed.ensures.fed (is_net g i),
      knows_after g.M.Machine.has_work c.self.inside.nodes.items c.ask.new.tasks.words c.ask.new.asked c.set.new.self.words
          c.args.event.node
          c.feed.new.node c.has_task.result (node_in g i) c.has_task.ensures c.set.ensures.there c.set.ensures.others c.ask.ensures,
    )

pub returns-clause-happens : goal.returns-clause-happens
returns-clause-happens g c =
    let i = (goal.at.returns-clause-happens g c).After-self in
    fed_happens g.M.Machine.steps c.args.self.now c.args.event c.self.inside.nodes.items c.self.inside.links.rows
    c.feed.new.self.rows c.index_mut-node.result.now c.feed.new.node (ap (λ w. w.nodes) c.self.view_is) (rows_are g i)
    (node_is g ((goal.at.returns-clause-happens g c).After-index_mut-node)) c.in_ok-feed.ensures.fed

pub returns-clause-peers : goal.returns-clause-peers
returns-clause-peers g c =
    let i = (goal.at.returns-clause-peers g c).After-self in
    let nodes = c.self.inside.nodes.items in
    let k = c.args.event.node in
    let all = subst (λ w. ArePeers g.M.Machine.peer_count w) (sym c.self.view_is) c.requires.peers in
    let old = ap g.M.Machine.peer_count c.index_mut-node.ensures.value ∙ all k c.index_mut-node.result.now (node_in g i) in
    let P : ℕ → Type 0 = λ n. All (λ s. g.M.Machine.peer_count s ≡ n) (set nodes k c.feed.new.node) in
    subst P (sym (length-set nodes k c.feed.new.node))
    (All-set (λ s. g.M.Machine.peer_count s ≡ length nodes) nodes k c.feed.new.node (c.feed.ensures.same_peers ∙ old) all)
