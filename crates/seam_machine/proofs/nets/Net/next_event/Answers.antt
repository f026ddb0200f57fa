use Rattle.std.proofs.Common.{◌≡◌, ◌<◌, ◌∙◌, ℕ, [], sym, ap, length, arith, subst, true, false}
use Rattle.std.specs.Prelude.{slice_get}
use Rattle.seam_machine.specs.Nets.{link, enabled}
use Rattle.seam_machine.specs.Inside.{is_marked, has_task}
use Rattle.seam_machine.proofs.Quiet.{task_first, quiet_without, sender_enabled, sender_first, task_enabled}
use Rattle.seam_machine.proofs.TaskMarks.{on_within, off_at}
use Rattle.seam_machine.proofs.nets.Net.next_event.Goals as goal
use Rattle.seam_machine.proofs.nets.Net.next_event.Goals.{After-first, In-Some-first_busy}

no_message : (g : _) (c : After-first g) → (q a : ℕ) → q < length c.args.self.now.nodes → link c.args.self.now.rows a q ≡ []
no_message g c q a lt =
    let nodes = ap (λ w. length w.nodes) c.self.view_is in
    let square = c.self.invariant.0.square.rows in
    ap (λ w. link w.rows a q) (sym c.self.view_is) ∙ c.in_default-first_busy.ensures.none q a (omega (arith, lt, nodes, square))

node_in : (g : _) (c : In-Some-first_busy g) → c.in-Some-first_busy.node < length c.args.self.now.nodes
node_in g c =
    let nodes = ap (λ w. length w.nodes) c.self.view_is in
    let square = c.self.invariant.0.square.rows in
    let within = c.in-Some-first_busy.ensures.within in
    omega (arith, within, nodes, square)

known : (g : _) (c : After-first g) → (k : ℕ) → is_marked c.self.inside.tasks.words k
    ≡ has_task g.M.Machine.has_work (slice_get c.args.self.now.nodes k)
known g c k = c.self.invariant.1 c.if-not-self.false k ∙ ap (λ w. has_task g.M.Machine.has_work (slice_get w.nodes k)) c.self.view_is

pub returns-in-Some-first_busy-clause-enabled : goal.returns-in-Some-first_busy-clause-enabled
returns-in-Some-first_busy-clause-enabled g c =
    let e = c.first_sender-from.ensures in
    subst (λ w. enabled g.M.Machine.has_work w (record { node = c.in-Some-first_busy.node; from = c.first_sender-from.result }) ≡ true)
    c.self.view_is (sender_enabled g.M.Machine.has_work (record { nodes = c.self.inside.nodes.items; rows = c.self.inside.links.rows })
    c.in-Some-first_busy.node c.first_sender-from.result
    (let lt = node_in g ((goal.at.returns-in-Some-first_busy-clause-enabled g c).In-Some-first_busy) in
    let nodes = ap (λ w. length w.nodes) c.self.view_is in omega (arith, lt, nodes))
    e.some e.none c.in-Some-first_busy.ensures.busy)

pub returns-in-Some-first_busy-clause-first : goal.returns-in-Some-first_busy-clause-first
returns-in-Some-first_busy-clause-first g c = λ d before.
    let e = c.first_sender-from.ensures in
    subst (λ w. enabled g.M.Machine.has_work w d ≡ false) c.self.view_is
    (sender_first g.M.Machine.has_work (record { nodes = c.self.inside.nodes.items; rows = c.self.inside.links.rows })
    c.in-Some-first_busy.node c.first_sender-from.result c.in-Some-first_busy.ensures.first e.first e.none c.in-Some-first_busy.ensures.busy
    d before)

pub returns-in-Some-first-clause-enabled : goal.returns-in-Some-first-clause-enabled
returns-in-Some-first-clause-enabled g c =
    let k = c.in-Some-first.node in
    task_enabled g.M.Machine.has_work c.args.self.now k
    (sym (known g ((goal.at.returns-in-Some-first-clause-enabled g c).After-first) k) ∙ c.in-Some-first.ensures.some)

pub returns-in-Some-first-clause-first : goal.returns-in-Some-first-clause-first
returns-in-Some-first-clause-first g c =
    let asked = (goal.at.returns-in-Some-first-clause-first g c).After-first in
    let words = c.self.inside.tasks.words in
    let nodes = c.args.self.now.nodes in
    let within = on_within g.M.Machine.has_work nodes words (known g asked) c.in-Some-first.node c.in-Some-first.ensures.some in
    task_first g.M.Machine.has_work c.args.self.now c.in-Some-first.node (no_message g asked)
    (λ q lt. off_at g.M.Machine.has_work nodes words (known g asked) q (omega (arith, lt, within)) (c.in-Some-first.ensures.first q lt))

pub returns-in-None-clause-none : goal.returns-in-None-clause-none
returns-in-None-clause-none g c =
    let asked = (goal.at.returns-in-None-clause-none g c).After-first in
    quiet_without g.M.Machine.has_work c.args.self.now (no_message g asked)
    (λ q lt. off_at g.M.Machine.has_work c.args.self.now.nodes c.self.inside.tasks.words (known g asked) q lt (c.in-None.ensures.none q))
