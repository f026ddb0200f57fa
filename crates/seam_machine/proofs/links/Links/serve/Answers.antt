use Rattle.std.proofs.Common.{◌≡◌, ◌<◌, ◌-◌, ◌∙◌, sym, ap, length, get_or, set, refl, arith, [], None}
use Rattle.std.proofs.lemmas.List.{length-set, get_or-set_same}
use Rattle.seam_machine.specs.Inside.{waits}
use Rattle.seam_machine.specs.Nets.{link, letter, row_less}
use Rattle.seam_machine.proofs.Ahead.{no_target, none_ahead}
use Rattle.seam_machine.proofs.LinkLemmas.{empty_is, clear_rows, counted_some, filled_none, sends_in, takes_in, links_served, below_none}
use Rattle.seam_machine.proofs.LinkLemmas.{below_peers, read_row, served_rows}
use Rattle.seam_machine.proofs.Starts.{starts_served}
use Rattle.seam_machine.proofs.links.Links.serve.Goals as goal
use Rattle.seam_machine.proofs.links.Links.serve.Goals.{After-index_mut-row, In-Ok}

none_waits : (g : _) (c : After-index_mut-row g) →
    waits c.self.inside.sent.target c.self.inside.sent.ahead c.self.inside.sent.out.items ≡ []
none_waits g c =
    let s = c.self.inside.sent in
    empty_is (waits s.target s.ahead s.out.items) (ap (λ l. l.clear) c.self.view_is ∙ c.requires.clear)

nobody_ahead : (g : _) (c : After-index_mut-row g) → c.self.inside.sent.target ≡ None
nobody_ahead g c =
    let s = c.self.inside.sent in
    no_target s.target s.ahead s.sender s.out.items c.self.inside.kept.waiting.words c.self.invariant.3 (none_waits g c)

no_others : (g : _) (c : After-index_mut-row g) → c.self.inside.sent.out.items ≡ []
no_others g c =
    let s = c.self.inside.sent in
    ap (λ t. waits t s.ahead s.out.items) (sym (nobody_ahead g c)) ∙ none_waits g c

all_there : (g : _) (c : After-index_mut-row g) → c.args.self.now.rows ≡ c.self.inside.rows.items
all_there g c =
    let s = c.self.inside.sent in
    sym (ap (λ l. l.rows) c.self.view_is)
    ∙ clear_rows c.self.inside.rows.items s.sender (waits s.target s.ahead s.out.items)
    (ap (λ l. l.clear) c.self.view_is ∙ c.requires.clear)

holds : (g : _) (c : After-index_mut-row g) → 0 < length (link c.self.inside.rows.items c.args.from c.args.to)
holds g c =
    let h = c.requires.holds in
    let one = ap (λ r. length (link r c.args.from c.args.to)) (all_there g c) in
    omega (arith, h, one)

row_is : (g : _) (c : After-index_mut-row g) → c.index_mut-row.result.now ≡ get_or c.self.inside.rows.items c.args.from []
row_is g c = read_row c.self.inside.rows.items c.args.from c.args.to c.index_mut-row.result.now (holds g c) c.index_mut-row.ensures.value

row_holds : (g : _) (c : After-index_mut-row g) → 0 < length (get_or c.index_mut-row.result.now c.args.to [])
row_holds g c = let h = holds g c in let e = ap (λ r. length (get_or r c.args.to [])) (row_is g c) in omega (arith, h, e)

pub lower-requires-clause-some : goal.lower-requires-clause-some
lower-requires-clause-some g c =
    let n = c.self.inside in
    let out = waits n.sent.target n.sent.ahead n.sent.out.items in
    let i = (goal.at.lower-requires-clause-some g c).After-index_mut-row in
    counted_some n.rows.items n.kept.busy.items n.sent.sender out c.self.invariant.0 c.args.from c.args.to c.index_mut-row.result.now
    (row_is g i) (row_holds g i)

from_in : (g : _) (c : After-index_mut-row g) → c.args.from < length c.self.inside.rows.items
from_in g c =
    let n = c.self.inside in
    let out = waits n.sent.target n.sent.ahead n.sent.out.items in
    sends_in n.rows.items n.kept.busy.items n.sent.sender out c.self.invariant.0 c.args.from c.args.to c.index_mut-row.result.now
    (row_is g c) (row_holds g c)

to_in : (g : _) (c : After-index_mut-row g) → c.args.to < length c.self.inside.rows.items
to_in g c =
    let n = c.self.inside in
    let out = waits n.sent.target n.sent.ahead n.sent.out.items in
    takes_in n.rows.items n.kept.busy.items n.sent.sender out c.self.invariant.0 c.args.from c.args.to c.index_mut-row.result.now
    (row_is g c) (row_holds g c)

less_is : (g : _) (c : In-Ok g) → c.serve.new.self ≡ row_less (get_or c.self.inside.rows.items c.args.from []) c.args.to
less_is g c = c.in-Ok.ensures.served.row_is ∙ ap (λ r. row_less r c.args.to) (row_is g ((goal.at.In-Ok g c).After-index_mut-row))

pub lower-requires-clause-starts : goal.lower-requires-clause-starts
lower-requires-clause-starts g c =
    let n = c.self.inside in
    let i = (goal.at.lower-requires-clause-starts g c).After-index_mut-row in
    starts_served n.rows.items c.args.from c.args.to c.serve.new.self (less_is g ((goal.at.lower-requires-clause-starts g c).In-Ok))
    (from_in g i) n.kept.starts.items c.self.invariant.1

pub lower-requires-clause-none : goal.lower-requires-clause-none
lower-requires-clause-none g c = λ none.
    let n = c.self.inside in
    let out = waits n.sent.target n.sent.ahead n.sent.out.items in
    let i = (goal.at.lower-requires-clause-none g c).After-index_mut-row in
    let to = to_in g i in
    let busy = n.kept.busy.items in
    let count = get_or busy c.args.to 0 - (1 - c.link_len-left.result) in
    let links =
    links_served n.rows.items busy n.sent.sender out c.self.invariant.0 c.args.from c.args.to c.index_mut-row.result.now
    (row_is g i) (row_holds g i) c.serve.new.self (set busy c.args.to count) c.link_len-left.result [] c.in-Ok.ensures.served.row_is
    c.link_len-left.ensures refl (below_none (length n.rows.items) [] refl) in
    let many = length-set n.rows.items c.args.from c.serve.new.self in
    let at = get_or-set_same busy c.args.to count 0 (omega (arith, to, c.self.invariant.0.busy_len)) in
    filled_none c.args.to (set n.rows.items c.args.from c.serve.new.self)
    (sym (links.busy_is c.args.to (omega (arith, to, many))) ∙ (at ∙ none))

pub invariant_of-self-2 : goal.invariant_of-self-2
invariant_of-self-2 g c =
    let n = c.self.inside in
    let out = waits n.sent.target n.sent.ahead n.sent.out.items in
    let i = (goal.at.invariant_of-self-2 g c).After-index_mut-row in
    let s = c.in-Ok.ensures.served in
    let rows = ap length (all_there g i) in
    let peers = g.M.Machine.peer_count c.args.node.now in
    let busy = n.kept.busy.items in
    let below =
    below_peers (length n.rows.items) peers c.serve.new.out.items (c.requires.peers ∙ rows)
    (c.serve.ensures.to_peers (below_none peers n.sent.out.items (no_others g i))) in (
      (rw (nobody_ahead g i) (links_served n.rows.items busy n.sent.sender out c.self.invariant.0 c.args.from c.args.to
          c.index_mut-row.result.now (row_is g i) (row_holds g i) c.serve.new.self c.lower.new.kept.busy.items c.link_len-left.result
          c.serve.new.out.items s.row_is c.link_len-left.ensures c.lower.ensures.busy below)),
      c.lower.ensures.starts,
      c.lower.ensures.waiting,
      none_ahead n.sent.target n.sent.ahead c.args.to c.serve.new.out.items c.lower.new.kept.waiting.words (nobody_ahead g i),
    )

pub returns-clause-fed : goal.returns-clause-fed
returns-clause-fed g c =
    let i = (goal.at.returns-clause-fed g c).After-index_mut-row in
    let s = c.in-Ok.ensures.served in
    record {
      input = s.input;
      is_fed =
          ap (λ r. letter c.args.from (get_or r c.args.to [])) (ap (λ r. get_or r c.args.from []) (all_there g i) ∙ sym (row_is g i))
          ∙ s.is_fed;
      state_is = s.state_is;
      rows_is =
          c.send.ensures ∙ rw (nobody_ahead g i) (served_rows c.self.inside.rows.items c.args.self.now.rows c.args.from c.args.to
          c.index_mut-row.result.now c.serve.new.self c.serve.new.out.items c.self.inside.sent.out.items
          (g.M.Machine.steps c.args.node.now s.input).sent (all_there g i) (row_is g i) s.row_is s.out_is (no_others g i));
    }
