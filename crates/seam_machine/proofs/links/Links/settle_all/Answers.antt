use Rattle.std.proofs.Common.{◌≡◌, ◌<◌, ◌∙◌, sym, ap, length, get_or, arith, [], subst}
use Rattle.std.proofs.lemmas.List.{get_or_read}
use Rattle.seam_machine.specs.Nets.{send_all}
use Rattle.seam_machine.specs.Inside.{CountsFit, IsLinks, waits}
use Rattle.seam_machine.proofs.Ahead.{none_ahead}
use Rattle.seam_machine.proofs.LinkLemmas.{sender_within, counts_fit, links_delivered, delivering}
use Rattle.seam_machine.proofs.Starts.{starts_lowered}
use Rattle.seam_machine.proofs.links.Links.settle_all.Goals as goal
use Rattle.seam_machine.proofs.links.Links.settle_all.Goals.{After-self, In_ok-rejoin, After-index_mut-row}

sender_in : (g : _) (c : After-self g) → c.self.inside.sent.sender < length c.self.inside.rows.items
sender_in g c =
    let n = c.self.inside in
    let out = waits n.sent.target n.sent.ahead n.sent.out.items in
    sender_within n.rows.items n.kept.busy.items n.sent.sender out c.self.invariant.0
    (ap (λ l. l.clear) c.self.view_is ∙ c.requires)

-- what waits is all among what goes to links
links : (g : _) (c : In_ok-rejoin g) → IsLinks c.self.inside.rows.items c.self.inside.kept.busy.items c.self.inside.sent.sender
    c.rejoin.new.self.out.items
links g c =
    let n = c.self.inside in
    subst (IsLinks n.rows.items n.kept.busy.items n.sent.sender) (sym c.in_ok-rejoin.ensures.items) c.self.invariant.0

row_is : (g : _) (c : After-index_mut-row g) → c.index_mut-row.result.now ≡ get_or c.self.inside.rows.items c.self.inside.sent.sender []
row_is g c =
    get_or_read c.self.inside.rows.items c.self.inside.sent.sender c.index_mut-row.result.now
    (sender_in g ((goal.at.After-index_mut-row g c).After-self)) c.index_mut-row.ensures.value []

pub index_mut-row-requires : goal.index_mut-row-requires
index_mut-row-requires g c =
    let h = sender_in g ((goal.at.index_mut-row-requires g c).After-self) in
    omega (arith, h, c.self.inside.rows.ok.0)

pub overflow_cast-sender : goal.overflow_cast-sender
overflow_cast-sender g c =
    let h = sender_in g ((goal.at.overflow_cast-sender g c).After-self) in
    omega (arith, h, c.self.invariant.0.few)

pub deliver-requires-clause-starts : goal.deliver-requires-clause-starts
deliver-requires-clause-starts g c =
    let lt = sender_in g ((goal.at.deliver-requires-clause-starts g c).After-self) in
    let row = row_is g ((goal.at.deliver-requires-clause-starts g c).After-index_mut-row) in
    let wide = ap length row ∙ c.self.invariant.0.square c.self.inside.sent.sender [] lt in
    omega (arith, wide, c.self.invariant.1.len)

pub deliver-requires-clause-wide : goal.deliver-requires-clause-wide
deliver-requires-clause-wide g c =
    let q = c.self.invariant.0 in
    let lt = sender_in g ((goal.at.deliver-requires-clause-wide g c).After-self) in
    let row = row_is g ((goal.at.deliver-requires-clause-wide g c).After-index_mut-row) in
    let wide = ap length row ∙ q.square c.self.inside.sent.sender [] lt in
    omega (arith, wide, q.busy_len)

pub deliver-requires-clause-fits : goal.deliver-requires-clause-fits
deliver-requires-clause-fits g c =
    let n = c.self.inside in
    let lt = sender_in g ((goal.at.deliver-requires-clause-fits g c).After-self) in
    let row = row_is g ((goal.at.deliver-requires-clause-fits g c).After-index_mut-row) in
    let q = links g ((goal.at.deliver-requires-clause-fits g c).In_ok-rejoin) in
    subst (CountsFit n.kept.busy.items) (sym row)
    (counts_fit n.rows.items n.kept.busy.items n.sent.sender c.rejoin.new.self.out.items q n.sent.sender lt)

pub invariant_of-self-2 : goal.invariant_of-self-2
invariant_of-self-2 g c =
    let lt = sender_in g ((goal.at.invariant_of-self-2 g c).After-self) in
    let q = links g ((goal.at.invariant_of-self-2 g c).In_ok-rejoin) in
    let n = c.self.inside in
    let s = c.rejoin.new.self in
    let d = c.deliver.new in
    let task = c.in_ok-rejoin.ensures.task in (
      (rw (task, c.rejoin.ensures.sender) (links_delivered n.rows.items n.kept.busy.items d.kept.busy.items n.sent.sender s.out.items
          d.out.items c.index_mut-row.result.now d.row q lt c.index_mut-row.ensures.value c.deliver.ensures.moved)),
      starts_lowered n.rows.items n.kept.starts.items d.kept.starts.items n.sent.sender d.row c.self.invariant.1 lt
          c.deliver.ensures.lowered,
      c.deliver.ensures.waiting,
      none_ahead s.target s.ahead s.sender d.out.items d.kept.waiting.words task,
    )

pub returns-clause-rows : goal.returns-clause-rows
returns-clause-rows g c =
    let lt = sender_in g ((goal.at.returns-clause-rows g c).After-self) in
    let n = c.self.inside in
    let s = c.rejoin.new.self in
    rw (c.in_ok-rejoin.ensures.task, c.rejoin.ensures.sender) (delivering n.rows.items n.sent.sender s.out.items c.deliver.new.out.items
    c.index_mut-row.result.now c.deliver.new.row lt c.index_mut-row.ensures.value c.deliver.ensures.moved.moved
    ∙ (ap (send_all n.rows.items n.sent.sender) c.in_ok-rejoin.ensures.items ∙ ap (λ w. w.rows) c.self.view_is))
