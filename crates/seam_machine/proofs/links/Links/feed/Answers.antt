use Rattle.std.proofs.Common.{◌≡◌, ◌∙◌, Some, sym, ap}
use Rattle.seam_machine.specs.Nets.{input_from, rows_after_feeding, send_all}
use Rattle.seam_machine.specs.Inside.{waits}
use Rattle.seam_machine.proofs.Ahead.{alone, is_fed, left, fed_parts}
use Rattle.seam_machine.proofs.LinkLemmas.{worked_rows}
use Rattle.seam_machine.proofs.links.Links.feed.Goals as goal

pub returns-then-is_next-clause-fed : goal.returns-then-is_next-clause-fed
returns-then-is_next-clause-fed g c =
    let n = c.self.inside in
    let s = n.sent in
    let v = c.serve.new.self in
    let node = c.args.event.node in
    let from = c.args.event.from in
    let busy = n.kept.busy.items in
    let words = n.kept.waiting.words in
    let q = c.self.invariant in
    let p = fed_parts s.target s.ahead node from (c.is_next.ensures c.if-is_next.true) in
    let e = c.in_ok-serve.ensures in
    let view = ap (λ l. l.rows) c.self.view_is in
    let none = alone n.rows.items busy words s.sender s.target s.ahead s.out.items q.0 q.2 q.3 node p.0 p.1 p.2 p.3 in
    let rest = left n.rows.items busy words s.sender s.target s.ahead s.out.items q.0 q.2 q.3 node p.0 p.1 p.2 p.3 from p.4 in
    let same : Some v.sender ≡ Some node = sym e.sender ∙ p.2 in
    let sender : v.sender ≡ node = cc in
    record {
      input = s.ahead;
      is_fed =
          ap (λ r. input_from r node from) (sym view)
          ∙ is_fed n.rows.items busy words s.sender s.target s.ahead s.out.items q.0 q.2 q.3 node p.0 p.1 p.2 p.3 from p.4;
      state_is = e.state;
      rows_is =
          c.send.ensures ∙ (ap (λ t. send_all n.rows.items v.sender (waits t v.ahead v.out.items)) e.used
          ∙ (ap (λ a. send_all n.rows.items a v.out.items) sender
          ∙ worked_rows n.rows.items (rows_after_feeding c.args.self.now.rows node from) node v.out.items s.out.items
          (g.M.Machine.steps c.args.node.now s.ahead).sent (ap (λ r. rows_after_feeding r node from) (sym view) ∙ rest) e.sent none));
    }
