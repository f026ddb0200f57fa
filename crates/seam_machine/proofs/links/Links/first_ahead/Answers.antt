use Rattle.std.proofs.Common.{◌∙◌, [], sym, ap, length, get_or, arith}
use Rattle.std.proofs.lemmas.List.{length-set}
use Rattle.seam_machine.specs.Nets.{link, put_all}
use Rattle.seam_machine.specs.Inside.{waits}
use Rattle.seam_machine.proofs.Ahead.{target_in, holds_one, none_lower, none_before}
use Rattle.seam_machine.proofs.links.Links.first_ahead.Goals as goal

pub returns-in-Some-From-clause-some : goal.returns-in-Some-From-clause-some
returns-in-Some-From-clause-some g c =
    let n = c.self.inside in
    let f = c.in-Some-From in
    let one = holds_one n.rows.items n.kept.busy.items n.kept.waiting.words n.sent.sender n.sent.target n.sent.ahead n.sent.out.items
    c.self.invariant.0 c.self.invariant.2 c.self.invariant.3 f.target f.from f.field-1-1 f.is-0 f.is-1 in
    let all = ap (λ w. length (link w.rows f.from f.target)) c.self.view_is in
    omega (arith, ap length one, all)

pub returns-in-Some-From-clause-within : goal.returns-in-Some-From-clause-within
returns-in-Some-From-clause-within g c =
    let n = c.self.inside in
    let out = waits n.sent.target n.sent.ahead n.sent.out.items in
    let f = c.in-Some-From in
    let there = target_in n.rows.items n.kept.busy.items n.kept.waiting.words n.sent.sender n.sent.target n.sent.ahead n.sent.out.items
    c.self.invariant.0 c.self.invariant.2 c.self.invariant.3 f.target f.from f.field-1-1 f.is-0 f.is-1 in
    let sent = length-set n.rows.items n.sent.sender (put_all (get_or n.rows.items n.sent.sender []) out) in
    let all = ap (λ w. length w.rows) c.self.view_is in
    omega (arith, there, sent, all)

pub returns-in-Some-From-clause-first : goal.returns-in-Some-From-clause-first
returns-in-Some-From-clause-first g c =
    let n = c.self.inside in
    let f = c.in-Some-From in
    λ j x lt. ap (λ w. link w.rows x j) (sym c.self.view_is)
    ∙ none_lower n.rows.items n.kept.busy.items n.kept.waiting.words n.sent.sender n.sent.target n.sent.ahead n.sent.out.items
    c.self.invariant.0 c.self.invariant.2 c.self.invariant.3 f.target f.from f.field-1-1 f.is-0 f.is-1 j x lt

pub returns-in-Some-From-clause-first_from : goal.returns-in-Some-From-clause-first_from
returns-in-Some-From-clause-first_from g c =
    let n = c.self.inside in
    let f = c.in-Some-From in
    λ x lt. ap (λ w. link w.rows x f.target) (sym c.self.view_is)
    ∙ none_before n.rows.items n.kept.busy.items n.kept.waiting.words n.sent.sender n.sent.target n.sent.ahead n.sent.out.items
    c.self.invariant.0 c.self.invariant.2 c.self.invariant.3 f.target f.from f.field-1-1 f.is-0 f.is-1 x lt
