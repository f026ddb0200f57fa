use Rattle.std.proofs.Common.{◌≡◌, ◌<◌, ◌∙◌, ℕ, Some, None, false, ap, sym, length, get_or, arith, []}
use Rattle.std.proofs.lemmas.List.{length-set}
use Rattle.std.proofs.lemmas.Option.{IfSome_then}
use Rattle.std.specs.Prelude.{Option, IfSome, IfNone}
use Rattle.seam_machine.specs.Nets.{link, put_all}
use Rattle.seam_machine.specs.Inside.{is_marked, waits}
use Rattle.seam_machine.proofs.Digits.{marked_some, marked_within, marked_none}
use Rattle.seam_machine.proofs.LinkLemmas.{idle, idle_back, none_sent}
use Rattle.seam_machine.proofs.links.Links.first_busy.Goals as goal
use Rattle.seam_machine.proofs.links.Links.first_busy.Goals.{After-first}

both_then : {P Q R : ℕ → Type 0} (o : Option ℕ) → IfSome o P → IfSome o Q → ((k : ℕ) → P k → Q k → R k) → IfSome o R
both_then None p q f = p
both_then (Some k) p q f = f k p q

none_then : {P Q : Type 0} (o : Option ℕ) → IfNone o P → (P → Q) → IfNone o Q
none_then None p f = f p
none_then (Some k) p f = p

many : (g : _) (c : After-first g) → length c.args.self.now.rows ≡ length c.self.inside.kept.busy.items
many g c =
    let n = c.self.inside in
    let out = waits n.sent.target n.sent.ahead n.sent.out.items in
    let sent = length-set n.rows.items n.sent.sender (put_all (get_or n.rows.items n.sent.sender []) out) in
    let rows = ap (λ w. length w.rows) c.self.view_is in
    omega (arith, sent, rows, c.self.invariant.0.busy_len)

empty_there : (g : _) (c : After-first g) (k a : ℕ) → k < length c.args.self.now.rows → is_marked c.self.inside.kept.waiting.words k
    ≡ false →
    link c.args.self.now.rows a k ≡ []
empty_there g c k a lt gone =
    let n = c.self.inside in
    let out = waits n.sent.target n.sent.ahead n.sent.out.items in
    ap (λ w. link w.rows a k) (sym c.self.view_is)
    ∙ idle n.rows.items n.kept.busy.items n.sent.sender out c.self.invariant.0 k (omega (arith, lt, many g c))
    (marked_none n.kept.waiting.words n.kept.busy.items c.self.invariant.2 k gone)
    (none_sent k out (ap (λ l. l.clear) c.self.view_is ∙ c.requires.clear)) a

pub returns-clause-within : goal.returns-clause-within
returns-clause-within g c =
    let n = c.self.inside in
    IfSome_then c.first.result c.first.ensures.some
    (λ k there. let within = marked_within n.kept.waiting.words n.kept.busy.items c.self.invariant.2 k there in
    omega (arith, within, many g c))

pub returns-clause-first : goal.returns-clause-first
returns-clause-first g c =
    let n = c.self.inside in
    let w = n.kept.waiting.words in
    both_then c.first.result c.first.ensures.some c.first.ensures.first (λ k there before j a lt.
    let within = marked_within w n.kept.busy.items c.self.invariant.2 k there in
    empty_there g c j a (omega (arith, lt, within, many g c)) (before j lt))

pub returns-clause-none : goal.returns-clause-none
returns-clause-none g c = none_then c.first.result c.first.ensures.none (λ none k a lt. empty_there g c k a lt (none k))

pub returns-clause-busy : goal.returns-clause-busy
returns-clause-busy g c =
    let n = c.self.inside in
    let out = waits n.sent.target n.sent.ahead n.sent.out.items in
    IfSome_then c.first.result c.first.ensures.some (λ k there none.
    let w = n.kept.waiting.words in
    let busy = n.kept.busy.items in
    let some = marked_some w busy c.self.invariant.2 k there in
    let within = marked_within w busy c.self.invariant.2 k there in
    let zero = (idle_back n.rows.items busy n.sent.sender out c.self.invariant.0 k within
    (λ a. ap (λ w. link w.rows a k) c.self.view_is ∙ none a)).0 in
    omega (arith, some, zero))
