use Rattle.std.proofs.Common.{◌≡◌, ◌<◌, ◌∙◌, ap, arith, length, map}
use Rattle.std.proofs.lemmas.List.{length-map}
use Rattle.seam_machine.proofs.RowLemmas.{view-same, link_read, link_replaced, row_replaced}
use Rattle.seam_machine.proofs.rows.Row.put_run.Goals as goal
use Rattle.seam_machine.proofs.rows.Row.put_run.Goals.{After-index_mut-link}

-- what is left of a try to put all: nothing was put
same_row : (g : _) (c : After-index_mut-link g) → map (λ q. map (λ p. p.1) q.items) c.self.inside.links.items ≡ c.args.self.now
same_row g c = c.self.view_is ∙ c.put_all.ensures.err_row c.if-put_all.false

is_there : (g : _) (c : After-index_mut-link g) → c.args.to < length c.self.inside.links.items
is_there g c =
    let n = ap length (same_row g c) in
    let m = length-map c.self.inside.links.items (λ q. map (λ p. p.1) q.items) in
    let fits = c.requires.fits in
    omega (arith, n, m, fits)

pub returns-in-Err-clause-err_row : goal.returns-in-Err-clause-err_row
returns-in-Err-clause-err_row g c =
    view-same c.self.inside.links.items (λ q. map (λ p. p.1) q.items) c.args.to c.reserve.new.self c.index_mut-link.result.now
    (ap (map (λ p. p.1)) c.reserve.ensures.items) c.index_mut-link.ensures.value
    ∙ same_row g ((goal.at.returns-in-Err-clause-err_row g c).After-index_mut-link)

pub returns-clause-others : goal.returns-clause-others
returns-clause-others g c =
    let i = (goal.at.returns-clause-others g c).After-index_mut-link in
    row_replaced c.self.inside.links.items (λ q. map (λ p. p.1) q.items) c.args.self.now c.args.to c.move_run.new.link (same_row g i)
    (is_there g i)

pub returns-clause-moved : goal.returns-clause-moved
returns-clause-moved g c =
    let i = (goal.at.returns-clause-moved g c).After-index_mut-link in
    let qs = c.self.inside.links.items in
    let lt = is_there g i in
    let before =
    link_read qs (λ q. map (λ p. p.1) q.items) c.args.self.now c.args.to c.index_mut-link.result.now (same_row g i) lt
    c.index_mut-link.ensures.value in
    let after = link_replaced qs (λ q. map (λ p. p.1) q.items) c.args.to c.move_run.new.link lt in
    rw (before, ← c.reserve.ensures.items, ← c.put_all.ensures.err_out c.if-put_all.false, after) c.move_run.ensures.moved
