use Rattle.std.proofs.Common.{◌≡◌, ◌<◌, ◌∙◌, ap, arith, length, map, get_or, []}
use Rattle.std.proofs.lemmas.List.{length-map}
use Rattle.seam_machine.proofs.RowLemmas.{view-same, link_read, link_replaced, row_replaced}
use Rattle.seam_machine.proofs.Runs.{run_given}
use Rattle.seam_machine.proofs.rows.Row.put_all.Goals as goal
use Rattle.seam_machine.proofs.rows.Row.put_all.Goals.{After-give_all}

is_there : (g : _) (c : After-give_all g) → c.args.to < length c.self.inside.links.items
is_there g c =
    let n = ap length c.self.view_is in
    let m = length-map c.self.inside.links.items (λ q. map (λ p. p.1) q.items) in
    let fits = c.requires.fits in
    omega (arith, n, m, fits)

before : (g : _) (c : After-give_all g) → get_or c.args.self.now c.args.to [] ≡ map (λ p. p.1) c.index_mut-link.result.now.items
before g c =
    link_read c.self.inside.links.items (λ q. map (λ p. p.1) q.items) c.args.self.now c.args.to c.index_mut-link.result.now c.self.view_is
    (is_there g c) c.index_mut-link.ensures.value

pub returns-clause-empty : goal.returns-clause-empty
returns-clause-empty g c = λ yes.
    before g ((goal.at.returns-clause-empty g c).After-give_all) ∙ ap (map (λ p. p.1)) (c.give_all.ensures.empty yes)

pub returns-clause-moved : goal.returns-clause-moved
returns-clause-moved g c = λ yes.
    let given = (goal.at.returns-clause-moved g c).After-give_all in
    let e = c.give_all.ensures in
    let qs = c.self.inside.links.items in
    rw (before g given, link_replaced qs (λ q. map (λ p. p.1) q.items) c.args.to c.give_all.new.link (is_there g given))
    (run_given c.args.to (map (λ p. p.1) c.index_mut-link.result.now.items) (map (λ p. p.1) c.give_all.new.link.items) c.args.out.now.items
    c.give_all.new.self.items (e.all yes) (ap (map (λ p. p.1)) (e.empty yes)) (ap (map (λ p. p.1)) (e.given yes)) (e.none yes))

pub returns-clause-others : goal.returns-clause-others
returns-clause-others g c = λ yes.
    row_replaced c.self.inside.links.items (λ q. map (λ p. p.1) q.items) c.args.self.now c.args.to c.give_all.new.link c.self.view_is
    (is_there g ((goal.at.returns-clause-others g c).After-give_all))

pub returns-clause-err_row : goal.returns-clause-err_row
returns-clause-err_row g c = λ no.
    view-same c.self.inside.links.items (λ q. map (λ p. p.1) q.items) c.args.to c.give_all.new.link c.index_mut-link.result.now
    (ap (λ q. map (λ p. p.1) q.items) (c.give_all.ensures.same no)) c.index_mut-link.ensures.value ∙ c.self.view_is
