use Rattle.std.proofs.Common.{◌++◌, sym, ap, ◌∙◌}
use Rattle.std.specs.FinMap as table
use Rattle.seam_cell_cases.specs.Arriving.{arrives}
use Rattle.seam_cell.proofs.LoadLemmas.{comes_newer, newer_fits, newer_is, put_back}
use Rattle.seam_cell.proofs.cell.Cell.hear_newer.Goals as goal

pub exchange-old-requires : goal.exchange-old-requires
exchange-old-requires c = ap (λ b. b.tree.size) c.in-Ok.ensures ∙ newer_fits c.args.self.now c.args.bounds.now c.requires

pub returns-in-Ok-take_in-clause-state : goal.returns-in-Ok-take_in-clause-state
returns-in-Ok-take_in-clause-state c from =
    let now = c.args.self.now in
    let b = c.args.bounds.now in
    let is = newer_is now c.exchange-old.new.self b c.in-Ok.more c.in-Ok-all_queued.all c.exchange-old.ensures.after c.in-Ok.ensures
    (c.in-Ok-all_queued.ensures ∙ ap (λ d. table.keys d.reals) c.self.view_is) in
    c.in-Ok-take_in.ensures.state
    ∙ (ap (λ v. (arrives v c.args.parcel).state) is
    ∙ sym (ap (λ t. t.state) (comes_newer now from c.args.parcel b c.requires)))

pub returns-in-Ok-take_in-clause-sent : goal.returns-in-Ok-take_in-clause-sent
returns-in-Ok-take_in-clause-sent c from =
    let now = c.args.self.now in
    let b = c.args.bounds.now in
    let is = newer_is now c.exchange-old.new.self b c.in-Ok.more c.in-Ok-all_queued.all c.exchange-old.ensures.after c.in-Ok.ensures
    (c.in-Ok-all_queued.ensures ∙ ap (λ d. table.keys d.reals) c.self.view_is) in
    c.in-Ok-take_in.ensures.sent
    ∙ (ap (λ v. c.args.out.now.items ++ (arrives v c.args.parcel).sent) is
    ∙ sym (ap (λ t. c.args.out.now.items ++ t.sent) (comes_newer now from c.args.parcel b c.requires)))

pub exchange-requires : goal.exchange-requires
exchange-requires c =
    c.exchange-old.ensures.size ∙ ap (λ v. v.here.settings.size) (sym (c.in-Err.ensures.err ∙ c.exchange-old.ensures.after))

pub returns-in-Err-clause-err : goal.returns-in-Err-clause-err
returns-in-Err-clause-err c =
    c.exchange.ensures.after
    ∙ put_back c.args.self.now c.take_in.new.self c.in-Ok.more c.exchange-old.result.0 c.in-Ok-all_queued.all c.exchange-old.result.1
    (c.in-Err.ensures.err ∙ c.exchange-old.ensures.after) c.exchange-old.ensures.bounds c.exchange-old.ensures.survey
