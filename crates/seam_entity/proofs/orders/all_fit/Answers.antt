use Rattle.std.proofs.Common.{Bool, sym, ap, ◌∙◌, ◌+◌, drop, get_or}
use Rattle.std.specs.List.{list_all}
use Rattle.std.proofs.lemmas.List.{drop_more, at_drop_all}
use Rattle.seam_call.specs.declared.call.Call.{Call}
use Rattle.seam_entity.specs.Executing.{fits_cell_part}
use Rattle.seam_entity.specs.Preparing.{node_with}
use Rattle.seam_entity.proofs.FitLemmas.{one_fails}
use Rattle.seam_entity.proofs.ReadyLemmas.{entry_passes, all_pass}
use Rattle.seam_entity.proofs.orders.all_fit.Goals as goal

pub returns-then-not-holds_fitting : goal.returns-then-not-holds_fitting
returns-then-not-holds_fitting c me =
    let test : Call → Bool = fits_cell_part (node_with c.args.defs.now me c.args.settings.now) c.args.entity c.args.ty in
    let at = c.loop-entry.entry-index in
    one_fails (entry_passes test) c.args.entries.now (drop at c.args.entries.now) (drop (at + 1) c.args.entries.now)
    (get_or c.args.entries.now at c.entry-item.result) (c.loop-entry.invariant me)
    (drop_more c.args.entries.now c.loop-entry.entry-index c.entry-item.result c.loop-entry-test.true)
    (ap (entry_passes test) (sym c.entry-item.is) ∙ sym (c.holds_fitting.ensures me) ∙ c.if-not-holds_fitting.true)
    ∙ all_pass test c.args.entries.now c.requires

pub returns : goal.returns
returns c me =
    let test : Call → Bool = fits_cell_part (node_with c.args.defs.now me c.args.settings.now) c.args.entity c.args.ty in
    sym (at_drop_all (list_all (entry_passes test)) c.args.entries.now c.loop-entry.entry-index c.loop-entry-test.false)
    ∙ c.loop-entry.invariant me ∙ all_pass test c.args.entries.now c.requires
