use Rattle.std.proofs.Common.{rules, ◌≡◌, false, sym, ap, ◌∙◌, is_some}
use Rattle.std.specs.FinSet as set
use Rattle.seam_table.proofs.TableLemmas.{items-made, room-written, room-slot}
use Rattle.seam_table.proofs.Table.reserve.Goals as goal

pub returns-in_err-make_entry-clause-err_only_first : goal.returns-in_err-make_entry-clause-err_only_first
returns-in_err-make_entry-clause-err_only_first g c =
    let first : set.contains c.args.self.now.room c.args.n ≡ false =
    ap (λ w. set.contains w.room c.args.n) (sym c.self.view_is)
    ∙ (room-slot c.self.inside.entries.entries c.args.n ∙ ap is_some c.in_err-make_entry.ensures.absent) in
    search (rules, first)

pub returns-clause-same : goal.returns-clause-same
returns-clause-same g c =
    items-made c.self.inside.entries.entries c.make_entry.new.entries.entries c.self.invariant
    (c.make_entry.ensures.unique c.self.invariant) c.args.n c.in_ok-make_entry.ensures.ok.0
    ∙ ap (λ w. w.items) c.self.view_is

pub returns-clause-room : goal.returns-clause-room
returns-clause-room g c =
    room-written c.self.inside.entries.entries c.make_entry.new.entries.entries c.args.n _ c.in_ok-make_entry.ensures.ok.0
    ∙ ap (λ w. set.insert w.room c.args.n) c.self.view_is

pub returns-clause-there : goal.returns-clause-there
returns-clause-there g c =
    room-slot c.make_entry.new.entries.entries c.args.n ∙ ap is_some c.in_ok-make_entry.ensures.ok.1
