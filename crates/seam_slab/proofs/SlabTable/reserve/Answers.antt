use Rattle.std.proofs.Common.{rules, ◌≡◌, false, cond, nat_eq, None, Some, sym, ap, ◌∙◌, is_some}
use Rattle.std.specs.Prelude.{unwrap_or}
use Rattle.std.specs.Map.{lookup}
use Rattle.std.specs.FinSet as set
use Rattle.std.proofs.lemmas.Cmp.{nat_eq_equiv}
use Rattle.seam_table.specs.Entries.{table_of}
use Rattle.seam_table.proofs.TableLemmas.{room-slot, room-written, items-made}
use Rattle.seam_slab.specs.Slotted.{slotted}
use Rattle.seam_slab.proofs.Slots.{room_of, distinct_slotted}
use Rattle.seam_slab.proofs.SlabTable.reserve.Goals as goal

pub returns-in_err-make_entry-clause-same : goal.returns-in_err-make_entry-clause-same
returns-in_err-make_entry-clause-same g c =
    ap (λ l. (table_of l).items) c.in_err-make_entry.ensures.err ∙ ap (λ w. w.items) c.self.view_is

pub returns-in_err-make_entry-clause-err : goal.returns-in_err-make_entry-clause-err
returns-in_err-make_entry-clause-err g c =
    let same = ap (λ l. (table_of l).room) c.in_err-make_entry.ensures.err ∙ ap (λ w. w.room) c.self.view_is in
    search (rules, same)

pub returns-in_err-make_entry-clause-err_only_first : goal.returns-in_err-make_entry-clause-err_only_first
returns-in_err-make_entry-clause-err_only_first g c =
    let first : set.contains c.args.self.now.room c.args.n ≡ false =
    sym (room_of c.self.inside.slots c.self.inside.keys.entries c.self.view_is c.args.n)
    ∙ ap is_some c.in_err-make_entry.ensures.absent in
    search (rules, first)

pub returns-clause-same : goal.returns-clause-same
returns-clause-same g c =
    let s = c.self.inside.slots in
    let es = c.self.inside.keys.entries in
    let t = c.make_entry.new.slots in
    let fs = c.make_entry.new.keys.entries in
    items-made (slotted s es) (slotted t fs) (distinct_slotted s es c.self.invariant.distinct)
    (distinct_slotted t fs c.make_entry.ensures.slotted.distinct) c.args.n c.in_ok-make_entry.ensures.ok
    ∙ ap (λ w. w.items) c.self.view_is

pub returns-clause-room : goal.returns-clause-room
returns-clause-room g c =
    room-written (slotted c.self.inside.slots c.self.inside.keys.entries)
    (slotted c.make_entry.new.slots c.make_entry.new.keys.entries) c.args.n _ c.in_ok-make_entry.ensures.ok
    ∙ ap (λ w. set.insert w.room c.args.n) c.self.view_is

pub returns-clause-there : goal.returns-clause-there
returns-clause-there g c =
    let old = slotted c.self.inside.slots c.self.inside.keys.entries in
    room-slot (slotted c.make_entry.new.slots c.make_entry.new.keys.entries) c.args.n
    ∙ (ap is_some (c.in_ok-make_entry.ensures.ok c.args.n)
    ∙ ap (λ b. is_some (cond b (Some (unwrap_or (lookup (nat_eq c.args.n) old) None)) (lookup (nat_eq c.args.n) old)))
    (nat_eq_equiv.refl c.args.n))
