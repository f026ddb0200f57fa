use Rattle.std.proofs.Common.{sym, ap, ◌∙◌, ◌≡◌, None, Some, option_map}
use Rattle.std.specs.FinMap as map
use Rattle.std.specs.Option.{option_flatten}
use Rattle.std.proofs.lemmas.Option.{slice_get-map}
use Rattle.seam_table.specs.Tables.{without_room}
use Rattle.seam_table.proofs.TableLemmas.{item-slot, room-absent, item_at, removed_at}
use Rattle.seam_table.proofs.Table.remove.Goals as goal

pub returns-in_err-place-clause-item : goal.returns-in_err-place-clause-item
returns-in_err-place-clause-item g c =
    c.from_residual.ensures
    ∙ sym (ap option_flatten c.in_err-place.ensures.none)
    ∙ sym (item-slot c.self.inside.entries.entries c.args.n c.self.invariant)
    ∙ ap (λ w. map.get w.items c.args.n) c.self.view_is

pub returns-in_err-place-clause-after : goal.returns-in_err-place-clause-after
returns-in_err-place-clause-after g c =
    room-absent c.self.inside.entries.entries c.args.n c.self.invariant c.in_err-place.ensures.none
    ∙ ap (λ w. without_room w c.args.n) c.self.view_is

pub unreachable-requires : goal.unreachable-requires
unreachable-requires g c =
    let none : None ≡ Some c.args.n =
    ap (option_map (λ e. e.0)) c.in_default.ensures.entry
    ∙ sym (slice_get-map (λ e. e.0) c.self.inside.entries.entries c.in_ok-place.place)
    ∙ c.in_ok-place.ensures.there in
    cc

pub returns-clause-item : goal.returns-clause-item
returns-clause-item g c =
    item_at c.self.inside.entries c.self.view_is c.self.invariant c.in_ok-place.place c.in_ok-place.ensures.there
    (sym c.in-Some.ensures.entry)

pub returns-clause-after : goal.returns-clause-after
returns-clause-after g c =
    removed_at c.self.inside.entries c.self.view_is c.self.invariant c.in_ok-place.place c.in_ok-place.ensures.there
    (sym c.in-Some.ensures.entry) c.swap_remove_index.new.self c.in-Some.ensures.unique
    c.in-Some.ensures.updates.0
