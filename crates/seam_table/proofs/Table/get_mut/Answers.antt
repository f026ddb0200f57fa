use Rattle.std.proofs.Common.{sym, ap, ◌∙◌, Some, inr}
use borrow.Follows.Closed.{read_of}
use Rattle.std.specs.FinMap as map
use Rattle.std.specs.Option.{option_flatten, option_copied_mut, ghost_name_of}
use Rattle.seam_table.specs.Tables.{with_item}
use Rattle.seam_table.proofs.TableLemmas.{item-slot, distinct_at, item_at, put_at, same_at}
use Rattle.seam_table.proofs.Table.get_mut.Goals as goal

pub returns-in_err-place : goal.returns-in_err-place
returns-in_err-place g c =
    let item =
    ap option_copied_mut c.from_residual.ensures
    ∙ sym (ap option_flatten c.in_err-place.ensures.none)
    ∙ sym (item-slot c.self.inside.entries.entries c.args.n c.self.invariant)
    ∙ ap (λ w. map.get w.items c.args.n) c.self.view_is in (
      ap inr c.self.view_is
          ∙ ap (λ r. read_of (ghost_name_of r) (with_item c.args.self.now c.args.n) c.args.self.now) (sym c.from_residual.ensures),
      record { writes_back = tt; item = item },
    )

pub invariant_of-self-lent : goal.invariant_of-self-lent
invariant_of-self-lent g c =
    let distinct =
    distinct_at c.self.inside.entries c.self.view_is c.self.invariant c.in_ok-place.place c.in_ok-place.ensures.there
    c.pair_mut-slot.ensures.value in
    λ _. (λ w. distinct (Some w), distinct c.pair_mut-slot.result.1.now)

pub returns : goal.returns
returns g c =
    let written =
    put_at c.self.inside.entries c.self.view_is c.self.invariant c.in_ok-place.place c.in_ok-place.ensures.there
    c.pair_mut-slot.ensures.value in
    let as_before =
    same_at c.self.inside.entries c.self.view_is c.self.invariant c.in_ok-place.place c.in_ok-place.ensures.there
    c.pair_mut-slot.ensures.value in
    let item =
    c.as_mut.ensures.value
    ∙ item_at c.self.inside.entries c.self.view_is c.self.invariant c.in_ok-place.place c.in_ok-place.ensures.there
    c.pair_mut-slot.ensures.value in
    (λ i. read_of (ghost_name_of c.as_mut.result) (λ w. written w i) (as_before i), record { writes_back = tt; item = item })
