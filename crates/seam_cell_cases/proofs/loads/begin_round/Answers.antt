use Rattle.std.proofs.Common.{refl, sym, ap, subst, ◌∙◌}
use Rattle.std.specs.List.Sorted.{IsStrictlySortedBy}
use Rattle.std.specs.Ordering.{nat_cmp}
use Rattle.std.specs.FinMap as table
use Rattle.seam_node_steps.specs.Prelude.{real_begins, real_is_ready, has_witness}
use Rattle.seam_cell_parts.specs.Kept.{marked}
use Rattle.seam_cell_cases.proofs.RoundLemmas.{marks_stay, keys_rise}
use Rattle.seam_cell_cases.proofs.loads.begin_round.Goals as goal

pub of-requires : goal.of-requires
of-requires c =
    let m = c.args.reals.now.items.items in
    subst (IsStrictlySortedBy nat_cmp) (sym c.in_ok-all.ensures) (keys_rise (table.entries m) (table.entries_sorted m))

pub returns-clause-kept : goal.returns-clause-kept
returns-clause-kept c =
    let m = c.args.reals.now.items.items in
    let begun = sym (ap (λ w. w.items) c.start_round.ensures) in
    record {
      ready = c.requires.ready ∙ sym (marks_stay real_begins real_is_ready (λ p. refl) m) ∙ ap (marked real_is_ready) begun;
      witnesses = c.requires.witnesses ∙ sym (marks_stay real_begins has_witness (λ p. refl) m) ∙ ap (marked has_witness) begun;
    }
