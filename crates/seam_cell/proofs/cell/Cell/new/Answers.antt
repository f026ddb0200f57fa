use Rattle.std.proofs.Common.{ap, sym, subst, ◌∙◌}
use Rattle.seam_node_steps.specs.Prelude.{IsTree}
use Rattle.seam_cell.proofs.CellLemmas.{empty_whole}
use Rattle.seam_cell_told.proofs.ToldAgain.{none_told}
use Rattle.seam_cell.proofs.cell.Cell.new.Goals as goal

pub invariant_of-result : goal.invariant_of-result
invariant_of-result c = (
  empty_whole (record { me = c.args.me; defs = c.args.defs; settings = c.args.settings; bounds = c.in_ok-bounds.bounds })
      (record { items = c.new.result; ready = c.new-2.result; witnesses = c.new-3.result })
      (record { nexts = c.new-4.result; copies = c.new-5.result })
      (record { survey = c.new-6.result; looks = c.new-7.result })
      c.requires.me c.requires.legal (subst IsTree (sym (ap (λ b. b.tree) c.in_ok-bounds.ensures)) c.one.ensures.tree)
      (ap (λ b. b.tree.size) c.in_ok-bounds.ensures ∙ ap (λ t. t.size) c.one.ensures.whole) (ap (λ t. t.items) c.new.ensures)
      (ap (λ t. t.items) c.new-4.ensures) c.new-2.ensures c.new-3.ensures,
  none_told _ c.new-8.result c.new-8.ensures,
)
