use Rattle.std.proofs.Common.{ap, sym, subst, ◌∙◌}
use Rattle.seam_node_steps.specs.Prelude.{IsTree}
use Rattle.seam_cell.proofs.LoadLemmas.{round_whole}
use Rattle.seam_cell_told.proofs.ToldAgain.{none_told}
use Rattle.seam_cell.proofs.cell.Cell.start_round.Goals as goal

pub invariant_of-self-2 : goal.invariant_of-self-2
invariant_of-self-2 c =
    let old = c.self.inside in
    let new = c.begin_round.new in (
      round_whole old.known c.in_ok-bounds.bounds old.reals new.reals old.remotes
          (record { nexts = c.new.result; copies = c.forget_dropped.new.self })
          old.lists
          (record { survey = new.survey; looks = old.lists.looks }) c.self.invariant.0 c.begin_round.ensures.kept
          (subst IsTree (sym (ap (λ b. b.tree) c.in_ok-bounds.ensures)) c.size.ensures.tree)
          (ap (λ b. b.tree.size) c.in_ok-bounds.ensures ∙ (c.requires ∙ ap (λ v. v.here.settings.size)
          (sym c.self.view_is))) c.in_ok-begin_round.ensures.reals
          (ap (λ w. w.items) c.new.ensures),
      none_told _ c.clear.new.self c.clear.ensures,
    )
