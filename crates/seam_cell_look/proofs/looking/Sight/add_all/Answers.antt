use Rattle.std.proofs.Common.{get_or, take, ap, sym, ◌∙◌}
use Rattle.std.specs.List.{filter_map}
use Rattle.std.proofs.lemmas.List.{take_all}
use Rattle.seam_view.specs.declared.Look.TheVariants.{Leave}
use Rattle.seam_node_steps.specs.Prelude.{shown_for, CellView, known_to}
use Rattle.seam_cell_parts.specs.Kept.{here_in}
use Rattle.seam_cell_parts.specs.News.{listed}
use Rattle.seam_cell_look.specs.Looking.{seeing}
use Rattle.seam_cell_seen.specs.Known.{known_with}
use Rattle.seam_cell_told.proofs.ToldAgain.{told_again}
use Rattle.seam_cell_look.proofs.LookLemmas.{shown_more}
use Rattle.seam_cell_told.specs.Updates.{with_shown}
use Rattle.seam_cell_told.proofs.UpdateLemmas.{shown_twice}
use Rattle.seam_cell_look.proofs.looking.Sight.add_all.Goals as goal

pub loop-look-preserved : goal.loop-look-preserved
loop-look-preserved c =
    let known = known_with (here_in c.args.self.now.known.now) c.args.self.now.reals.now.items c.args.self.now.copies.now.ghosts in (
      λ k.
          let d : CellView =
          seeing k (here_in c.args.self.now.known.now) c.args.self.now.reals.now.items c.args.self.now.copies.now.ghosts in
          let f = shown_for (known_to d c.args.self.now.own) in
          let i = c.loop-look.look-index in
          let look = get_or c.args.looks.now i (Leave 0) in
          c.in_ok-push_if.ensures
          ∙ (ap (λ o. with_shown c.loop-look.shown (listed o)) (c.in_ok-item.ensures.shown k)
          ∙ (ap (λ u. with_shown u (listed (f look))) (c.loop-look.invariant.0 k)
          ∙ (shown_twice c.args.shown.now (filter_map f (take i c.args.looks.now)) (listed (f look))
          ∙ ap (with_shown c.args.shown.now) (sym (shown_more f c.args.looks.now i (Leave 0) c.loop-look-test.true))))),
      told_again c.args.self.now.own known c.args.told.now c.loop-look.told c.shown_for.new.told c.loop-look.invariant.1
          c.shown_for.ensures.told,
    )

pub returns-clause-shown : goal.returns-clause-shown
returns-clause-shown c = λ k.
    let d : CellView = seeing k (here_in c.args.self.now.known.now) c.args.self.now.reals.now.items c.args.self.now.copies.now.ghosts in
    let f = shown_for (known_to d c.args.self.now.own) in
    c.loop-look.invariant.0 k
    ∙ ap (with_shown c.args.shown.now) (ap (filter_map f) (take_all c.loop-look.look-index c.args.looks.now c.loop-look-test.false))
