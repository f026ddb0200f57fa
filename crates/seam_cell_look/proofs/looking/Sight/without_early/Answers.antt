use Rattle.std.proofs.Common.{[], ◌∷◌, ◌++◌, cond, not, take, get_or, ap, sym, map, ◌∙◌}
use Rattle.std.specs.List.{filter}
use Rattle.std.proofs.lemmas.List.{take_all}
use Rattle.std.proofs.lemmas.List.Elements.{filter_more}
use Rattle.seam_view.specs.declared.Look.{Look}
use Rattle.seam_view.specs.declared.Look.TheVariants.{Leave}
use Rattle.seam_node_steps.specs.Prelude.{seen_as, CellView, known_to}
use Rattle.seam_cell_parts.specs.Kept.{here_in}
use Rattle.seam_cell_look.specs.Looking.{seeing}
use Rattle.seam_cell_look.specs.Near.{is_early}
use Rattle.seam_cell_look.proofs.looking.Sight.without_early.Goals as goal

pub loop-look-preserved : goal.loop-look-preserved
loop-look-preserved c = λ k.
    let d : CellView = seeing k (here_in c.args.self.now.known.now) c.args.self.now.reals.now.items c.args.self.now.copies.now.ghosts in
    let early = is_early c.args.view.now.core (map seen_as (known_to d c.args.self.now.own)) in
    let i = c.loop-look.look-index in
    let look : Look = get_or c.args.looks.now i (Leave 0) in
    c.in_ok-keep.ensures
    ∙ (ap (λ l. l ++ cond (not c.is_early.result) (look ∷ []) []) (c.loop-look.invariant k)
    ∙ ((λ j. filter (λ x. not (early x)) (take i c.args.looks.now) ++ cond (not (c.is_early.ensures k j)) (look ∷ []) [])
    ∙ sym (filter_more (λ x. not (early x)) c.args.looks.now i (Leave 0) c.loop-look-test.true)))

pub returns : goal.returns
returns c = λ k.
    let d : CellView = seeing k (here_in c.args.self.now.known.now) c.args.self.now.reals.now.items c.args.self.now.copies.now.ghosts in
    c.loop-look.invariant k
    ∙ ap (filter (λ x. not (is_early c.args.view.now.core (map seen_as (known_to d c.args.self.now.own)) x)))
    (take_all c.loop-look.look-index c.args.looks.now c.loop-look-test.false)
