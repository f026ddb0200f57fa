use Rattle.std.proofs.Common.{◌+◌, ◌||◌, ap, sym, map, drop, ◌∙◌}
use Rattle.std.specs.List.{list_any}
use Rattle.std.proofs.lemmas.List.{drop_all}
use Rattle.seam_view.specs.declared.Look.TheVariants.{Leave}
use Rattle.seam_node_steps.specs.Prelude.{seen_as, CellView, known_to}
use Rattle.seam_cell_parts.specs.Kept.{here_in}
use Rattle.seam_cell_look.specs.Looking.{seeing}
use Rattle.seam_cell_look.specs.Near.{is_early}
use Rattle.seam_cell_look.proofs.NearLooks.{any_from}
use Rattle.seam_cell_look.proofs.looking.Sight.has_early.Goals as goal

pub loop-look-preserved : goal.loop-look-preserved
loop-look-preserved c = λ k.
    let d : CellView = seeing k (here_in c.args.self.now.known.now) c.args.self.now.reals.now.items c.args.self.now.copies.now.ghosts in
    let early = is_early c.args.view.now.core (map seen_as (known_to d c.args.self.now.own)) in
    let i = c.loop-look.look-index in
    let looks = c.args.looks.now in
    sym (any_from early looks i (Leave 0) c.loop-look-test.true
    ∙ ap (λ b. b || list_any early (drop (i + 1) looks)) (sym (c.is_early.ensures k) ∙ c.if-is_early.false))
    ∙ c.loop-look.invariant k

pub returns-then-is_early : goal.returns-then-is_early
returns-then-is_early c = λ k.
    let d : CellView = seeing k (here_in c.args.self.now.known.now) c.args.self.now.reals.now.items c.args.self.now.copies.now.ghosts in
    let early = is_early c.args.view.now.core (map seen_as (known_to d c.args.self.now.own)) in
    let i = c.loop-look.look-index in
    let looks = c.args.looks.now in
    sym (any_from early looks i (Leave 0) c.loop-look-test.true
    ∙ ap (λ b. b || list_any early (drop (i + 1) looks)) (sym (c.is_early.ensures k) ∙ c.if-is_early.true))
    ∙ c.loop-look.invariant k

pub returns : goal.returns
returns c = λ k.
    let d : CellView = seeing k (here_in c.args.self.now.known.now) c.args.self.now.reals.now.items c.args.self.now.copies.now.ghosts in
    let early = is_early c.args.view.now.core (map seen_as (known_to d c.args.self.now.own)) in
    ap (list_any early) (sym (drop_all c.loop-look.look-index c.args.looks.now c.loop-look-test.false)) ∙ c.loop-look.invariant k
