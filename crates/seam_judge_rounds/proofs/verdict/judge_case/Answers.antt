use Rattle.std.proofs.Common.{◌≡◌, ◌∙◌, ap, map, List, [], ◌∷◌}
use Rattle.std.specs.List.{All, flat_map}
use Rattle.seam_defs.specs.declared.flags.Part.TheVariants as part
use Rattle.seam_rule_rounds.specs.Prelude.{Create, tree_of, DoneLine, HomeLine, BaseLine, ExtendsOrders, Standing, HasPlace, GhostLine}
use Rattle.seam_rule_rounds.specs.Prelude.{RoundData, HasLooked, home_line, base_line, ghost_lines}
use Rattle.seam_judge_data.specs.Standings.{standing_of}
use Rattle.seam_judge_rounds.specs.Points.{Holds, HasCell}
use Rattle.seam_judge_rounds.specs.declared.verdict.Point.{Point}
use Rattle.seam_judge_rounds.specs.declared.verdict.Point.TheVariants as point
use Rattle.seam_judge_rounds.proofs.AllPoints.{last_one, one_more, bounds_decided, of_lines, of_live}
use Rattle.seam_judge_rounds.proofs.verdict.judge_case.Goals as goal

pub returns : goal.returns
returns c =
    let h = c.args.case.now.header.now in
    let s = standing_of c.args.case.now.before.now in
    let r = c.args.case.now.round.now in
    let t = standing_of c.args.case.now.after.now in
    let live = c.args.live.now in
    let did = of_lines (λ (ls : List DoneLine). ExtendsOrders s.book part.Cell (s.orders part.Cell) (t.orders part.Cell) ls)
    c.deref.result.now r.did c.in_ok-did.did (c.deref.ensures.value ∙ ap (λ (x : RoundData). x.did) c.round.view_is) c.in_ok-did.ensures in
    let dob = of_lines (λ (ls : List DoneLine). ExtendsOrders s.book part.Base (s.orders part.Base) (t.orders part.Base) ls)
    c.deref-2.result.now r.dob c.in_ok-dob.dob (c.deref-2.ensures.value ∙ ap (λ (x : RoundData). x.dob) c.round.view_is) c.in_ok-dob.ensures
    in
    let places = of_live s live c.in_ok-places.places (All (HasPlace h s t)) c.requires.live c.in_ok-places.ensures in
    let cells = of_live s live c.in_ok-cells.cells (All (HasCell h s t)) c.requires.live c.in_ok-cells.ensures in
    let homes = of_live s live c.in_ok-homes.homes (λ (l : List Create). r.homes ≡ map (home_line h t) l) c.requires.live
    (of_lines (λ (ls : List HomeLine). ls ≡ map (home_line h t) live) c.deref-3.result.now r.homes c.in_ok-homes.homes
    (c.deref-3.ensures.value ∙ ap (λ (x : RoundData). x.homes) c.round.view_is) c.in_ok-homes.ensures) in
    let bases = of_live s live c.in_ok-bases.bases (λ (l : List Create). r.bases ≡ map (base_line h t) l) c.requires.live
    (of_lines (λ (ls : List BaseLine). ls ≡ map (base_line h t) live) c.deref-4.result.now r.bases c.in_ok-bases.bases
    (c.deref-4.ensures.value ∙ ap (λ (x : RoundData). x.bases) c.round.view_is) c.in_ok-bases.ensures) in
    let ghosts = of_live s live c.in_ok-ghosts.ghosts (λ (l : List Create). r.ghosts ≡ flat_map (ghost_lines h (tree_of s.book) t) l)
    c.requires.live
    (of_lines (λ (ls : List GhostLine). ls ≡ flat_map (ghost_lines h (tree_of s.book) t) live) c.deref-5.result.now r.ghosts
    c.in_ok-ghosts.ghosts (c.deref-5.ensures.value ∙ ap (λ (x : RoundData). x.ghosts) c.round.view_is) c.in_ok-ghosts.ensures) in
    let looked = of_live s live c.in_ok-looked.looked (HasLooked h s r t) c.requires.live c.in_ok-looked.ensures in
    let bounds = bounds_decided h s r t (ap (λ (x : Standing). x.book) c.requires.after) c.in_ok-bounds.bounds c.in_ok-bounds.ensures in
    let H : Point → Type 0 = Holds h s r t in
    let from_bounds = last_one H point.Bounds c.in_ok-bounds.bounds c.unless-from_bounds.result bounds c.unless-from_bounds.ensures in
    let from_looked = one_more H point.Looked (point.Bounds ∷ []) c.in_ok-looked.looked c.unless-from_looked.result
    c.unless-from_bounds.result from_bounds looked c.unless-from_looked.ensures in
    let from_shown = one_more H point.Shown (point.Looked ∷ point.Bounds ∷ []) c.in_ok-shown.shown c.unless-from_shown.result
    c.unless-from_looked.result from_looked c.in_ok-shown.ensures c.unless-from_shown.ensures in
    let after_ghosts : List Point = point.Shown ∷ point.Looked ∷ point.Bounds ∷ [] in
    let from_ghosts = one_more H point.Ghosts after_ghosts c.in_ok-ghosts.ghosts c.unless-from_ghosts.result c.unless-from_shown.result
    from_shown ghosts c.unless-from_ghosts.ensures in
    let from_places = one_more H point.Places (point.Ghosts ∷ after_ghosts) c.in_ok-places.places c.unless-from_places.result
    c.unless-from_ghosts.result from_ghosts places c.unless-from_places.ensures in
    let after_bases : List Point = point.Places ∷ point.Ghosts ∷ after_ghosts in
    let from_bases = one_more H point.Bases after_bases c.in_ok-bases.bases c.unless-from_bases.result c.unless-from_places.result
    from_places bases c.unless-from_bases.ensures in
    let from_cells = one_more H point.Cells (point.Bases ∷ after_bases) c.in_ok-cells.cells c.unless-from_cells.result
    c.unless-from_bases.result from_bases cells c.unless-from_cells.ensures in
    let after_homes : List Point = point.Cells ∷ point.Bases ∷ after_bases in
    let from_homes = one_more H point.Homes after_homes c.in_ok-homes.homes c.unless-from_homes.result c.unless-from_cells.result
    from_cells homes c.unless-from_homes.ensures in
    let from_dob = one_more H point.Dob (point.Homes ∷ after_homes) c.in_ok-dob.dob c.unless-from_dob.result c.unless-from_homes.result
    from_homes dob c.unless-from_dob.ensures in
    one_more H point.Did (point.Dob ∷ point.Homes ∷ after_homes) c.in_ok-did.did c.unless.result c.unless-from_dob.result from_dob did
    c.unless.ensures
