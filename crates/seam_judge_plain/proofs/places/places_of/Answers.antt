use Rattle.std.proofs.Common.{◌≡◌, ◌∙◌, ap, map, take, List, arith}
use Rattle.std.proofs.lemmas.List.{take_all}
use Rattle.seam_call.specs.declared.create.Create.{Create}
use Rattle.seam_judge_data.specs.Standings.{place_among, standing_of}
use Rattle.seam_judge_data.specs.declared.standing.Held.{Held}
use Rattle.seam_judge_plain.proofs.Lists.{held_of, held_is}
use Rattle.seam_judge_plain.proofs.places.places_of.Goals as goal

pub returns : goal.returns
returns c = λ e.
    let h = c.args.header.now in
    let s = standing_of c.args.before.now in
    let orders = (standing_of c.args.after.now).orders in
    let live : List Create = c.args.live.now in
    let all : take c.loop-create.create-index live ≡ live =
    take_all c.loop-create.create-index live (omega (arith, c.loop-create-test.false)) in
    ap (λ (hs : List Held). place_among hs e) (c.loop-create.invariant ∙ ap (map (held_of h s orders)) all) ∙ held_is h s orders e live
