use Rattle.std.proofs.Common.{◌+◌, ◌-◌, ◌∙◌, sym, ap, map, length, ℕ, List}
use Rattle.std.specs.List.{range_with_len}
use Rattle.std.proofs.lemmas.List.{length-map}
use Rattle.seam_defs.specs.declared.flags.Part.TheVariants as part
use Rattle.seam_rule_rounds.specs.Prelude.{Call, tree_of, position_at, distances, place_before}
use Rattle.seam_judge_data.specs.Standings.{standing_of}
use Rattle.seam_judge_rounds.proofs.Settling.{place_decided}
use Rattle.seam_judge_rounds.proofs.places.has_place.Goals as goal

pub returns : goal.returns
returns c =
    let calls : List Call = map (λ x. x.now) c.deref.result.now in
    let calls_are = ap (map (λ x. x.now)) c.deref.ensures.value ∙ c.in_ok-order.ensures in
    let long = sym (length-map c.deref.result.now (λ x. x.now)) ∙ ap length calls_are in
    let count : ℕ = length c.as_slice-began.result.now in
    let began =
    ap length c.as_slice-began.ensures.value ∙ sym (length-map c.in_ok-former.former.items (λ x. x.now))
    ∙ ap length c.in_ok-former.ensures in
    place_decided c.args.header.now c.args.create (distances c.args.header.now.settings) c.is_place_after.result c.args.begun.tree.now
    (tree_of (standing_of c.args.begun.before.now).book) c.place_before-was.result
    (place_before (standing_of c.args.begun.before.now) c.args.create)
    c.place_of-held.result ((standing_of c.args.after.now).places c.args.create.entity) calls
    ((standing_of c.args.after.now).orders part.Cell c.args.create.entity) (length c.deref.result.now) count
    (length ((standing_of c.args.begun.before.now).orders part.Cell c.args.create.entity)) c.requires.tree
    c.place_before-was.ensures.value c.place_of-held.ensures calls_are long began
    (c.is_place_after.ensures (position_at c.args.header.now c.args.create calls count)
    (map (position_at c.args.header.now c.args.create calls)
    (range_with_len (count + 1) (length c.deref.result.now - count)))
    (c.deref-2.ensures.value ∙ c.in_ok-path.ensures))
