use Rattle.std.proofs.Common.{◌++◌, ap, ◌∙◌}
use Rattle.seam_law_transcript.specs.Playing.{data_of}
use Rattle.seam_world_text.specs.RoundParts.{calls_text, ends_text}
use Rattle.seam_world_rounds.specs.PlayedRound.{start_text}
use Rattle.seam_world_rounds.proofs.TextsPlayed.{text_in_order}
use Rattle.seam_world_rounds.proofs.Results.{on_ok}
use Rattle.seam_world_rounds.proofs.round.write_text.Goals as goal

pub returns : goal.returns
returns g c = on_ok c.write_ends.result
    (λ ends h s t w p round kept calls.
    let r = data_of h s t w c.args.ended.now.world p c.args.bounds.now in
    let out = c.args.out.now.items in
    let journal = c.args.ended.now.journal in
    ends h s t w p round kept ∙ ap (λ xs. xs ++ ends_text h.defs r)
    (c.in_ok-extend_from_slice.ensures.items ∙ ap (λ xs. xs ++ c.args.calls.now) c.in_ok-write_start.ensures
    ∙ ap (λ xs. (out ++ start_text c.args.traced c.args.round.now.number journal) ++ xs) calls)
    ∙ text_in_order c.args.traced h.defs r c.args.round.now.number journal out (calls_text h.defs r) (ends_text h.defs r) round.number
    (c.a_rounds_text_has_two_parts.ensures h.defs r))
    c.write_ends.ensures
