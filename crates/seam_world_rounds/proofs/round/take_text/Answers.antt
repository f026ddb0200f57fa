use Rattle.std.proofs.Common.{◌++◌, ap, ◌∙◌}
use Rattle.seam_law_transcript.specs.Playing.{data_of}
use Rattle.seam_world_text.specs.RoundParts.{calls_text}
use Rattle.seam_world_rounds.proofs.round.take_text.Goals as goal

pub returns : goal.returns
returns g c = λ h s t w v p bounds called round.
    c.in_ok-write_calls.ensures h s t w v p bounds called round
    ∙ ap (λ xs. xs ++ calls_text h.defs (data_of h s t w v p bounds)) c.new-text.ensures.items
