use Rattle.std.proofs.Common.{◌≡◌, ◌≢◌, sym, ◌∙◌}
use Rattle.seam_world_rounds.specs.declared.round.Output.{Output}
use Rattle.seam_world_rounds.specs.declared.round.Output.TheVariants as output
use Rattle.seam_world_rounds.proofs.Results.{if_ok}
use Rattle.seam_world_rounds.proofs.round.take_calls.Goals as goal

sums_are_no_text : (o : Output) → o ≡ output.Rounds → o ≢ output.Sums
sums_are_no_text o is summed = let clash = sym is ∙ summed in cc

sums_are_no_trace : (o : Output) → o ≡ output.TracedRounds → o ≢ output.Sums
sums_are_no_trace o is summed = let clash = sym is ∙ summed in cc

pub returns-in_ok-count_did-in-Sums : goal.returns-in_ok-count_did-in-Sums
returns-in_ok-count_did-in-Sums g c = λ h s t w v p bounds called round. (
  λ other. absurd (other c.in-Sums.is),
  λ summed. c.in_ok-count_did-in-Sums.ensures h s t w v p bounds called round.present,
)

pub returns-in-Rounds : goal.returns-in-Rounds
returns-in-Rounds g c = if_ok c.take_text.result
    (λ taken has h s t w v p bounds called round. (
      λ other. has h s t w v p bounds called round,
      λ summed. absurd (sums_are_no_text c.args.output c.in-Rounds.is summed),
    ))
    c.take_text.ensures

pub returns-in-TracedRounds : goal.returns-in-TracedRounds
returns-in-TracedRounds g c = if_ok c.take_text-in-TracedRounds.result
    (λ taken has h s t w v p bounds called round. (
      λ other. has h s t w v p bounds called round,
      λ summed. absurd (sums_are_no_trace c.args.output c.in-TracedRounds.is summed),
    ))
    c.take_text-in-TracedRounds.ensures
