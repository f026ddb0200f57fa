use Rattle.std.proofs.Common.{◌≡◌, ◌≢◌, ◌++◌, Option, None, Some, ap, sym, subst, ◌∙◌, refl, append-nil}
use Rattle.seam_rule_rounds.specs.declared.totals.Sums.{Sums}
use Rattle.seam_law_transcript.specs.Playing.{data_of}
use Rattle.seam_world_rounds.specs.Output.{round_output, sums_if}
use Rattle.seam_world_rounds.specs.declared.round.Output.TheVariants as output
use Rattle.seam_world_rounds.proofs.round.give_round.Goals as goal

pub returns-in_ok-sum_up-in-Sums : goal.returns-in_ok-sum_up-in-Sums
returns-in_ok-sum_up-in-Sums g c = λ h s t w p round kept taken.
    let r = data_of h s t w c.args.ended.now.world p c.args.bounds.now in
    let out = c.args.out.now.items in
    let is = c.in-Sums.is in
    subst (λ o. (Some c.in_ok-sum_up-in-Sums.field-0 ≡ sums_if o r) × (out ≡ out ++ round_output o h.defs r c.args.ended.now.journal))
    (sym is) (
      ap (λ (x : Sums). Some x) (c.in_ok-sum_up-in-Sums.ensures h s t w p c.args.bounds.now round.present kept (taken.1 is)),
      sym (append-nil out),
    )

pub returns-in_ok-write_text-in-Rounds : goal.returns-in_ok-write_text-in-Rounds
returns-in_ok-write_text-in-Rounds g c = λ h s t w p round kept taken.
    let r = data_of h s t w c.args.ended.now.world p c.args.bounds.now in
    let out = c.args.out.now.items in
    let is = c.in-Rounds.is in
    let texts : c.args.output ≢ output.Sums = λ summed. let clash = sym is ∙ summed in cc in
    subst (λ o. (◌≡◌ {A = Option Sums} None (sums_if o r))
    × (c.write_text.new.out.items ≡ out ++ round_output o h.defs r c.args.ended.now.journal)) (sym is)
    (refl, c.in_ok-write_text-in-Rounds.ensures h s t w p round kept (c.deref.ensures.value ∙ taken.0 texts))

pub returns-in_ok-write_text-in-TracedRounds : goal.returns-in_ok-write_text-in-TracedRounds
returns-in_ok-write_text-in-TracedRounds g c = λ h s t w p round kept taken.
    let r = data_of h s t w c.args.ended.now.world p c.args.bounds.now in
    let out = c.args.out.now.items in
    let is = c.in-TracedRounds.is in
    let texts : c.args.output ≢ output.Sums = λ summed. let clash = sym is ∙ summed in cc in
    subst (λ o. (◌≡◌ {A = Option Sums} None (sums_if o r))
    × (c.write_text-in-TracedRounds.new.out.items ≡ out ++ round_output o h.defs r c.args.ended.now.journal)) (sym is)
    (refl, c.in_ok-write_text-in-TracedRounds.ensures h s t w p round kept (c.deref-in-TracedRounds.ensures.value ∙ taken.0 texts))
