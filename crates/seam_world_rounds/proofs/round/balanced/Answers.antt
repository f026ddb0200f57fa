use Rattle.std.proofs.Common.{Some, map, refl, sym, subst, ◌∙◌}
use Rattle.seam_balance.specs.Balance.{IsBalanced}
use Rattle.seam_law_transcript.specs.Playing.{data_of}
use Rattle.seam_world_rounds.specs.PlayedRound.{IsBalancedBy}
use Rattle.seam_world_rounds.proofs.round.balanced.Goals as goal

pub returns : goal.returns
returns c = λ h s t w p present.
    let new = c.in_ok-balance.field-0 in
    let places = c.deref.ensures.value ∙ c.in_ok-places.ensures h s t w p (Some new) present in
    subst (λ asked. IsBalancedBy asked c.args.tree.now (map (λ l. l.state.pos) (data_of h s t w c.args.ended.now p (Some new)).homes)
    c.args.shift (Some new)) (sym c.if-not-asked.false) (
      new,
      refl,
      subst (λ ps. IsBalanced ps c.args.shift c.args.tree.now new) places c.in_ok-balance.ensures.balanced,
      c.in_ok-balance.ensures.tree,
      c.in_ok-balance.ensures.same_cuts,
    )
