use Rattle.std.proofs.Common.{◌≡◌, ◌+◌, ◌-◌, ◌++◌, ◌∷◌, [], ◌∙◌, sym, ap, map, arith, ℕ}
use Rattle.std.specs.List.{range_with_len}
use Rattle.std.proofs.lemmas.List.FromFn.{map-range_with_len_more}
use Rattle.seam_rule_rounds.specs.Prelude.{Pos, position_at}
use Rattle.seam_judge_expected.proofs.places.positions_past.Goals as goal

pub loop-v-preserved : goal.loop-v-preserved
loop-v-preserved c =
    let at : ℕ → Pos = position_at c.args.header.now c.args.create (map (λ x. x.now) c.args.order.now) in
    let long : c.loop-v.v + 1 - c.args.version ≡ c.loop-v.v - c.args.version + 1 = omega arith in
    let last : c.args.version + 1 + (c.loop-v.v - c.args.version) ≡ c.loop-v.v + 1 = omega arith in (
      c.in_ok-push.ensures.items
          ∙ (λ i. c.loop-v.invariant.0 i ++ c.in_ok-position_of.ensures i ∷ [])
          ∙ sym (map-range_with_len_more at (c.args.version + 1) (c.loop-v.v - c.args.version) (c.loop-v.v + 1) last)
          ∙ ap (λ (n : ℕ). map at (range_with_len (c.args.version + 1) n)) (sym long),
      (λ past. absurd (omega (arith, past))),
    )
