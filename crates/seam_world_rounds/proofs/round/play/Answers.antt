use Rattle.std.proofs.Common.{◌≡◌, map, ap, sym, subst, ◌∙◌}
use Rattle.seam_node_steps.specs.Prelude.{Batch}
use Rattle.seam_rule_rounds.specs.Prelude.{Header as Headers, tree_of}
use Rattle.seam_law_transcript.specs.Prelude.{data_of}
use Rattle.seam_accept.specs.Batches.{batch_of}
use Rattle.seam_world_text.specs.Farewells.{AreFarewells}
use Rattle.seam_world_rounds.specs.PlayedRound.{IsBalancedBy}
use Rattle.seam_quiet.specs.RoundRuns.{MayRun}
use Rattle.seam_quiet.specs.CallPhase.{HasCalled}
use Rattle.seam_world_rounds.proofs.TextsPlayed.{played_so}
use Rattle.seam_world_rounds.proofs.round.play.Goals as goal

pub run_calls-requires-clause-may : goal.run_calls-requires-clause-may
run_calls-requires-clause-may g c κs within =
    let asked = c.requires.1.1.1.1 in (
      asked.1.1.0,
      asked.1.1.1,
      subst (λ w. MayRun asked.1.1.0 asked.1.1.1 w c.args.batch) (sym asked.0)
          (subst (MayRun asked.1.1.0 asked.1.1.1 g.from.world) (sym asked.1.0) asked.1.1.2),
    )

pub run_ends-requires : goal.run_ends-requires
run_ends-requires g c κs within =
    let asked = c.requires.1.1.1.1 in
    let called =
    subst (λ w. HasCalled w g.from.batch c.in_ok-called.called) asked.0
    (subst (λ b. HasCalled c.args.world b c.in_ok-called.called) asked.1.0 c.in_ok-called.ensures) in
    (within.0, (within.1, (c.requires.1.1.0, (c.requires.1.1.1.0, (asked.1.1, called)))))

pub returns : goal.returns
returns g c = λ h s tree beside brings header number present.
    let b = g.from.batch in
    let v = c.in_ok-ended.ended.world in
    let run = c.in_ok-ended.ensures.run in
    let made = c.entities_can_be_listed.ensures.made s.book in
    let live = c.entities_can_be_listed.ensures.live s.book in
    let p =
    played_so h s tree g.from.world v c.in_ok-called.called.world b c.in_ok-ended.ended.journal beside brings run made.0 live.0
    made.1 live.1 in
    let bounds = c.in_ok-bounds.bounds in
    let same_defs = ap (λ (k : Headers). k.defs) header in
    let is = c.requires.1.1.1.1.1.0 ∙ brings in
    let destroys : c.in_ok-called.called.destroys ≡ (batch_of h s.book).destroys =
    c.in_ok-called.ensures.destroys ∙ ap (λ (x : Batch). x.destroys) is in
    let kept =
    subst (λ u. AreFarewells h.defs s.book u c.in_ok-kept.kept) (sym p.1)
    (subst (λ ds. AreFarewells ds s.book c.in_ok-called.called.world c.in_ok-kept.kept) same_defs
    (c.in_ok-kept.ensures s.book (c.as_slice.ensures ∙ destroys) present)) in
    let taken = c.in_ok-taken.ensures h s tree g.from.world v p.0 bounds p.1
    (record { number = number; defs = same_defs; present = present }) in
    let printed = data_of h s tree g.from.world v p.0 bounds in
    let given = c.in_ok-sums.ensures h s tree g.from.world p.0
    (record { number = number; defs = same_defs; present = present }) kept taken in
    record {
      played = p.0;
      steps = p.2;
      within = p.3;
      whole = given.1;
      sums = given.0;
      bounds =
          subst (λ asked. IsBalancedBy asked (tree_of s.book) (map (λ l. l.state.pos) printed.homes) h.settings.balance_shift bounds)
          (ap (λ (x : Batch). x.balance) is)
          (subst (λ t. IsBalancedBy c.args.batch.balance t (map (λ l. l.state.pos) printed.homes) h.settings.balance_shift bounds)
          (ap (λ (x : Batch). x.tree) is)
          (subst (λ n. IsBalancedBy c.args.batch.balance c.args.batch.tree (map (λ l. l.state.pos) printed.homes) n bounds)
          (ap (λ (k : Headers). k.settings.balance_shift) header)
          (c.in_ok-bounds.ensures h s tree g.from.world p.0 present)));
      residents_ = c.end.ensures h s.book (c.as_slice-2.ensures ∙ c.in_ok-ended.ensures.destroys ∙ ap (λ (x : Batch). x.destroys) brings)
          present;
    }
