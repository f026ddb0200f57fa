use Rattle.std.proofs.Common.{◌≡◌, ◌++◌, true, map, arith}
use Rattle.seam_rule_rounds.specs.Prelude.{Create, one_look, replica_of, texts_to, base_texts}
use Rattle.seam_call.specs.declared.shown.ClientText.TheVariants as text
use Rattle.seam_judge_data.specs.Standings.{standing_of}
use Rattle.seam_judge_rounds.proofs.Agreeing.{all_more}
use Rattle.seam_judge_rounds.proofs.looked.are_shown_one_look.Goals as goal

pub loop-create-preserved : goal.loop-create-preserved
loop-create-preserved c =
    let so : c.in_ok-shown.shown ≡ true = first_of (cc, grind arith) in
    all_more (λ (x : Create). texts_to c.args.case.now.round.now x.entity ≡ base_texts c.args.case.now.round.now x.entity
    ++ map text.Shown (one_look (replica_of c.args.case.now.header.now (standing_of c.args.case.now.before.now) x.entity) x.entity
    c.args.rows.now))
    c.args.clients.now c.loop-create.create-index _ c.loop-create-test.true (c.in_ok-shown.ensures.0 so) c.loop-create.invariant
