use Rattle.std.proofs.Common.{◌≡◌, [], true, arith}
use Rattle.seam_rule_rounds.specs.Prelude.{Create, one_look, replica_of}
use Rattle.seam_judge_data.specs.Standings.{standing_of}
use Rattle.seam_judge_rounds.proofs.Agreeing.{all_more}
use Rattle.seam_judge_rounds.proofs.looked.show_nothing.Goals as goal

pub loop-create-preserved : goal.loop-create-preserved
loop-create-preserved c =
    let so : c.in_ok-nothing.nothing ≡ true = first_of (cc, grind arith) in
    all_more (λ (x : Create). one_look (replica_of c.args.header.now (standing_of c.args.standing.now) x.entity) x.entity c.args.rows.now
    ≡ [])
    c.args.clients.now c.loop-create.create-index _ c.loop-create-test.true (c.in_ok-nothing.ensures.0 so) c.loop-create.invariant
