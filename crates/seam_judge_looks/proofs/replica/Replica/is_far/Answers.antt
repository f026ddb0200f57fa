use Rattle.std.proofs.Common.{◌+◌, sym, map}
use Rattle.std.specs.Prelude.{nat_lt}
use Rattle.seam_judge_looks.specs.Replicas.{empty_client}
use Rattle.seam_judge_looks.proofs.Steps.{radius_stays, hysteresis_stays}
use Rattle.seam_judge_looks.proofs.replica.Replica.is_far.Goals as goal

pub returns : goal.returns
returns c =
    let radius =
    radius_stays (empty_client c.args.self.now.radius c.args.self.now.hysteresis) (map (λ x. x.now) c.args.self.now.shown.items) in
    let hysteresis =
    hysteresis_stays (empty_client c.args.self.now.radius c.args.self.now.hysteresis) (map (λ x. x.now) c.args.self.now.shown.items) in
    λ i. nat_lt (sym radius i + sym hysteresis i) (c.dist.ensures i)
