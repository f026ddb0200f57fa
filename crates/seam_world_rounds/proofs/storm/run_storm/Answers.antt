use Rattle.std.proofs.Common.{Some, ap, arith}
use Rattle.seam_storm.specs.Views.{StormView}
use Rattle.seam_world_rounds.proofs.StormRuns.{nothing_run, not_done, storm_written}
use Rattle.seam_world_rounds.proofs.storm.run_storm.Goals as goal

pub returns-in-Err : goal.returns-in-Err
returns-in-Err g c = nothing_run c.args.lines _ _

pub returns-then-not-is_done : goal.returns-then-not-is_done
returns-then-not-is_done g c =
    not_done c.args.lines c.requires.1 _ _ (ap (λ (v : StormView). Some v.left) c.in-Ok.ensures) (λ rose. omega (arith, rose)) _ _ _ _ _
    c.run_body-status.result.0 c.run_body-status.ensures.stopped (rw c.if-not-is_done.true at c.is_done.ensures)

pub returns : goal.returns
returns g c =
    let done = rw c.if-not-is_done.false at c.is_done.ensures in
    storm_written c.args.lines c.requires.1 _ _ (ap (λ (v : StormView). Some v.left) c.in-Ok.ensures) (λ rose. omega (arith, rose)) _ _ _ _
    _
    (rw done at c.run_body-status.ensures.stopped) _ c.write_summary.result c.write_summary.ensures
