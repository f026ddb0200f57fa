use Rattle.std.proofs.Common.{◌≢◌, length, arith}
use Rattle.std.proofs.lemmas.Grind.{common_steps}
use Rattle.seam_value.proofs.Spellings.{more_content, less_to_come, none_to_come}
use Rattle.seam_value.proofs.reading.content_of.Goals as goal

pub loop-rest-preserved : goal.loop-rest-preserved
loop-rest-preserved c =
    let first = c.in-Some.ensures.found in
    record {
      so_far =
          rw c.in_ok-push-in-Some.ensures.items
          (more_content c.loop-rest.content.items c.loop-rest.rest.now c.in-Some.after.now c.args.spelled.now c.in-Some.b
          c.loop-rest.invariant.so_far first);
      to_come = λ whole e. let m = c.loop-rest.invariant.to_come whole e in
          less_to_come c.loop-rest.rest.now c.in-Some.after.now c.in-Some.b first m.0 m.1;
    }

pub returns-in-None : goal.returns-in-None
returns-in-None c = λ content e.
    let m = c.loop-rest.invariant.to_come content e in
    let some : length c.loop-rest.rest.now ≢ 0 = grind (arith, common_steps) in
    none_to_come c.loop-rest.rest.now some c.in-None.ensures.found m.0 m.1
