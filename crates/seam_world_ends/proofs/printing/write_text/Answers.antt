use Rattle.std.proofs.Common.{inl, inr, refl}
use Rattle.seam_world_ends.proofs.PrintLemmas.{all_pending, pending_written, failed_in_pending}
use Rattle.seam_world_ends.proofs.printing.write_text.Goals as goal

pub returns-in-Ok : goal.returns-in-Ok
returns-in-Ok g c =
    let before = g.K.Sink.state c.args.out.now in
    let text = c.args.text.now in
    inl (refl, pending_written before before _ text text (all_pending before text) c.in-Ok.ensures.ok c.in-Ok.ensures.cause.later)

pub returns-in-Err : goal.returns-in-Err
returns-in-Err g c =
    let before = g.K.Sink.state c.args.out.now in
    let text = c.args.text.now in
    let failed = c.in-Err.ensures.err in
    inr (
      refl,
      failed_in_pending before before _ text text (all_pending before text) _ failed.0 failed.1 c.in-Err.ensures.cause.later
          c.in-Err.ensures.cause.failed,
    )
