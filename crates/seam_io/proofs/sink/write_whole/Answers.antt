use Rattle.std.proofs.Common.{◌≤◌, ◌+◌, ◌-◌, length, drop, arith, subst}
use Rattle.std.specs.Io.KnownBytes.{Appends}
use Rattle.std.proofs.KnownBytes.{Appends-trans}
use Rattle.std.proofs.lemmas.List.{length-take, length-drop}
use Rattle.seam_io.proofs.Copies.{take_further}
use Rattle.seam_io.proofs.sink.write_whole.Goals as goal

pub loop-wrote-preserved : goal.loop-wrote-preserved
loop-wrote-preserved g c =
    let wrote = c.loop-wrote.wrote in
    let bytes = c.args.bytes.now in
    let fits : wrote + c.in-Ok.count ≤ length bytes =
    omega (arith, c.in-Ok.ensures.bound, length-take (length bytes - wrote) (drop wrote bytes), length-drop wrote bytes) in
    record {
      within = fits;
      appends =
          subst (Appends (g.K.Sink.state c.args.sink.now).written (g.K.Sink.state c.write.new.self).written)
          (take_further bytes wrote c.in-Ok.count fits)
          (Appends-trans _ _ _ _ _ c.loop-wrote.invariant.appends c.in-Ok.ensures.bytes);
      later = omega (arith, c.write.ensures.cause.later);
    }
