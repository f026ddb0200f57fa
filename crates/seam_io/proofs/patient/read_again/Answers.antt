use Rattle.std.proofs.KnownBytes.{Keeps-refl, Keeps-trans}
use Rattle.seam_io.proofs.Again.{read_then}
use Rattle.seam_io.proofs.patient.read_again.Goals as goal

pub loop-try-init : goal.loop-try-init
loop-try-init g c = Keeps-refl _

pub loop-try-preserved : goal.loop-try-preserved
loop-try-preserved g c = Keeps-trans _ _ _ c.loop-try.invariant c.in-Err.ensures.bytes

pub returns-in-Ok-clause-bytes : goal.returns-in-Ok-clause-bytes
returns-in-Ok-clause-bytes g c =
    read_then _ _ (g.R.Read.remaining c.read.new.self) c.in-Ok.count c.read.new.buf c.loop-try.invariant c.in-Ok.ensures.bytes

pub returns-then-not-is_passing-clause-bytes : goal.returns-then-not-is_passing-clause-bytes
returns-then-not-is_passing-clause-bytes g c = Keeps-trans _ _ _ c.loop-try.invariant c.in-Err.ensures.bytes
