use Rattle.std.proofs.Common.{length, ◌-◌, ◌≤◌, take}
use Rattle.std.specs.Io.KnownBytes.{Appends}
use Rattle.seam_io.proofs.sink.write_whole.Given as goal

abbrev pub invariant-loop-wrote : goal.invariant-loop-wrote
invariant-loop-wrote g l = record {
  within : l.wrote ≤ length l.bytes;
  appends : Appends (g.K.Sink.state l.initial.sink).written (g.K.Sink.state l.sink).written (take l.wrote l.bytes);
  later : (g.K.Sink.state l.initial.sink).faults ≤ (g.K.Sink.state l.sink).faults;
}

abbrev pub decreases-loop-wrote : goal.decreases-loop-wrote
decreases-loop-wrote g l = length l.bytes - l.wrote
