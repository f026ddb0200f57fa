use Rattle.std.proofs.Common.{arith}
use Rattle.std.proofs.lemmas.Bool.{false≢true}
use Rattle.seam_io.proofs.LineLemmas.{no_feed_none}
use Rattle.seam_io.proofs.lines.Lines.new.Goals as goal

pub invariant_of-result : goal.invariant_of-result
invariant_of-result c = record {
  size = c.in_ok-vec.ensures.len;
  start = omega arith;
  feed = omega arith;
  end = omega arith;
  line_start = omega arith;
  line_end = omega arith;
  line_len = omega arith;
  before = no_feed_none;
  found = λ low. omega arith;
  within = omega arith;
  ended = λ e. absurd (false≢true e);
}
