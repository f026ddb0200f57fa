use Rattle.std.proofs.Common.{◌≡◌, ◌≤◌, List, [], length}
use Rattle.seam_rule_rounds.specs.Prelude.{SourceState, Line, Reading, budget}
use Rattle.seam_world_ends.specs.Ends.{most_bytes}
use Rattle.seam_world_ends.specs.Headers.{InHeader}
use Rattle.seam_world_ends.proofs.header.read_header.Given as goal

abbrev pub invariant-loop-count : goal.invariant-loop-count
invariant-loop-count g l = record {
  later : (g.S.Source.state l.initial.input).faults ≤ (g.S.Source.state l.input).faults;
  history : (began : SourceState) → Reading began (g.S.Source.state l.initial.input) l.initial.lines [] [] →
      l.initial.lines.limit ≡ most_bytes →
      (read : List Line) × InHeader began (g.S.Source.state l.input) l.lines l.header read × (l.count ≡ length read);
}

abbrev pub decreases-loop-count : goal.decreases-loop-count
decreases-loop-count g l = budget l.lines
