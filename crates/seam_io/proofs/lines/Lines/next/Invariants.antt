use Rattle.std.proofs.Common.{◌≡◌, ◌≤◌, ◌+◌, ◌-◌, ◌++◌, List, ℕ}
use Rattle.std.specs.Prelude.{if◌then◌else◌}
use Rattle.seam_io.specs.Lines.{Line}
use Rattle.seam_io.specs.Reading.{Reading, NeedsMore, IsSparing, budget}
use Rattle.seam_io.specs.States.{SourceState}
use Rattle.seam_io.specs.Steps.{Takes}
use Rattle.seam_io.proofs.lines.Lines.next.Given as goal

abbrev pub invariant-loop-next : goal.invariant-loop-next
invariant-loop-next g l = record {
  reads : (start : SourceState) (given : List ℕ) (read : List Line) →
      Reading start (g.S.Source.state l.initial.source) l.initial.self given read →
      (got : List ℕ) × Reading start (g.S.Source.state l.source) l.self (given ++ got) read × IsSparing l.initial.self got
      × Takes l.initial.self l.self got;
  later : (g.S.Source.state l.initial.source).faults ≤ (g.S.Source.state l.source).faults;
  quiet : ¬ (NeedsMore l.initial.self) → (l.source ≡ l.initial.source) × (l.self ≡ l.initial.self);
  budget : budget l.self ≤ budget l.initial.self;
  limit : l.self.limit ≡ l.initial.self.limit;
}

abbrev pub decreases-loop-next : goal.decreases-loop-next
decreases-loop-next g l = (l.self.limit - l.self.taken) + (if l.self.ended then 0 else 1)
