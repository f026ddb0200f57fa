use Rattle.std.proofs.Common.{◌≤◌}
use Rattle.seam_rule_rounds.specs.Prelude.{SourceState, SinkState, budget, Header, Standing, Told}
use Rattle.seam_world_rounds.specs.Histories.{Going}
use Rattle.seam_world_rounds.specs.Script.{ScriptRefines}
use Rattle.seam_world_rounds.proofs.run.Runner.run.Given as goal

abbrev pub invariant-loop-status : goal.invariant-loop-status
invariant-loop-status g l = record {
  later : (g.S.Source.state l.initial.input).faults ≤ (g.S.Source.state l.input).faults;
  ready : (h : Header) × (t : Standing) × ScriptRefines h t l.self.script;
  history : (began : SourceState) (sink : SinkState) (told : Told) →
      Going l.fn.playing.output began (g.S.Source.state l.initial.input) l.initial.self.lines sink (g.K.Sink.state l.initial.out) told
      (g.W.Watch.told l.initial.watch) l.initial.self.pending l.initial.self.script →
      Going l.fn.playing.output began (g.S.Source.state l.input) l.self.lines sink (g.K.Sink.state l.out) told (g.W.Watch.told l.watch)
      l.self.pending l.self.script;
}

abbrev pub decreases-loop-status : goal.decreases-loop-status
decreases-loop-status g l = budget l.self.lines
