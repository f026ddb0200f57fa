use Rattle.std.proofs.Common.{[], refl, arith}
use Rattle.std.proofs.KnownBytes.{Consumes-nil}
use Rattle.seam_rule_rounds.specs.Standing.{after_header}
use Rattle.seam_toml.proofs.HeaderLaws.{reads_legal, reads_defs}
use Rattle.seam_world_rounds.proofs.RunLemmas.{after_a_header}
use Rattle.seam_world_rounds.proofs.HeaderRuns.{nothing_judged, header_alone}
use Rattle.seam_world_rounds.proofs.run.begin.Goals as goal

pub returns-in-Err-clause-began : goal.returns-in-Err-clause-began
returns-in-Err-clause-began g c = nothing_judged _ _ [] (Consumes-nil _) (omega arith)

pub returns-in-Err-new-clause-began : goal.returns-in-Err-new-clause-began
returns-in-Err-new-clause-began g c = nothing_judged _ _ [] (Consumes-nil _) (omega arith)

pub new-requires-3 : goal.new-requires-3
new-requires-3 g c =
    let has =
    c.in_ok-header.ensures.header (g.S.Source.state c.args.input.now) (c.in-Ok-new.ensures.reads (g.S.Source.state c.args.input.now))
    (rw c.in-Ok-new.ensures.fresh refl) in
    record {
      legal = reads_legal has.begins.text _ has.begins.reads;
      sound = reads_defs has.begins.text _ has.begins.reads;
      few = c.in_ok-header.ensures.few;
    }

pub returns-in-Err-new-2-clause-began : goal.returns-in-Err-new-2-clause-began
returns-in-Err-new-2-clause-began g c =
    let has =
    c.in_ok-header.ensures.header _ (c.in-Ok-new.ensures.reads _) (rw c.in-Ok-new.ensures.fresh refl) in
    header_alone _ _ _ _ _ has

pub returns-clause-began : goal.returns-clause-began
returns-clause-began g c =
    let has =
    c.in_ok-header.ensures.header _ (c.in-Ok-new.ensures.reads _) (rw c.in-Ok-new.ensures.fresh refl) in (
      (
        c.in_ok-header.header,
        after_header c.in_ok-header.header c.in_ok-header.count,
        c.in-Ok-new-2.ensures.refines,
      ),
      λ output sink told. after_a_header output _ _ _ sink told _ _ _ _ has c.in-Ok.ensures c.in-Ok-new-2.ensures.refines
          c.in-Ok-new-2.ensures.totals c.in-Ok-new-2.ensures.world,
    )
