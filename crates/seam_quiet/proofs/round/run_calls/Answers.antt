use Rattle.std.proofs.Common.{length}
use Rattle.seam_node_steps.specs.Prelude.{node_steps, node_has_work, loaded}
use Rattle.seam_net_runs.specs.Finishing.{EndsWithin}
use Rattle.seam_quiet.specs.RoundRuns.{most_of_calls}
use Rattle.seam_quiet.proofs.Phases.{may_be_loaded, by_bases}
use Rattle.seam_quiet.proofs.round.run_calls.Goals as goal

pub end_calls-requires : goal.end_calls-requires
end_calls-requires g c κs within =
    let f = c.requires.may.0 in
    let clients = c.requires.may.1 in
    let may = c.requires.may.2 in
    let w = c.args.world in
    let b = c.args.batch in
    let given = c.a_fitting_batch_may_be_loaded.ensures f clients w may.keeps b may.given in
    let ends : EndsWithin node_has_work node_steps (loaded w b) (most_of_calls w b) =
    λ es v leads. by_bases f clients w b may (length es)
    (c.each_phase_of_a_round_ends.ensures.calls f w b (may_be_loaded f clients w b may) may.keeps.copies may.bounded.nothing
    may.bounded.sees v es leads) in
    (within.0, (within.1, (c.type_bounds.sync-G, (c.type_bounds.sync-R, (given, ends)))))
