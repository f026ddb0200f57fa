use Rattle.std.proofs.Common.{◌*◌, ◌≤◌, List, length, subst}
use Rattle.std.proofs.lemmas.Result.{IfOk-weaker}
use Rattle.seam_node_steps.specs.Prelude.{IsQuiet, Event, World, node_has_work, loaded}
use Rattle.seam_law_rounds.specs.Prelude.{framed, AreReapable}
use Rattle.seam_law_clients.specs.Prelude.{clients_loaded, clients_shown}
use Rattle.seam_law_all.specs.Prelude.{KeepsRecordsWithin}
use Rattle.seam_law_bounds.specs.Prelude.{entities, all_witnesses, events_of_looks}
use Rattle.seam_core.specs.Worlds.{Leads}
use Rattle.seam_quiet.specs.RoundRuns.{most_of_calls}
use Rattle.seam_quiet.proofs.Phases.{may_be_loaded, reapable, by_bases, each_ends}
use Rattle.seam_quiet.proofs.round.run_ends.Goals as goal

pub end_phases-requires : goal.end_phases-requires
end_phases-requires g c κs within =
    let f = c.requires.1.1.1.1.0.0 in
    let clients = c.requires.1.1.1.1.0.1 in
    let may = c.requires.1.1.1.1.0.2 in
    let w = g.from.world in
    let b = g.from.batch in
    let mbl = may_be_loaded f clients w b may in
    let ends = c.each_phase_of_a_round_ends.ensures in
    let laws = c.calls_obey_the_laws.ensures in
    let recorded : (u : World) (es : List Event) → Leads (loaded w b) es u → IsQuiet node_has_work u →
    KeepsRecordsWithin (framed f b) (clients_shown (framed f b) (clients_loaded f b clients) u) u =
    λ u es leads quiet. laws.records f clients w may.keeps b may.given es u leads quiet in
    let reaps : (u : World) (es : List Event) → Leads (loaded w b) es u → IsQuiet node_has_work u → AreReapable u b.destroys =
    λ u es leads quiet.
    reapable f clients w b may u (laws.laws f clients w may.keeps b may.given es u leads) (framed f b)
    (clients_shown (framed f b) (clients_loaded f b clients) u) (recorded u es leads quiet) in
    let called = c.requires.1.1.1.1.1 in
    let each =
    each_ends w b
    (λ es v leads. by_bases f clients w b may (length es)
    (ends.calls f w b mbl may.keeps.copies may.bounded.nothing may.bounded.sees v es leads))
    (λ called ds calls quiet es v leads.
    c.reaps_end.ensures.bound (framed f b) called (recorded called ds calls quiet).records.reals
    (c.nothing_held_goes_from_record_to_record.ensures.calls f w b mbl may.bounded.nothing called ds calls quiet) b.destroys
    (reaps called ds calls quiet) es v leads)
    (λ v round. ends.looks f w b mbl may.keeps.copies may.bounded.nothing may.bounded.sees v round) in
    let due = reaps c.args.called.world c.args.called.events called.leads called.quiet in
    (within.0, (within.1, (c.requires.1.1.0, (c.requires.1.1.1.0, (called, (due, each))))))

pub returns-clause-run : goal.returns-clause-run
returns-clause-run g c =
    let f = c.requires.1.1.1.1.0.0 in
    let may = c.requires.1.1.1.1.0.2 in
    let w = g.from.world in
    let b = g.from.batch in
    let mbl = may_be_loaded f c.requires.1.1.1.1.0.1 w b may in
    let ends = c.each_phase_of_a_round_ends.ensures in
    IfOk-weaker c.end_phases.result _ _
    (λ r e.
    let s = e.0 in (
      s,
      e.1,
      record {
        calls =
            subst (λ es. length es ≤ most_of_calls w b) s.calls
            (by_bases f c.requires.1.1.1.1.0.1 w b may (length s.round.call_events)
            (ends.calls f w b mbl may.keeps.copies may.bounded.nothing may.bounded.sees s.round.called s.round.call_events s.round.calls));
        reaps =
            subst (λ es. length es ≤ 18 * length b.destroys) s.reaps
            (subst (λ es. length s.round.reap_events ≤ 18 * length es) s.gone
            (ends.reaps f w b mbl may.keeps.copies may.bounded.nothing r.world s.round));
        looks =
            subst (λ es. length es ≤ events_of_looks (entities (loaded w b)) (all_witnesses s.round.reaped)) s.looks
            (ends.looks f w b mbl may.keeps.copies may.bounded.nothing may.bounded.sees r.world s.round);
      },
    ))
    c.end_phases.ensures.stands

pub returns-clause-records : goal.returns-clause-records
returns-clause-records g c =
    IfOk-weaker c.end_phases.result _ _
    (λ r e f clients may.
    c.a_round_keeps_the_records.ensures.round f clients g.from.world g.from.batch may.keeps may.bounded may.given r.world e.0.round
    e.0.quiet)
    c.end_phases.ensures.stands
