use Rattle.seam_law_transcript.proofs.Prelude.{ℕ, false, refl, Create, World, loaded, reaps_loaded, look_loaded, replica_of, framed}
use Rattle.seam_law_transcript.proofs.Prelude.{AreReapable, clients_loaded, clients_shown, KeepsRecordsWithin, IsPresent, frame_of}
use Rattle.seam_law_transcript.proofs.Prelude.{may_play, dying, EndCalls, KeepsFirstCalls, batch_of, quiet_home, calm_leads, reaps_leave}
use Rattle.seam_law_transcript.proofs.Prelude.{looks_leave, looks_execute_none, live_is_present}
use Rattle.seam_law_rounds.proofs.Reaping as reaping
use Rattle.seam_law_rounds.proofs.Looking as looking
use Rattle.seam_law_transcript.proofs.Turns.{first_calls, still_first}
use Rattle.seam_law_transcript.proofs.whole_runs.each_part_executes_in_turn.Goals as goal

pub returns : goal.returns
returns c h s tree w g end =
    let f = frame_of h tree in
    let clients = replica_of h s in
    let b = batch_of h s.book in
    let framed_ = framed f b in
    let keeps = g.between.keeps in
    let given = c.a_round_may_be_run.ensures.given h s tree w g end in
    let play = may_play h s tree w (c.a_round_may_be_run.ensures.stands h s tree w g end) in
    let then = clients_shown framed_ (clients_loaded f b clients) in
    let called : (u : World) → EndCalls h s w u → KeepsRecordsWithin framed_ (then u) u =
    λ u at. c.calls_obey_the_laws.ensures.records f clients w keeps b given at.0 u at.1.leads at.1.quiet in
    let may : (u : World) → EndCalls h s w u → AreReapable u (dying h s) =
    λ u at. c.what_lines_bring_fits.ensures.reaped h s.book tree clients w keeps given at.0 u at.1.leads at.1.quiet in
    let one = c.each_entity_has_one_real_through_a_round.ensures h s tree w g end in
    let as_called : (e : ℕ) (made : Create) → IsPresent s.book e made → KeepsFirstCalls s (loaded w b) e =
    λ e made present es u run.
    let there = c.what_lines_bring_fits.ensures.there h s.book tree clients w play e made present in
    first_calls h s tree clients w u play.legal.in_range.some_bases
    (c.lines_bring_what_fits.ensures.brings h s.book play.legal play.of_lines) play.few g.between.before.full e there.real
    ((c.calls_obey_the_laws.ensures.laws f clients w keeps b given es u run).each e there.cell there.real there.here)
    there.base there.base_here in
    let as_reaped : (v : World) → EndCalls h s w v → (e : ℕ) (made : Create) → IsPresent s.book e made →
    KeepsFirstCalls s (reaps_loaded v (dying h s)) e =
    λ v at e made present es u run.
    let between = (called v at).records.reals in
    let home = quiet_home framed_ v between e (one.calls e made present at.0 v at.1.leads) in
    let told = reaping.is_told e (dying h s) in
    let calm =
    calm_leads framed_ between.frame v between e home.node home.real home.here told
    (reaping.small framed_ v between (dying h s) (may v at) e home.node home.real home.here)
    (reaps_loaded v (dying h s)) u es
    (reaping.calm framed_ v between (dying h s) (may v at) e home.node home.real home.here) run in
    let obeys = c.reaps_obey_the_laws.ensures.laws framed_ (then v) v (called v at) (dying h s) (may v at) es u run in
    still_first s e v u (as_called e made present at.0 v at.1.leads)
    (reaps_leave framed_ v between (dying h s) (may v at) es u run e) told home.node home.real calm.mail
    (λ k q there. (q, obeys.parts e home.node home.real home.here k q there, refl)) in
    record {
      calls = as_called;
      reaps = as_reaped;
      looks = λ v at e made lives es u run.
          let reaped = c.reaps_obey_the_laws.ensures.records framed_ (then at.settled) at.settled (called at.settled at.calls) (dying h s)
          (may at.settled at.calls) at.events v at.reaps.leads at.reaps.quiet in
          let between = reaped.records.reals in
          let home = quiet_home framed_ v between e (one.reaps at.settled at.calls e made lives at.events v at.reaps.leads) in
          let calm =
          calm_leads framed_ between.frame v between e home.node home.real home.here false (looking.small framed_ v between home.real)
          (look_loaded v) u es (looking.calm framed_ v between e home.node home.real home.here) run in
          still_first s e v u
          (as_reaped at.settled at.calls e made (live_is_present s.book e made lives) at.events v at.reaps.leads)
          (looks_leave framed_ v between es u run e) false home.node home.real calm.mail
          (looks_execute_none framed_ v between u es run e home.real.ty
          (reaped.records.parts.parts e home.node home.real home.here));
    }
