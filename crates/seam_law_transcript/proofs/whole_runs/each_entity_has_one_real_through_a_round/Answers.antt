use Rattle.seam_law_transcript.proofs.Prelude.{◌≡◌, ℕ, [], Some, eqb, false, refl, sym, ◌∙◌, AllByRecursion, filter_map, eq-eqb, Create}
use Rattle.seam_law_transcript.proofs.Prelude.{World, holders, loaded, look_loaded, live_as, replica_of, framed, AreReapable}
use Rattle.seam_law_transcript.proofs.Prelude.{clients_loaded, clients_shown, KeepsRecordsWithin, IsPresent, frame_of, may_play, dying}
use Rattle.seam_law_transcript.proofs.Prelude.{EndCalls, batch_of, destroyed, all_turn, live_is_present, undestroyed, undestroyed_apart}
use Rattle.seam_law_transcript.specs.OneReal.{KeepsReals}
use Rattle.seam_law_transcript.proofs.whole_runs.each_entity_has_one_real_through_a_round.Goals as goal

pub returns : goal.returns
returns c h s tree w g end =
    let f = frame_of h tree in
    let clients = replica_of h s in
    let b = batch_of h s.book in
    let framed_ = framed f b in
    let keeps = g.between.keeps in
    let given = c.a_round_may_be_run.ensures.given h s tree w g end in
    let play = may_play h s tree w (c.a_round_may_be_run.ensures.stands h s tree w g end) in
    let then = clients_shown framed_ (clients_loaded f b clients) in
    let called : (u : World) → EndCalls h s w u → KeepsRecordsWithin framed_ (then u) u =
    λ u at. c.calls_obey_the_laws.ensures.records f clients w keeps b given at.0 u at.1.leads at.1.quiet in
    let may : (u : World) → EndCalls h s w u → AreReapable u (dying h s) =
    λ u at. c.what_lines_bring_fits.ensures.reaped h s.book tree clients w keeps given at.0 u at.1.leads at.1.quiet in
    let obeys = c.calls_obey_the_laws.ensures.laws f clients w keeps b given in
    let loaded_one : (e : ℕ) (made : Create) → IsPresent s.book e made → holders (loaded w b) e ≡ 1 =
    λ e made present.
    let there = c.what_lines_bring_fits.ensures.there h s.book tree clients w play e made present in
    let one = ((obeys [] (loaded w b) (record { each = tt; is_run = refl })).each e there.cell there.real there.here).replays.has in
    c.holders_are_at_one_place.ensures.counts (loaded w b) e one.place one.real one.one in
    let called_one : (u : World) → EndCalls h s w u → (e : ℕ) (made : Create) → live_as s.book e ≡ Some made → holders u e ≡ 1 =
    λ u at e made lives. (obeys at.0 u at.1.leads).one_real e (loaded_one e made (live_is_present s.book e made lives)) in
    let spared : (e : ℕ) (made : Create) → live_as s.book e ≡ Some made → AllByRecursion (λ x. x ≡ e → ⊥) (dying h s) =
    λ e made lives.
    all_turn (λ n. eqb n e ≡ false) (λ x. x ≡ e → ⊥) (λ n apart is. let z = sym (eq-eqb n e is) ∙ apart in cc)
    (filter_map destroyed s.book.current) (undestroyed_apart e s.book.current (undestroyed s.book e made lives)) in
    record {
      calls = λ e made present es x run. (obeys es x run).one_real e (loaded_one e made present);
      reaps = λ u at e made lives es x run.
          (c.reaps_obey_the_laws.ensures.laws framed_ (then u) u (called u at) (dying h s) (may u at) es x run).one_real e
          (called_one u at e made lives) (spared e made lives);
      until = λ u at e made present es x run.
          c.reaps_end_reals.ensures.counts framed_ u (called u at).records.reals (dying h s) (may u at) es x run e
          ((obeys at.0 u at.1.leads).one_real e (loaded_one e made present));
      gone = λ v at.
          let u = at.settled in
          let reaped = c.reaps_obey_the_laws.ensures.records framed_ (then u) u (called u at.calls) (dying h s) (may u at.calls)
          at.events v at.reaps.leads at.reaps.quiet in
          all_turn (λ e. holders v e ≡ 0) (KeepsReals (look_loaded v) 0)
          (λ e none es x run. (c.looks_obey_the_laws.ensures.laws framed_ (then u) v reaped es x run).no_other e none) (dying h s)
          (c.reaps_obey_the_laws.ensures.gone framed_ (then u) u (called u at.calls) (dying h s) (may u at.calls) at.events v
          at.reaps.leads at.reaps.quiet).reals;
      looks = λ v at e made lives es x run.
          let u = at.settled in
          let reaped = c.reaps_obey_the_laws.ensures.records framed_ (then u) u (called u at.calls) (dying h s) (may u at.calls)
          at.events v at.reaps.leads at.reaps.quiet in
          (c.looks_obey_the_laws.ensures.laws framed_ (then u) v reaped es x run).one_real e
          ((c.reaps_obey_the_laws.ensures.laws framed_ (then u) u (called u at.calls) (dying h s) (may u at.calls) at.events v
          at.reaps.leads).one_real e (called_one u at.calls e made lives) (spared e made lives));
    }
