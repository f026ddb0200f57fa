-- A whole round keeps the record of clients.
use Rattle.seam_law_clients.proofs.Prelude.{◌≡◌, ℕ, ◌++◌, Option, None, Some, refl, sym, ap, ◌∙◌, subst, slice_get, fold-append, IsQuiet}
use Rattle.seam_law_clients.proofs.Prelude.{Batch, RealView, WitnessView, World, node_has_work, letters_of, Frame, entity_flow, home_of}
use Rattle.seam_law_clients.proofs.Prelude.{proxy_of, shown_in, lines_in, shown_at, real_at, IsBetweenRounds, framed, MayBeLoaded}
use Rattle.seam_law_clients.proofs.Prelude.{HasPartsBetweenRounds, HasSmallNumbers, AreCopiesBetweenRounds, GoesThroughRound, HadSameReal}
use Rattle.seam_law_clients.proofs.Prelude.{ArePlaced, rows_of, FitsWitness, ClientsFit, looked_by, having_looked, HaveRoomToLook}
use Rattle.seam_law_clients.proofs.Prelude.{clients_shown, calls_end_between, calls_end_with_parts, calls_end_small, reaps_end_with_parts}
use Rattle.seam_law_clients.proofs.Prelude.{reaps_end_small, reaps_end_copied, calls_place, reaps_leave, looks_leave, stays_placed}
use Rattle.seam_law_clients.proofs.Prelude.{ClientReplica, after_shown, after_all_shown, one_look}
use Rattle.seam_law_rounds.proofs.Reaping.{reaps_end_between}
use Rattle.seam_law_ghosts.proofs.Rounding.{calls_end_copied}
use Rattle.seam_law_clients.proofs.LookEnds.{looked}
use Rattle.seam_law_clients.proofs.ShownOnce.{cell_at}
use Rattle.seam_law_clients.proofs.Reaping.{clients_fit_reaped}
use Rattle.seam_law_clients.proofs.Reaped.{part_same}
use Rattle.seam_law_clients.proofs.Room.{have_room}

module _ (f : Frame) (w : World) (b : Batch) (may : MayBeLoaded f w b) (copies : AreCopiesBetweenRounds f w) (v : World)
    (round : GoesThroughRound w b v) where
  abbrev g : Frame
  g = framed f b

  -- ---- the records where the calls end, and where the reaps do

  pub called_between : IsBetweenRounds g round.called
  called_between = calls_end_between f w b may.begin round.called round.call_events round.calls round.calls_done

  called_parts : HasPartsBetweenRounds g round.called
  called_parts = calls_end_with_parts f w b may round.called round.call_events round.calls round.calls_done

  called_small : HasSmallNumbers g round.called
  called_small = calls_end_small f w b may round.called round.call_events round.calls

  called_copies : AreCopiesBetweenRounds g round.called
  called_copies =
      calls_end_copied f w b may.begin copies round.called round.call_events round.calls round.calls_done

  called_placed : ArePlaced g round.called
  called_placed = calls_place f w b may.begin round.called round.call_events round.calls round.calls_done

  pub reaped_between : IsBetweenRounds g round.reaped
  reaped_between =
      reaps_end_between g round.called called_between round.gone round.may round.reap_events round.reaped round.reaps round.reaps_done

  pub reaped_parts : HasPartsBetweenRounds g round.reaped
  reaped_parts =
      reaps_end_with_parts g round.called called_between called_parts round.gone called_small round.may round.reap_events round.reaped
      round.reaps round.reaps_done

  pub reaped_small : HasSmallNumbers g round.reaped
  reaped_small =
      reaps_end_small g round.called called_between called_parts round.gone called_small round.may round.reap_events round.reaped
      round.reaps round.reaps_done

  pub reaped_copies : AreCopiesBetweenRounds g round.reaped
  reaped_copies =
      reaps_end_copied g round.called called_between called_copies round.gone round.may round.reap_events round.reaped round.reaps
      round.reaps_done

  pub reaped_placed : ArePlaced g round.reaped
  reaped_placed =
      stays_placed g round.called round.reaped
      (reaps_leave g round.called called_between round.gone round.may round.reap_events round.reaped round.reaps) called_placed

  pub reaped_room : HaveRoomToLook round.reaped
  reaped_room = have_room g round.reaped reaped_parts reaped_small

  -- ---- clients

  module _ (clients : ℕ → ClientReplica) where
    abbrev pub once_called : ℕ → ClientReplica
    once_called = clients_shown g clients round.called

    pub fit_reaped : ClientsFit g once_called round.called → ClientsFit g once_called round.reaped
    fit_reaped =
        clients_fit_reaped g round.called called_between round.gone round.may round.reap_events round.reaped round.reaps once_called

    -- the lines of a client that is left are those of the calls
    module _ (e k : ℕ) (r : RealView) (here : real_at e round.reaped k ≡ Some r) where
      abbrev home : ℕ
      home = home_of g e

      same_lines : shown_at ((entity_flow e round.reaped).slot home) ≡ shown_at ((entity_flow e round.called).slot home)
      same_lines =
          let had = reaped_parts.parts e k r here in
          let there =
          reaps_leave g round.called called_between round.gone round.may round.reap_events round.reaped round.reaps e k r here in
          let was =
          part_same g round.called called_between called_parts round.gone round.may e k there.real there.here round.reap_events
          round.reaped round.reaps home had.part had.here in
          ap (λ o. letters_of shown_in (lines_in (proxy_of o))) (had.here ∙ sym was)

    module _ (quiet : IsQuiet node_has_work v)
        (fit : ClientsFit g (λ e. after_all_shown (once_called e) (one_look (once_called e) e (rows_of round.reaped))) v)
        (all : (e k : ℕ) (r : RealView) → real_at e round.reaped k ≡ Some r → (x : WitnessView) →
        r.witness ≡ Some x → shown_at ((entity_flow e v).slot (home_of g e))
        ≡ shown_at ((entity_flow e round.reaped).slot (home_of g e)) ++ one_look (once_called e) e (rows_of round.reaped)) where
      module _ (e k : ℕ) (q : RealView) (at : real_at e v k ≡ Some q) (x : WitnessView) (has : q.witness ≡ Some x) where
        there : HadSameReal e k q round.reaped
        there = looks_leave g round.reaped reaped_between round.look_events v round.looks e k q at

        some_is : {y z : RealView} → Some y ≡ Some z → y ≡ z
        some_is h = cc

        shown_by : (o : Option WitnessView) → there.real.witness ≡ o → FitsWitness g v q x (clients_shown g clients v e)
        shown_by None none =
            let cell = cell_at e k round.reaped there.real (slice_get round.reaped.nodes k) refl there.here in
            let now =
            looked g round.reaped reaped_between reaped_room round.look_events v round.looks quiet e k there.real there.here cell.0
            cell.1 in
            let same : having_looked cell.0 e there.real ≡ q = some_is (sym now ∙ at) in
            let none_then : q.witness ≡ None =
            ap (λ (y : RealView). y.witness) (sym same)
            ∙ (ap (λ o. (looked_by cell.0 e there.real o).witness) none ∙ none) in
            absurd (let z = sym none_then ∙ has in cc)
        shown_by (Some y) seen =
            let lines = all e k there.real there.here y seen ∙ ap (λ l. l ++ one_look (once_called e) e (rows_of round.reaped))
            (same_lines e k there.real there.here) in
            let same : clients_shown g clients v e
            ≡ after_all_shown (once_called e) (one_look (once_called e) e (rows_of round.reaped)) =
            ap (after_all_shown (clients e)) lines
            ∙ fold-append after_shown (clients e) (shown_at ((entity_flow e round.called).slot (home_of g e)))
            (one_look (once_called e) e (rows_of round.reaped)) in
            subst (FitsWitness g v q x) (sym same) (fit.each e k q at x has)

      pub fit_round : ClientsFit g (clients_shown g clients v) v
      fit_round = record { each = λ e k q at x has. shown_by e k q at x has (there e k q at x has).real.witness refl }
