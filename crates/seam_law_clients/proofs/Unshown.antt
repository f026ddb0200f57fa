-- Whom no client was shown, and who has no real in a round, is shown to none in it.
use Rattle.seam_law_clients.proofs.Prelude.{◌≡◌, ℕ, List, Option, None, Some, refl, sym, ap, ◌∙◌, IsQuiet, State, Property, ghost_of}
use Rattle.seam_law_clients.proofs.Prelude.{other_of, projected, Batch, RealView, shown_of, known_to, loaded, World, node_has_work}
use Rattle.seam_law_clients.proofs.Prelude.{letters_of, Frame, real_of, real_at, IsBetweenRounds, framed, MayBeLoaded}
use Rattle.seam_law_clients.proofs.Prelude.{AreCopiesBetweenRounds, GoesThroughRound, ClientsFit, IsTrueBetween, true_between}
use Rattle.seam_law_clients.proofs.Prelude.{clients_loaded, gone_leads, in_frame, frame_loaded, no_mail, Nowhere, reaps_leave, looks_leave}
use Rattle.seam_law_clients.proofs.Prelude.{ClientReplica}
use Rattle.seam_defs.specs.declared.flags.Group.TheVariants as group
use Rattle.seam_law_rounds.specs.Prelude.{NeverShown}
use Rattle.seam_law_clients.proofs.After.{not_shown}
use Rattle.seam_law_clients.proofs.LookFits.{never_shown_looked}
use Rattle.seam_law_clients.proofs.Joined.{never_shown_called}
use Rattle.seam_law_clients.proofs.Loading.{clients_fit_loaded, never_shown_loaded}
use Rattle.seam_law_clients.proofs.Reaping.{never_shown_reaped}
use Rattle.seam_law_clients.proofs.Round.{called_between, reaped_between, reaped_copies, reaped_room}

module _ (f : Frame) (w : World) (b : Batch) (may : MayBeLoaded f w b) (copies : AreCopiesBetweenRounds f w) (v : World)
    (round : GoesThroughRound w b v) (quiet : IsQuiet node_has_work v) (n : ℕ) (gone : Nowhere n (loaded w b)) where
  abbrev g : Frame
  g = framed f b

  abbrev start : World
  start = loaded w b

  gone_called : Nowhere n round.called
  gone_called =
      (gone_leads g (frame_loaded f w b may.begin) n start round.called round.call_events (in_frame f w b may.begin)
      (record { slots = gone; mail = λ a k. ap (letters_of real_of) (no_mail f w b may.begin n a k) }) round.calls).slots

  between : IsBetweenRounds g round.called
  between = called_between f w b may copies v round

  reaped_by : (k : ℕ) (o : Option RealView) → real_at n round.reaped k ≡ o → real_at n round.reaped k ≡ None
  reaped_by k None is = is
  reaped_by k (Some q) is =
      let there =
      reaps_leave g round.called between round.gone round.may round.reap_events round.reaped round.reaps n k q is in
      absurd (let z = sym (gone_called k) ∙ there.here in cc)

  gone_reaped : Nowhere n round.reaped
  gone_reaped k = reaped_by k (real_at n round.reaped k) refl

  module _ (ghosts : (ps : List Property) (s : State) →
      projected ps group.Ghost group.Other (ghost_of ps s).props ≡ (other_of ps s).props)
      (true_ : (e : ℕ) → IsTrueBetween g e (true_between g e start round.called) start round.called)
      (clients : ℕ → ClientReplica) (fit : ClientsFit f clients w) (never : NeverShown w n) where
    called : NeverShown round.called n
    called =
        never_shown_called f w b may (clients_loaded f b clients) (clients_fit_loaded f w b may clients fit) round.called
        round.call_events round.calls true_ round.calls_done n (never_shown_loaded f w b may n never) gone

    reaped : NeverShown round.reaped n
    reaped =
        never_shown_reaped g round.called between round.gone round.may round.reap_events round.reaped round.reaps n called

    pub never_shown_then : NeverShown v n
    never_shown_then =
        let after = reaped_between f w b may copies v round in
        never_shown_looked g round.reaped after (reaped_room f w b may copies v round) round.look_events v round.looks quiet
        (looks_leave g round.reaped after round.look_events v round.looks) n
        (λ e k r here x has none cell node.
        not_shown g round.reaped after (reaped_copies f w b may copies v round) ghosts e k r x cell node n none gone_reaped
        (shown_of cell.here r x (known_to cell e))) reaped
