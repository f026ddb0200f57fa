-- A witness tells rightly, over every list of events.
use Rattle.seam_law_clients.proofs.Prelude.{ℕ, List, Some, sym, subst, fold-append, Event, Shown, RealView, WitnessView, shown_of, looks_of}
use Rattle.seam_law_clients.proofs.Prelude.{after_looking, known_to, World, Frame, IsSpared, HasClient, HasToldAtMost, HasRoomFor, RunsTo}
use Rattle.seam_law_clients.proofs.Prelude.{FitsWithin, ComesBetween, IsTrueBetween, TellsRightly, ClientReplica, after_shown}
use Rattle.seam_law_clients.proofs.Prelude.{after_all_shown, Truth, ShowsRightly}
use Rattle.seam_law_clients.proofs.Looking.{look_shows, look_fits}
use Rattle.seam_law_clients.proofs.Reals.{fits_on}
use Rattle.seam_law_clients.proofs.InTurn.{rightly_append}
use Rattle.seam_law_clients.proofs.Tells.{Tells, tells_lead}

module _ (f : Frame) (e ty first n : ℕ) (t : Truth) (c : ClientReplica) (start end : World)
    (most : (u : World) → ComesBetween start end u → HasToldAtMost e n u) (true_ : IsTrueBetween f e t start end) where
  -- what was told may be shown, and the client that was shown it fits
  abbrev IsRight : List Shown → RealView → WitnessView → Type 0
  IsRight us r x = ShowsRightly t e c us × FitsWithin f r x (after_all_shown c us)

  pub rightly_leads : (es : List Event) → TellsRightly f e ty first t c start → HasClient f e ty first start → IsSpared e start →
      HasRoomFor e n start → RunsTo start es end → TellsRightly f e ty first t c end
  rightly_leads es h client spared room run_ =
      let after : Tells f e ty first IsRight end =
      tells_lead f e ty first n IsRight
      (λ us r q x p both. (both.0, fits_on f r q p x (after_all_shown c us) both.1)) start end most
      (λ w between k cell there here r at x seen m waits us due both.
      let d : ClientReplica = after_all_shown c us in (
        rightly_append t e c us (shown_of cell.here r x (known_to cell e)) both.0
            (look_shows f k e r x d both.1 cell t (true_.own w between k r at) (true_.others w between k cell there) here),
        subst (λ y. FitsWithin f (record r {
          witness = Some (after_looking (known_to cell e) (looks_of r x (known_to cell e))
              (shown_of cell.here r x (known_to cell e)) r x);
        })
            (after_looking (known_to cell e) (looks_of r x (known_to cell e)) (shown_of cell.here r x (known_to cell e)) r x) y)
            (sym (fold-append after_shown c us (shown_of cell.here r x (known_to cell e))))
            (look_fits f k e r x d both.1 cell here),
      ))
      es
      (record {
        one = h.one;
        witness = h.witness;
        has = h.has;
        told = h.told;
        number = h.number;
        delivery = h.delivery;
        holds = (h.rightly, h.fits);
      }) client spared room run_ in
      record {
        one = after.one;
        witness = after.witness;
        has = after.has;
        told = after.told;
        number = after.number;
        delivery = after.delivery;
        rightly = after.holds.0;
        fits = after.holds.1;
      }
