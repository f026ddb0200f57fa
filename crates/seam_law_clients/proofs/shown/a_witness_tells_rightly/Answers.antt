use Rattle.seam_law_clients.proofs.Prelude.{refl, framed, in_frame, loaded, known_between, true_between}
use Rattle.seam_law_clients.proofs.Along.{rightly_leads}
use Rattle.seam_law_clients.proofs.RoundTruth.{round_is_true}
use Rattle.seam_law_clients.proofs.Starts.{rightly_starts}
use Rattle.seam_law_clients.proofs.shown.a_witness_tells_rightly.Goals as goal

pub returns-clause-starts : goal.returns-clause-starts
returns-clause-starts c f e ty first w v h k r here x has due client fits = (
  rightly_starts f e ty first (known_between f e w v) w h k r here x has due client fits,
  rightly_starts f e ty first (true_between f e w v) w h k r here x has due client fits,
)

pub returns-clause-known : goal.returns-clause-known
returns-clause-known c f e ty first n w v es client h serves spared room most run =
    rightly_leads f e ty first n (known_between f e w v) client w v most (record {
      own = λ u m k r here. record { world = u; between = m; node = k; real = r; here = here; at = refl; is = refl };
      others = λ u m k cell here x d known. record { world = u; between = m; node = k; cell = cell; here = here; known = known };
    }) es h serves spared room run

pub returns-clause-round : goal.returns-clause-round
returns-clause-round c f w b begin copies e ty first n v es client h serves spared room most run =
    rightly_leads (framed f b) e ty first n (true_between (framed f b) e (loaded w b) v) client (loaded w b) v most
    (round_is_true f w b begin (in_frame f w b begin)
    (c.copies_go_from_record_to_record.ensures.loaded f w b begin copies)
    (λ u us so_far x k r there. c.ghosts_of_a_round_are_true.ensures.true_copies f w b begin copies u us so_far x k r there)
    c.others_see_the_ghost.ensures.by_ghost v e)
    es h serves spared room run
