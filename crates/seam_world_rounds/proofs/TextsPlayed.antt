-- A round that is being played: what it leaves, once its phases have ended.
use Rattle.std.proofs.Common.{◌≡◌, ℕ, Bool, true, false, List, [], ◌++◌, sym, ap, subst, ◌∙◌, append_assoc, append-nil}
use Rattle.std.specs.Prelude.{codes}
use Rattle.seam_node_steps.specs.Prelude.{Create, Batch, Division, World, TypeDef}
use Rattle.seam_rule_rounds.specs.Prelude.{Journal, Header, created_as, live_as, Lists, number_text, Standing, RoundData, traced_text}
use Rattle.seam_rule_rounds.specs.Prelude.{journal_text, played_text}
use Rattle.seam_law_transcript.specs.Prelude.{HasPlayableRound, IsPlayed}
use Rattle.seam_accept.specs.Batches.{batch_of}
use Rattle.seam_quiet.specs.RoundRuns.{IsJournalOf, IsWithinTable}
use Rattle.seam_world_rounds.specs.PlayedRound.{HasSteps}
use Rattle.seam_world_rounds.specs.PlayedRound.{start_text}

-- the phases of the round of the batch that a standing's open lines bring make a played round, whose calls ended in the world u, and whose
-- steps the journal has
pub played_so : (h : Header) (s : Standing) (tree : Division) (w v u : World) (given : Batch) (j : Journal) → HasPlayableRound h s tree w →
    given ≡ batch_of h s.book → (x : IsJournalOf w given j v) × (x.round.called ≡ u) × IsWithinTable w given j x.round.reaped →
    (made live : List Create) →
    Lists (created_as s.book) made → Lists (live_as s.book) live →
    (p : IsPlayed h s tree w v) × (p.round.called ≡ u) × HasSteps p.round j × IsWithinTable w (batch_of h s.book) j p.round.reaped
played_so h s tree w v u given j beside is stood made live made_listed live_listed =
    let x = subst (λ b. (x : IsJournalOf w b j v) × (x.round.called ≡ u) × IsWithinTable w b j x.round.reaped) is stood in (
      record {
        beside = beside;
        round = x.0.round;
        ended = record { gone = x.0.gone; quiet = x.0.quiet };
        made = made;
        made_listed = made_listed;
        live = live;
        live_listed = live_listed;
      },
      x.1,
      record { calls = sym x.0.calls; reaps = sym x.0.reaps; looks = sym x.0.looks },
      x.2,
    )

-- ---- the text of a round, appended part by part

after_start : (out start calls ends : List ℕ) → ((out ++ start) ++ calls) ++ ends ≡ out ++ (start ++ calls ++ ends)
after_start out start calls ends =
    ap (λ (xs : List ℕ). xs ++ ends) (append_assoc out start calls) ∙ append_assoc out (start ++ calls) ends

pub text_in_order : (traced : Bool) (defs : List TypeDef) (r : RoundData) (n : ℕ) (j : Journal) (out calls ends : List ℕ) → n ≡ r.number →
    ((steps : List ℕ) → traced_text steps defs r ≡ number_text (codes "round ") r.number ++ steps ++ calls ++ ends) →
    ((out ++ start_text traced n j) ++ calls) ++ ends ≡ out ++ played_text traced defs r j
text_in_order true defs r n j out calls ends is parts =
    after_start out (number_text (codes "round ") n ++ journal_text j) calls ends
    ∙ ap (λ (xs : List ℕ). out ++ xs)
    (ap (λ k. number_text (codes "round ") k ++ journal_text j ++ calls ++ ends) is ∙ sym (parts (journal_text j)))
text_in_order false defs r n j out calls ends is parts =
    let number = number_text (codes "round ") r.number in
    after_start out (number_text (codes "round ") n) calls ends
    ∙ ap (λ (xs : List ℕ). out ++ xs)
    (ap (λ k. number_text (codes "round ") k ++ calls ++ ends) is
    ∙ ap (λ (xs : List ℕ). xs ++ calls ++ ends) (sym (append-nil number)) ∙ sym (parts []))
