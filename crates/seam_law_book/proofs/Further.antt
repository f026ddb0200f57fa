-- A client of a round has a witness at the round's end, and had it before the look.
use Rattle.seam_law_book.proofs.Prelude.{◌≡◌, ℕ, List, true, Option, None, Some, refl, sym, ap, ◌∙◌, inl, inr, is_some, IsTrue, not, ◌&&◌}
use Rattle.seam_law_book.proofs.Prelude.{list_any, cases_eq, Division, Event, RealView, WitnessView, World, look_loaded, Header, Book}
use Rattle.seam_law_book.proofs.Prelude.{entries, created_as, joins, was_dead, is_shown, with_round_ended, Frame, RunsTo, real_at}
use Rattle.seam_law_book.proofs.Prelude.{IsBetweenRounds, HasPartsBetweenRounds, HadSameReal, frame_of, GoesWith, both}
use Rattle.seam_law_book.proofs.Ended.{client_of, live_ended}
use Rattle.seam_law_book.proofs.Parts.{both_seen, looks_leave_part}

-- the real of a live entity that has a client in the round has a witness at its end
module _ (h : Header) (b : Book) (tree : Division) (v : World) (goes : GoesWith h (with_round_ended b) tree v)
    (between : IsBetweenRounds (frame_of h tree) v) (e k : ℕ) (q : RealView) (at : real_at e v k ≡ Some q)
    (shown : IsTrue (is_shown b e)) where
  was_joined : list_any (joins e) (entries b) ≡ true
  was_joined =
      (both (is_some (created_as b e)) (list_any (joins e) (entries b))
      (both (is_some (created_as b e) && list_any (joins e) (entries b)) (not (was_dead b e)) shown).0).1

  pub has_witness : is_some q.witness ≡ true
  has_witness =
      let l = goes.reals e k q at in
      let held = goes.live e l.0 l.1 in
      let same : held.real ≡ q = elim (cases_eq held.cell k) [
        | inl is ↦ (let z = sym held.here ∙ (ap (λ j. real_at e v j) is ∙ at) in cc)
        | inr other ↦ absurd (let z = sym ((between.settled e k q at).others held.cell other) ∙ held.here in cc)
      ] in
      sym (ap (λ (y : RealView). is_some y.witness) same) ∙ held.client ∙ client_of b e l.0 (sym (live_ended b e) ∙ l.1) ∙ was_joined

-- and it had one before the look
module _ (g : Frame) (u : World) (before : IsBetweenRounds g u) (parts : HasPartsBetweenRounds g u) (v : World) (es : List Event)
    (run : RunsTo (look_loaded u) es v) (then : HasPartsBetweenRounds g v) (e k : ℕ) (q : RealView)
    (at : real_at e v k ≡ Some q) (was : HadSameReal e k q u) where
  had_witness : is_some q.witness ≡ true → is_some was.real.witness ≡ true
  had_witness is =
      let left = parts.parts e k was.real was.here in
      let ended = then.parts e k q at in
      let stays = looks_leave_part g u before v es run e was.real.ty left ended.part ended.here in
      both_seen was.real.witness left.part.proxy left.part.version (parts.clients e k was.real was.here left.part left.here)
      ∙ sym stays.client
      ∙ sym (both_seen q.witness ended.part.proxy ended.part.version (then.clients e k q at ended.part ended.here)) ∙ is

  witness_by : (o : Option WitnessView) → is_some o ≡ true → (x : WitnessView) × (o ≡ Some x)
  witness_by None is = absurd (let z = is in cc)
  witness_by (Some x) is = (x, refl)

  pub its_witness : is_some q.witness ≡ true → (x : WitnessView) × (was.real.witness ≡ Some x)
  its_witness is = witness_by was.real.witness (had_witness is)
