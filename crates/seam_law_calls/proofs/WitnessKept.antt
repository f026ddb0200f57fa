-- What is true of each real of an entity by its witness stays true.
use Rattle.seam_law_calls.proofs.Prelude.{◌≡◌, ℕ, ◌+◌, Bool, is_some, List, [], ◌∷◌, length, Option, Some, refl, sym, ap, ◌∙◌, subst}
use Rattle.seam_law_calls.proofs.Prelude.{AllByRecursion, happens, Occurs, Event, Shown, RealView, WitnessView, Boundaries, Msg, Hand}
use Rattle.seam_law_calls.proofs.Prelude.{World, node_steps, comes, IsSilent, Frame, here_at, IsInFrame, Has, AtCell, entity_flow, Moves}
use Rattle.seam_law_calls.proofs.Prelude.{at_a_cell, at_a_base, real_in, real_of, WitnessMoves, EachReal, all_append, slots_kept, came}
use Rattle.seam_law_calls.proofs.Prelude.{sent_kept}
use Rattle.seam_law_calls.proofs.Classify.{event_moves}
use Rattle.seam_law_calls.specs.WitnessMoves as witness
use Rattle.seam_law_calls.proofs.WitnessSteps.{witness_moves}
use Rattle.seam_law_calls.proofs.BaseSilent.{sees_no_real, numbered_unreal, base_silent}
use Rattle.seam_law_calls.proofs.Keeping.{run_keeps, FramedKeep}

module _ (P : RealView → Type 0) where
  abbrev pub OfReal : Msg → Type 0
  OfReal m = (r : RealView) → real_of m ≡ Some r → P r

  -- messages that carry no real
  pub none_carried : (ps : List (ℕ × Msg)) → IsSilent real_of ps → AllByRecursion (λ p. OfReal p.1) ps
  none_carried [] z = tt
  none_carried (p ∷ ps) z = ((λ r is. let no = sym z.0 ∙ is in absurd cc), none_carried ps z.1)

-- what a fact gives of each
pub all_weaker : {X : Type 0} (P Q : X → Type 0) (xs : List X) → ((x : X) → P x → Q x) → AllByRecursion P xs → AllByRecursion Q xs
all_weaker P Q [] g all = tt
all_weaker P Q (x ∷ xs) g all = (g x all.0, all_weaker P Q xs g all.1)

pub each_weaker : (P Q : RealView → Type 0) (e : ℕ) (w : World) → ((r : RealView) → P r → Q r) → EachReal e P w → EachReal e Q w
each_weaker P Q e w g each = record {
  cells = λ k r has. g r (each.cells k r has);
  hands = λ a k. all_weaker (OfReal P) (OfReal Q) ((entity_flow e w).mail a k) (λ m is r has. g r (is r has)) (each.hands a k);
}

-- P is true of the reals with the same witness, and of one that told something if it may be so
abbrev pub ByWitness : (RealView → Type 0) → Type 0
ByWitness P = (r q : RealView) → q.witness ≡ r.witness → P r → P q

abbrev pub ByLooks : (RealView → Type 0) → AtCell → Type 0
ByLooks P s = (n : ℕ) (r q : RealView) (w v : WitnessView) (shown : List Shown) → s.looks ≡ n + 1 → r.witness ≡ Some w →
    q.witness ≡ Some v → v.sent ≡ w.sent + length shown → P r → P q

module _ (P : RealView → Type 0) (by_witness : ByWitness P) (f : Frame) (e k : ℕ) (s : Has) (i : Option Msg) (t : Has)
    (sent : List (ℕ × Msg)) (by_looks : ByLooks P s.cell) (here : (r : RealView) → real_in s ≡ Some r → P r)
    (comes : (r : RealView) (bs : Option Boundaries) → i ≡ Some (Hand r bs) → P r) where
  pub record Kept : Type 0 where
    pub slot : (r : RealView) → real_in t ≡ Some r → P r
    pub sends : AllByRecursion (λ p. OfReal P p.1) sent

  cell_keeps : WitnessMoves (here_at f k) e s.cell i (real_in t) sent → Kept
  cell_keeps (witness.rests kept a b) = record {
    slot = λ q has. let was = kept q has in by_witness was.0 q was.2 (here was.0 was.1);
    sends = none_carried P sent b;
  }
  cell_keeps (witness.lands r bs n now a b) = record {
    slot = λ q has. let one : r ≡ q = let z = sym now ∙ has in cc in subst P one (comes r bs n);
    sends = none_carried P sent b;
  }
  cell_keeps (witness.leaves r q to told has gone same z a b) = record {
    slot = λ x now. let no = sym gone ∙ now in absurd cc;
    sends =
        subst (AllByRecursion (λ p. OfReal P p.1)) (sym z)
        (all_append (λ p. OfReal P p.1) told _ (none_carried P told b)
        ((λ x is. let one : q ≡ x = cc in subst P one (by_witness r q same (here r has))), tt));
  }
  cell_keeps (witness.looks n r q w v shown at has wit now wit' sum small z) = record {
    slot = λ x is. let one : q ≡ x = let y = sym now ∙ is in cc in subst P one (by_looks n r q w v shown at wit wit' sum (here r has));
    sends = none_carried P sent (subst (IsSilent real_of) (sym z) (numbered_unreal _ e w.sent shown));
  }

  pub moves_keep : Moves f e k s i t sent → Kept
  moves_keep (at_a_cell tree of low m same) = cell_keeps (witness_moves f e k s i t sent m)
  moves_keep (at_a_base high m same) = record {
    slot = λ r has. here r (sym (ap (λ c. c.slot.real) same) ∙ has);
    sends = none_carried P sent (base_silent real_of sees_no_real _ _ e _ i _ sent m);
  }

-- ---- an event

module _ (P : RealView → Type 0) (by_witness : ByWitness P) (f : Frame) (e : ℕ) (w : World) (v : Event) (o : Occurs w v)
    (q : IsInFrame f w) where
  pub each_happens : ((k : ℕ) → ByLooks P ((entity_flow e w).slot k).cell) → EachReal e P w → EachReal e P (happens node_steps w v)
  each_happens by_looks each =
      let g = event_moves f w v o q e in
      let kept =
      moves_keep P by_witness f e g.k ((entity_flow e w).slot g.k) (comes g.input) ((entity_flow e (happens node_steps w v)).slot g.k)
      g.moves.sent (by_looks g.k) (each.cells g.k) (λ r bs is. (came (λ a k m. OfReal P m) g
      (Hand r bs) is each.hands).1 r refl) g.moves.moves in
      record {
        cells = slots_kept (λ k s. (r : RealView) → real_in s ≡ Some r → P r) g each.cells kept.slot;
        hands = sent_kept (λ a k m. OfReal P m) g g.moves.sent g.moves.items each.hands kept.sends;
      }

-- ---- an entity with a witness keeps it, and one without gets none

module _ (f : Frame) (e : ℕ) (b : Bool) where
  abbrev pub IsSeen : RealView → Type 0
  IsSeen r = is_some r.witness ≡ b

  pub seen_leads : FramedKeep f (EachReal e IsSeen)
  seen_leads =
      run_keeps f (EachReal e IsSeen) (λ x a o q all. each_happens IsSeen (λ r q same is. ap is_some same ∙ is) f e x a o q
      (λ k n r q y z shown at wit wit' sum is. ap is_some wit' ∙ (sym (ap is_some wit) ∙ is)) all)
