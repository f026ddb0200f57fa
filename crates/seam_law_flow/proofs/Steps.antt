-- A move, or two in a row, keep the calls in turn.
use Rattle.std.proofs.Common.{◌≡◌, ℕ, Bool, true, false, cond, eqb, List, [], ◌++◌, Option, None, refl, sym, ap, ◌∙◌, subst}
use Rattle.std.proofs.lemmas.Bool.{eq-eqb, ne_eqb}
use Rattle.std.proofs.lemmas.List.{append-nil}
use Rattle.seam_law_flow.specs.Prelude.{Flow, Goes, comes, mail_left, Post, Mail, AreInTurn, Passes, place_then, desk_then, Twice, once}
use Rattle.seam_law_flow.specs.Prelude.{twice}
use Rattle.seam_law_flow.proofs.Turning.{in_turn_goes}

no_mail : {L : Type 0} (l : List L) (t : Bool) → l ≡ l ++ cond t [] []
no_mail l true = sym (append-nil l)
no_mail l false = sym (append-nil l)

-- ---- a step of two moves is two steps of the flow
module _ {S L : Type 0} where
  abbrev between : Flow S L → ℕ → Option (ℕ × L) → List L → S → Flow S L
  between w k i rest m = record { slot = λ j. cond (eqb j k) m (w.slot j); mail = λ x y. mail_left w.mail k i rest x y }

  module _ {Moves : ℕ → S → Option L → S → (ℕ → List L) → Type 0} {w v : Flow S L} (g : Goes (Twice Moves) w v) where
    abbrev middle : S → Flow S L
    middle m = between w g.k g.input g.rest m

    at_middle : (m : S) → (middle m).slot g.k ≡ m
    at_middle m = ap (λ t. cond t m (w.slot g.k)) (eq-eqb g.k g.k refl)

    off_middle : (m : S) (j : ℕ) → (j ≡ g.k → ⊥) → (middle m).slot j ≡ w.slot j
    off_middle m j n = ap (λ t. cond t m (w.slot j)) (ne_eqb j g.k n)

    first_move : (m : S) → Moves g.k (w.slot g.k) (comes g.input) m (λ j. []) → Goes Moves w (middle m)
    first_move m h = record {
      k = g.k;
      input = g.input;
      rest = g.rest;
      out = λ j. [];
      head = g.head;
      moves = subst (λ x. Moves g.k (w.slot g.k) (comes g.input) x (λ j. [])) (sym (at_middle m)) h;
      others = off_middle m;
      mail_is = λ x y. no_mail (mail_left w.mail g.k g.input g.rest x y) (eqb x g.k);
    }

    second_move : (m : S) → Moves g.k m None (v.slot g.k) g.out → Goes Moves (middle m) v
    second_move m h = record {
      k = g.k;
      input = None;
      rest = [];
      out = g.out;
      head = tt;
      moves = subst (λ x. Moves g.k x None (v.slot g.k) g.out) (sym (at_middle m)) h;
      others = λ j n. g.others j n ∙ sym (off_middle m j n);
      mail_is = g.mail_is;
    }

    whole_move : Moves g.k (w.slot g.k) (comes g.input) (v.slot g.k) g.out → Goes Moves w v
    whole_move h =
        record { k = g.k; input = g.input; rest = g.rest; out = g.out; head = g.head; moves = h; others = g.others; mail_is = g.mail_is }

    -- what each move keeps, a step of one or two moves keeps
    twice_by : (P : Flow S L → Type 0) → ((x y : Flow S L) → Goes Moves x y → P x → P y) → P w →
        Twice Moves g.k (w.slot g.k) (comes g.input) (v.slot g.k) g.out → P v
    twice_by P keep h (once a) = keep w v (whole_move a) h
    twice_by P keep h (twice m a b) = keep (middle m) v (second_move m b) (keep w (middle m) (first_move m a) h)

    pub twice_keeps : (P : Flow S L → Type 0) → ((x y : Flow S L) → Goes Moves x y → P x → P y) → P w → P v
    twice_keeps P keep h = twice_by P keep h g.moves

module _ {U : Type 0} (first : ℕ) (batch : List U) where
  pub turn_goes : (w v : Flow (Post U) (Mail U)) → Goes Passes w v → AreInTurn first batch w → AreInTurn first batch v
  turn_goes w v g h =
      record {
        place = place_then g.moves h.place;
        desk = desk_then g.moves h.desk;
        in_turn = in_turn_goes g first batch h.place h.desk h.in_turn g.moves;
      }

  pub turns_go : (w v : Flow (Post U) (Mail U)) → Goes (Twice Passes) w v → AreInTurn first batch w → AreInTurn first batch v
  turns_go w v g h = twice_keeps g (AreInTurn first batch) turn_goes h
