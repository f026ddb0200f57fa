-- What is printed for lines has a twin of the same text, whose rounds leave the standings that their lines show. So where a text fails,
-- there is no transcript.
use Rattle.std.proofs.Common.{◌≡◌, ◌≢◌, ◌⊎◌, ℕ, ◌≤◌, Bool, true, false, List, [], ◌∷◌, ◌++◌, Option, Some, None, refl, sym, ◌∙◌, ap}
use Rattle.std.proofs.Common.{subst, arith, inl, inr, append-nil, MatchBool}
use Rattle.std.specs.Prelude.{◌==◌, is_some, IsTrue}
use Rattle.std.specs.List.{All, AllByRecursion, list_any}
use Rattle.std.proofs.lemmas.List.Elements.{All-nil, All-cons}
use Rattle.seam_tree.specs.Division.{Division}
use Rattle.seam_node_steps.specs.Prelude.{AreDefs, AreLegal, cells_of}
use Rattle.seam_rule_rounds.specs.Prelude.{MOST_CELLS, Call, Line, Header, Book, Judges, with_entry, open_lines, tree_of, MOST_LINES}
use Rattle.seam_rule_rounds.specs.Prelude.{entries, calls_of, created_as, destroys, makes, Standing, Piece, Refusal, Ended}
use Rattle.seam_rule_rounds.specs.Prelude.{IsRound, Place, with_bounds, with_round_ended}
use Rattle.seam_rule_rounds.specs.Standing.{with_book, with_line}
use Rattle.seam_rule_rounds.specs.Transcript.{EndsInput, EndsRound, Follows, text_of}
use Rattle.seam_rule_lines.specs.declared.verdict.Verdict.{Verdict}
use Rattle.seam_rule_lines.specs.declared.verdict.Verdict.TheVariants as verdict
use Rattle.seam_rule_lines.proofs.Verdicts.{verdict_is_one_of}
use Rattle.seam_law_book.specs.Prelude.{IsOfLines}
use Rattle.seam_law_book.proofs.Untouched.{orderly}
use Rattle.seam_law_forms.specs.Counting.{AreCounted}
use Rattle.seam_law_forms.proofs.Made.{IsTaken, all_taken}
use Rattle.seam_judge_rounds.specs.After.{AreForMade, after_round, place_in}
use Rattle.seam_judge_rounds.proofs.Leaves.{held_at, left_is, place_left, round_left}
use Rattle.seam_law_verdicts.specs.Due.{Due, RoundDue, EndDue, MakesDue}
use Rattle.seam_law_verdicts.specs.Verdicts.{AreAllCounted, Fails, LeaveShown}
use Rattle.seam_law_verdicts.specs.Kept.{Keeps}
use Rattle.seam_law_verdicts.proofs.Courses.{Path, counted_split, follows_go, has_ended, kept_entry, kept_line, round_or_end}
use Rattle.seam_law_verdicts.proofs.Courses.{rounds_agree, shown_split, split_is, stops}
use Rattle.seam_law_verdicts.proofs.Places.{IsOld, alive, round_before}

-- ---- what a book of lines keeps

each_made : (h : Header) (b : Book) (cs : List Call) → AllByRecursion (IsTaken h b) cs →
    All (λ (x : Call). IsTrue (is_some (created_as b x.entity))) cs
each_made h b [] all = All-nil (λ (x : Call). IsTrue (is_some (created_as b x.entity)))
each_made h b (x ∷ cs) all =
    All-cons (λ (y : Call). IsTrue (is_some (created_as b y.entity))) x cs (ap is_some all.0.is) (each_made h b cs all.1)

for_made : (h : Header) (b : Book) → IsOfLines h b → AreForMade b
for_made h b of_lines = each_made h b (calls_of (entries b)) (all_taken h b of_lines)

past_left : (b : Book) (o : Option Division) → (with_bounds (with_round_ended b) o).past ≡ entries b
past_left b None = refl
past_left b (Some tree) = refl

-- ---- twins

module _ (h : Header) (legal : AreLegal h.settings) (defs : AreDefs h.defs) where
  abbrev text : List Piece → List ℕ
  text ps = text_of false h.defs ps

  abbrev nothing : List Piece
  nothing = []

  -- pieces of the same text, and the standing after them: only entities that were not there before it are held elsewhere
  record Twin (a : List Piece) (t : Standing) (Prints : List Piece → Standing → Type 0) : Type 0 where
    pieces : List Piece
    after : Standing
    prints : Prints pieces after
    shown : LeaveShown pieces
    counted : AreAllCounted pieces
    texts : text a ≡ text pieces
    places : ℕ → Place
    is : t ≡ held_at after places
    same : (e : ℕ) → IsOld after.book e → places e ≡ after.places e

  counted_too : (u v : Standing) (p q : ℕ → Place) → AreCounted (held_at u p) (held_at v q) → AreCounted u v
  counted_too u v p q x = record { rounds = x.rounds; entries = x.entries; orders = x.orders; told = x.told }

  module _ (u : Standing) (p : ℕ → Place) (same : (e : ℕ) → IsOld u.book e → p e ≡ u.places e) (k : Keeps h u) where
    round_twin : (a : List Piece) (t : Standing) → AreAllCounted a → EndsRound h (held_at u p) a t → Twin a t (EndsRound h u)
    round_twin a t counted (r, j, is, round) =
        let here : IsRound h u r t = round_before h u t p same r round in
        let made : AreForMade u.book = for_made h u.book k.of_lines in
        let cells = (orderly h u.book legal k.of_lines).tree.cells_to in
        let few : cells_of (tree_of u.book) ≤ MOST_CELLS = omega (arith, cells) in
        let left : held_at t (place_in r) ≡ after_round u r = left_is h u r t made few here in
        let back : t ≡ held_at (after_round u r) t.places = ap (λ (v : Standing). held_at v t.places) left in
        record {
          pieces = Ended u r j (after_round u r) ∷ [];
          after = after_round u r;
          prints = (r, j, refl, round_left h u r t made few here);
          shown = (refl, tt);
          counted = (
            counted_too u (after_round u r) p t.places
                (subst (λ (v : Standing). AreCounted (held_at u p) v) back (subst AreAllCounted is counted).0),
            tt,
          );
          texts = ap (text) is;
          places = t.places;
          is = back;
          same = λ e old.
              let past = past_left u.book r.bounds in
              let lives =
              alive u.book e (ap (list_any (makes e)) (sym past) ∙ old.0) (ap (list_any (destroys e)) (sym past) ∙ old.1) in
              subst (λ (n : ℕ). t.places n ≡ place_in r n) lives.number
              (sym (place_left h u r t made few here lives.made lives.is));
        }

  module _ (u : Standing) (p : ℕ → Place) (same : (e : ℕ) → IsOld u.book e → p e ≡ u.places e) (k : Keeps h u) where
    -- what one verdict prints has a twin
    follows_twin : (line : Line) (v : Verdict) → Judges h u.book line v → (a : List Piece) (t : Standing) → AreAllCounted a →
        Follows h (with_line (held_at u p)) v a t → Twin a t (Follows h (with_line u) v)
    follows_twin line verdict.Skipped judged a t counted (none, is) = record {
      pieces = [];
      after = with_line u;
      prints = (refl, refl);
      shown = tt;
      counted = tt;
      texts = ap (text) none;
      places = p;
      is = is;
      same = same;
    }
    follows_twin line (verdict.Refused cause) judged a t counted (piece, is) = record {
      pieces = Refusal (with_line u).lines cause ∷ [];
      after = with_line u;
      prints = (refl, refl);
      shown = tt;
      counted = tt;
      texts = ap (text) piece;
      places = p;
      is = is;
      same = same;
    }
    follows_twin line (verdict.Accepted added) judged a t counted follows = by (open_lines kept.book == MOST_LINES) refl follows
      where
        kept : Standing
        kept = with_book (with_line u) (with_entry u.book added)

        by : (full : Bool) → (open_lines kept.book == MOST_LINES) ≡ full →
            MatchBool full (EndsRound h (held_at kept p) a t) ((a ≡ []) × (t ≡ held_at kept p)) →
            Twin a t (λ (ps : List Piece) (v : Standing).
            MatchBool (open_lines kept.book == MOST_LINES) (EndsRound h kept ps v) ((ps ≡ []) × (v ≡ kept)))
        by true at ends =
            let twin = round_twin kept p same (kept_entry h legal defs u line added k judged) a t counted ends in
            record {
              pieces = twin.pieces;
              after = twin.after;
              prints =
                  subst (λ (full : Bool). MatchBool full (EndsRound h kept twin.pieces twin.after)
                  ((twin.pieces ≡ []) × (twin.after ≡ kept))) (sym at) twin.prints;
              shown = twin.shown;
              counted = twin.counted;
              texts = twin.texts;
              places = twin.places;
              is = twin.is;
              same = twin.same;
            }
        by false at (none, is) = record {
          pieces = [];
          after = kept;
          prints =
              subst (λ (full : Bool). MatchBool full (EndsRound h kept [] kept) ((nothing ≡ []) × (kept ≡ kept))) (sym at) (refl, refl);
          shown = tt;
          counted = tt;
          texts = ap (text) none;
          places = p;
          is = is;
          same = same;
        }
    follows_twin line verdict.Synced judged a t counted ends = round_twin (with_line u) p same (kept_line h legal defs u k) a t counted ends

    -- so does what the end of the input prints
    end_twin : (a : List Piece) → AreAllCounted a → EndsInput h (held_at u p) a →
        (b : List Piece) × LeaveShown b × AreAllCounted b × (text a ≡ text b) × EndsInput h u b
    end_twin a counted ends = by (open_lines u.book == 0) refl ends
      where
        by : (z : Bool) → (open_lines u.book == 0) ≡ z → MatchBool z (a ≡ []) ((t : Standing) × EndsRound h (held_at u p) a t) →
            (b : List Piece) × LeaveShown b × AreAllCounted b × (text a ≡ text b)
            × MatchBool (open_lines u.book == 0) (b ≡ []) ((t : Standing) × EndsRound h u b t)
        by true at none = (
          [],
          tt,
          tt,
          ap text none,
          subst (λ (z : Bool). MatchBool z (nothing ≡ []) ((t : Standing) × EndsRound h u [] t)) (sym at) refl,
        )
        by false at (t, ended) =
            let twin = round_twin u p same k a t counted ended in (
              twin.pieces,
              twin.shown,
              twin.counted,
              twin.texts,
              subst (λ (z : Bool). MatchBool z (twin.pieces ≡ []) ((t : Standing) × EndsRound h u twin.pieces t)) (sym at)
                  (twin.after, twin.prints),
            )

  -- ---- a transcript does not fail

  no_end : (s : Standing) (v : Verdict) → MakesDue s v EndDue → ⊥
  no_end s verdict.Skipped makes = makes
  no_end s (verdict.Refused cause) makes = cc
  no_end s (verdict.Accepted added) (full, makes) = cc
  no_end s verdict.Synced makes = cc

  -- where both have ended, nothing is left of the text
  nothing_left : (u : Standing) → Keeps h u → (ps qs : List Piece) → LeaveShown ps → LeaveShown qs → AreAllCounted ps →
      AreAllCounted qs → EndsInput h u ps → EndsInput h u qs → (y : List ℕ) → text ps ≡ text qs ++ y → y ≡ []
  nothing_left u k ps qs sp sq cp cq one other y is = by (open_lines u.book == 0) one other
    where
      by : (z : Bool) → MatchBool z (ps ≡ []) ((t : Standing) × EndsRound h u ps t) →
          MatchBool z (qs ≡ []) ((t : Standing) × EndsRound h u qs t) → y ≡ []
      by true none nothing = ap (λ (xs : List Piece). text xs ++ y) (sym nothing) ∙ sym is ∙ ap text none
      by false (t, p) (v, q) =
          let agree =
          rounds_agree h legal defs u ps qs t v (has_ended h legal defs u ps t k sp cp p) (has_ended h legal defs u qs v k sq cq q) [] y
          (append-nil (text ps) ∙ is) in
          sym agree.rest

  -- at the end of the input
  end_does_not_fail : (u : Standing) (p : ℕ → Place) → ((e : ℕ) → IsOld u.book e → p e ≡ u.places e) → Keeps h u →
      (ps qs : List Piece) (d : Due) → AreAllCounted ps → LeaveShown qs → AreAllCounted qs → EndsInput h (held_at u p) ps →
      ((qs ≡ []) × (d ≡ RoundDue u) × (open_lines u.book ≢ 0)) ⊎ ((d ≡ EndDue) × EndsInput h u qs) → (y : List ℕ) →
      text ps ≡ text qs ++ y → (n : ℕ) → Fails h d y n → ⊥
  end_does_not_fail u p same k ps qs d cp sq cq ends (inl (nothing, due, opened)) y is n fails =
      let (b, sb, cb, texts, twin) = end_twin u p same k ps cp ends in
      round_or_end h legal defs u k b sb cb opened twin y []
      (ap (λ (xs : List Piece). text xs ++ y) (sym nothing) ∙ sym is ∙ texts ∙ sym (append-nil (text b))) n
      (subst (λ (z : Due). Fails h z y n) due fails)
  end_does_not_fail u p same k ps qs d cp sq cq ends (inr (due, over)) y is n fails =
      let (b, sb, cb, texts, twin) = end_twin u p same k ps cp ends in
      (subst (λ (z : Due). Fails h z y n) due fails).1
      (nothing_left u k b qs sb sq cb cq twin over y (sym texts ∙ is))

  pub does_not_fail_on : (ls : List Line) (u : Standing) (p : ℕ → Place) → ((e : ℕ) → IsOld u.book e → p e ≡ u.places e) → Keeps h u →
      (ps qs : List Piece) (d : Due) → AreAllCounted ps → LeaveShown qs → AreAllCounted qs → Path h (held_at u p) ls ps EndDue →
      Path h u ls qs d → (y : List ℕ) → text ps ≡ text qs ++ y → (n : ℕ) → Fails h d y n → ⊥
  does_not_fail_on [] u p same k ps qs d cp sq cq (inl (none, due, has_lines)) path y is n fails = cc
  does_not_fail_on [] u p same k ps qs d cp sq cq (inr (due, ends)) path y is n fails =
      end_does_not_fail u p same k ps qs d cp sq cq ends path y is n fails
  does_not_fail_on (line ∷ ls) u p same k ps qs d cp sq cq (inl (none, v, judged, makes)) path y is n fails =
      no_end (with_line (held_at u p)) v makes
  does_not_fail_on (line ∷ ls) u p same k ps qs d cp sq cq (inr (a, b, mid, at, (v, judged, follows), rest))
      (inl (nothing, w, ruled, makes)) y is n fails =
      let few = counted_split h legal defs a b (subst AreAllCounted at cp) in
      let twin = follows_twin u p same k line v judged a mid few.0 follows in
      let verdicts = verdict_is_one_of h u.book line v w defs judged ruled in
      stops h legal defs u line w k ruled d makes twin.pieces twin.after twin.shown twin.counted
      (subst (λ (z : Verdict). Follows h (with_line u) z twin.pieces twin.after) verdicts twin.prints) y (text b) n
      (ap (λ (xs : List Piece). text xs ++ y) (sym nothing) ∙ sym is ∙ sym (append-nil (text ps)) ∙ split_is h legal defs ps a b [] at
      ∙ (λ i. twin.texts i ++ append-nil (text b) i)) fails
  does_not_fail_on (line ∷ ls) u p same k ps qs d cp sq cq (inr (a, b, mid, at, (v, judged, follows), rest))
      (inr (c, f, end, there, (w, ruled, goes_on), more)) y is n fails =
      let few = counted_split h legal defs a b (subst AreAllCounted at cp) in
      let fewer = counted_split h legal defs c f (subst AreAllCounted there cq) in
      let other = shown_split h legal defs c f (subst LeaveShown there sq) in
      let twin = follows_twin u p same k line v judged a mid few.0 follows in
      let verdicts = verdict_is_one_of h u.book line v w defs judged ruled in
      let goes =
      follows_go h legal defs u line v k judged twin.pieces c twin.after end twin.shown other.0 twin.counted fewer.0 twin.prints
      (subst (λ (z : Verdict). Follows h (with_line u) z c end) (sym verdicts) goes_on) (text b) (text f ++ y)
      (ap (λ (t : List ℕ). t ++ text b) (sym twin.texts) ∙ sym (ap (λ (t : List ℕ). text a ++ t) (append-nil (text b)))
      ∙ sym (split_is h legal defs ps a b [] at) ∙ append-nil (text ps) ∙ is ∙ split_is h legal defs qs c f y there) in
      does_not_fail_on ls twin.after twin.places twin.same goes.keeps b f d few.1 other.1 fewer.1
      (subst (λ (z : Standing). Path h z ls b EndDue) twin.is rest)
      (subst (λ (z : Standing). Path h z ls f d) (sym goes.agree.left) more) y goes.agree.rest n fails
