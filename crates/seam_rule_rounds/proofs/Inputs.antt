-- Two runs through the lines of an input, and their summaries.
use Rattle.std.proofs.Common.{◌≡◌, ◌++◌, ◌||◌, ℕ, Bool, true, false, List, [], ◌∷◌, refl, sym, ◌∙◌, ap, subst, append-nil}
use Rattle.std.specs.Prelude.{All, MatchBool, ◌==◌}
use Rattle.std.specs.List.{list_any}
use Rattle.std.proofs.lemmas.List.Elements.{All-nil, All-head, All-tail}
use Rattle.seam_rule_rounds.specs.Prelude.{Line, Place, Sender, Header, BeginWithHeader, separator, Book, calls_of, entries, open_lines}
use Rattle.seam_rule_rounds.specs.Prelude.{has_tick, has_balance, is_tick, is_balance, with_entry, with_round_ended, Adds, Spells, Judges}
use Rattle.seam_rule_rounds.specs.Prelude.{Run, AcceptedAreFrom, CallIsFrom, MOST_LINES, Entry, Verdict, Standing, after_header, with_line}
use Rattle.seam_rule_rounds.specs.Prelude.{with_book, Piece, EndsRound, Follows, Step, EndsInput, PrintAll, Sums, all_sums, AsksForNeither}
use Rattle.seam_defs.specs.Types.{AreDefs}
use Rattle.seam_toml.proofs.HeaderLaws.{reads_defs}
use Rattle.seam_rule_lines.specs.Language as language
use Rattle.seam_rule_lines.specs.Senders.{AreFrom, IsFrom}
use Rattle.seam_rule_lines.specs.declared.verdict.Verdict.TheVariants as verdict
use Rattle.seam_rule_lines.proofs.HeaderLemmas.{header_is_one}
use Rattle.seam_rule_lines.proofs.OneSender.{accepted_is_own}
use Rattle.seam_rule_lines.proofs.Verdicts.{verdict_is_one_of}
use Rattle.seam_rule_rounds.proofs.Pieces.{sums_of_append}
use Rattle.seam_rule_rounds.proofs.Moved.{held_at}
use Rattle.seam_rule_rounds.proofs.SameRounds.{same_sums, book_left, left_same}

-- ---- what a book keeps

-- its calls are from their entities' one senders, and the open round has no tick and no balance
record IsStill (one : ℕ → Sender) (b : Book) : Type 0 where
  own : AcceptedAreFrom one b
  none : has_tick b ≡ false
  still : has_balance b ≡ false

after_round : (one : ℕ → Sender) (b : Book) → IsStill one b → IsStill one (with_round_ended b)
after_round one b was = record {
  own = subst (λ (xs : List Entry). AreFrom one (calls_of xs)) (sym (append-nil (entries b))) was.own;
  none = refl;
  still = refl;
}

-- an accepted line that asks for neither adds neither
adds_neither : (h : Header) (b : Book) (line : Line) (c : language.Command) (x : Entry) → AsksForNeither line → Spells line c →
    Adds h b c x → (is_tick x ≡ false) × (is_balance x ≡ false)
adds_neither h b line language.Sync x asks spells adds = absurd adds
adds_neither h b line language.Tick x asks spells is = absurd (asks.0 spells)
adds_neither h b line language.Balance x asks spells is = absurd (asks.1 spells)
adds_neither h b line (language.Client w) x asks spells (e, number, is) = (ap is_tick is, ap is_balance is)
adds_neither h b line (language.Cut w a at) x asks spells (c, by, cell, bound, is) = (ap is_tick is, ap is_balance is)
adds_neither h b line (language.Shift w at) x asks spells (k, p, number, place, is) = (ap is_tick is, ap is_balance is)
adds_neither h b line (language.Destroy w) x asks spells (e, number, is) = (ap is_tick is, ap is_balance is)
adds_neither h b line (language.Create e n px pz) x asks spells (c, _, is) = (ap is_tick is, ap is_balance is)
adds_neither h b line (language.Call s e n a) x asks spells (c, call, is) = (ap is_tick is, ap is_balance is)
adds_neither h b line (language.Move s e px pz) x asks spells (c, call, is) = (ap is_tick is, ap is_balance is)

still_none : (test : Entry → Bool) (xs : List Entry) (x : Entry) → list_any test xs ≡ false → test x ≡ false →
    list_any test (xs ++ x ∷ []) ≡ false
still_none test [] x none is = ap (λ (b : Bool). b || false) is
still_none test (y ∷ xs) x none is = by (test y) none (λ all. still_none test xs x all is)
  where
    by : (b : Bool) → (b || list_any test xs) ≡ false → (list_any test xs ≡ false → list_any test (xs ++ x ∷ []) ≡ false) →
        (b || list_any test (xs ++ x ∷ [])) ≡ false
    by true all others = all
    by false all others = others all

with_line_kept : (h : Header) (one : ℕ → Sender) (b : Book) (line : Line) (x : Entry) → CallIsFrom one line → AsksForNeither line →
    Judges h b line (verdict.Accepted x) → IsStill one b → IsStill one (with_entry b x)
with_line_kept h one b line x names asks judged was =
    let adds = adds_neither h b line judged.2 x asks judged.3 judged.4 in
    record {
      own = accepted_is_own one h b line x names judged was.own;
      none = still_none is_tick b.current x was.none adds.0;
      still = still_none is_balance b.current x was.still adds.1;
    }

-- ---- lines

module _ (h : Header) (one : ℕ → Sender) where
  -- the sums are the same, and the standings after differ in where entities are held alone
  record Agree (ps qs : List Piece) (t v : Standing) : Type 0 where
    sums : all_sums ps ≡ all_sums qs
    places : ℕ → Place
    left : v ≡ held_at t places
    still : IsStill one t.book

  rounds_agree : (s t v : Standing) (places : ℕ → Place) (ps qs : List Piece) → IsStill one s.book → EndsRound h s ps t →
      EndsRound h (held_at s places) qs v → Agree ps qs t v
  rounds_agree s t v places ps qs was (r, j, is, x) (q, k, is', y) = record {
    sums =
        ap all_sums is
        ∙ ap (λ (n : Sums). n ∷ []) (same_sums h one s t v places r q x y was.own was.none was.still) ∙ sym (ap all_sums is');
    places = v.places;
    left = left_same h one s t v places r q x y was.own was.none was.still;
    still =
        subst (IsStill one) (sym (book_left h one s t v places r q x y was.own was.none was.still)) (after_round one s.book was);
  }

  nothing_agrees : (s t v : Standing) (places : ℕ → Place) (ps qs : List Piece) → IsStill one s.book → all_sums ps ≡ [] →
      all_sums qs ≡ [] → t ≡ s → v ≡ held_at s places → Agree ps qs t v
  nothing_agrees s t v places ps qs was none none' here there = record {
    sums = none ∙ sym none';
    places = places;
    left = there ∙ ap (λ (k : Standing). held_at k places) (sym here);
    still = subst (λ (k : Standing). IsStill one k.book) (sym here) was;
  }

  keeps_agree : (full : Bool) (s t v : Standing) (places : ℕ → Place) (ps qs : List Piece) → IsStill one s.book →
      MatchBool full (EndsRound h s ps t) ((ps ≡ []) × (t ≡ s)) →
      MatchBool full (EndsRound h (held_at s places) qs v) ((qs ≡ []) × (v ≡ held_at s places)) → Agree ps qs t v
  keeps_agree true s t v places ps qs was x y = rounds_agree s t v places ps qs was x y
  keeps_agree false s t v places ps qs was x y =
      nothing_agrees s t v places ps qs was (ap all_sums x.0) (ap all_sums y.0) x.1 y.1

  follows_agree : (s t v : Standing) (places : ℕ → Place) (line : Line) (w : Verdict) (ps qs : List Piece) → CallIsFrom one line →
      AsksForNeither line → IsStill one s.book → Judges h s.book line w → Follows h (with_line s) w ps t
      → Follows h (with_line (held_at s places)) w qs v → Agree ps qs t v
  follows_agree s t v places line verdict.Skipped ps qs names asks was judged x y =
      nothing_agrees (with_line s) t v places ps qs was (ap all_sums x.0) (ap all_sums y.0) x.1 y.1
  follows_agree s t v places line (verdict.Refused c) ps qs names asks was judged x y =
      nothing_agrees (with_line s) t v places ps qs was (ap all_sums x.0) (ap all_sums y.0) x.1 y.1
  follows_agree s t v places line (verdict.Accepted e) ps qs names asks was judged x y =
      let at : Standing = with_book (with_line s) (with_entry s.book e) in
      keeps_agree (open_lines at.book == MOST_LINES) at t v places ps qs (with_line_kept h one s.book line e names asks judged was) x y
  follows_agree s t v places line verdict.Synced ps qs names asks was judged x y = rounds_agree (with_line s) t v places ps qs was x y

  step_agrees : (s t v : Standing) (places : ℕ → Place) (line : Line) (ps qs : List Piece) → AreDefs h.defs → CallIsFrom one line →
      AsksForNeither line → IsStill one s.book → Step h s line ps t → Step h (held_at s places) line qs v → Agree ps qs t v
  step_agrees s t v places line ps qs are names asks was (w, judged, x) (w', judged', y) =
      let verdict : w ≡ w' = verdict_is_one_of h s.book line w w' are judged judged' in
      follows_agree s t v places line w ps qs names asks was judged x
      (subst (λ (k : Verdict). Follows h (with_line (held_at s places)) k qs v) (sym verdict) y)

  runs_agree : (lines : List Line) (s t v : Standing) (places : ℕ → Place) (ps qs : List Piece) → AreDefs h.defs →
      All (CallIsFrom one) lines → All AsksForNeither lines → IsStill one s.book → Run (Step h) s lines ps t
      → Run (Step h) (held_at s places) lines qs v → Agree ps qs t v
  runs_agree [] s t v places ps qs are names asks was x y =
      nothing_agrees s t v places ps qs was (ap all_sums x.0) (ap all_sums y.0) x.1 y.1
  runs_agree (line ∷ lines) s t v places ps qs are names asks was (a, b, mid, is, step, rest) (c, d, mid', is', step', rest') =
      let first =
      step_agrees s mid mid' places line a c are (All-head (CallIsFrom one) line lines names) (All-head AsksForNeither line lines asks) was
      step step' in
      let others =
      runs_agree lines mid t v first.places b d are (All-tail (CallIsFrom one) line lines names) (All-tail AsksForNeither line lines asks)
      first.still rest (subst (λ (k : Standing). Run (Step h) k lines d v) first.left rest') in
      record {
        sums =
            ap all_sums is ∙ sums_of_append a b ∙ (λ i. first.sums i ++ others.sums i) ∙ sym (ap all_sums is' ∙ sums_of_append c d);
        places = others.places;
        left = others.left;
        still = others.still;
      }

  last_agrees : (none : Bool) (s : Standing) (places : ℕ → Place) (ps qs : List Piece) → IsStill one s.book →
      MatchBool none (ps ≡ []) ((t : Standing) × EndsRound h s ps t) →
      MatchBool none (qs ≡ []) ((t : Standing) × EndsRound h (held_at s places) qs t) → all_sums ps ≡ all_sums qs
  last_agrees true s places ps qs was x y = ap all_sums (x ∙ sym y)
  last_agrees false s places ps qs was x y = (rounds_agree s x.0 y.0 places ps qs was x.1 y.1).sums

-- ---- inputs

-- what comes after other lines is part of the lines
All_after : {X : Type 0} (P : X → Type 0) (xs ys : List X) → All P (xs ++ ys) → All P ys
All_after P [] ys all = all
All_after P (x ∷ xs) ys all = All_after P xs ys (All-tail P x (xs ++ ys) all)

after_the_header : (P : Line → Type 0) (h : Header) (lines rest : List Line) (n : ℕ) → All P lines → BeginWithHeader lines h n rest →
    All P rest
after_the_header P h lines rest n all begins =
    All-tail P separator rest (All_after P begins.head (separator ∷ rest) (subst (All P) begins.whole all))

pub sums_are_one : (one : ℕ → Sender) (lines : List Line) (h k : Header) (ps qs : List Piece) → All (CallIsFrom one) lines →
    All AsksForNeither lines → PrintAll lines h ps → PrintAll lines k qs → all_sums ps ≡ all_sums qs
sums_are_one one lines h k ps qs names asks (a, b, t, prints, ends, is) (c, d, v, prints', ends', is') =
    let same = header_is_one lines h k prints.count prints'.count prints.rest prints'.rest prints.header prints'.header in
    let run' : Run (Step h) (after_header h prints.count) prints.rest c v =
    subst (λ (ls : List Line). Run (Step h) (after_header h prints.count) ls c v) (sym same.2)
    (subst (λ (n : ℕ). Run (Step h) (after_header h n) prints'.rest c v) (sym same.1)
    (subst (λ (j : Header). Run (Step j) (after_header j prints'.count) prints'.rest c v) (sym same.0) prints'.run)) in
    let start = after_header h prints.count in
    let run =
    runs_agree h one prints.rest start t v start.places a c (reads_defs prints.header.text h prints.header.reads)
    (after_the_header (CallIsFrom one) h lines prints.rest prints.count names prints.header)
    (after_the_header AsksForNeither h lines prints.rest prints.count asks prints.header)
    (record { own = All-nil (IsFrom one); none = refl; still = refl }) prints.run run' in
    let ends_here : EndsInput h (held_at t run.places) d =
    subst (λ (s : Standing). EndsInput h s d) run.left (subst (λ (j : Header). EndsInput j v d) (sym same.0) ends') in
    let last = last_agrees h one (open_lines t.book == 0) t run.places b d run.still ends ends_here in
    ap all_sums is ∙ sums_of_append a b ∙ (λ i. run.sums i ++ last i) ∙ sym (ap all_sums is' ∙ sums_of_append c d)
