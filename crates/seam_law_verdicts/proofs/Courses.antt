-- What is printed for lines, up to something that is due, is one text.
use Rattle.std.proofs.Common.{◌≡◌, ◌≢◌, ◌⊎◌, ℕ, ◌<◌, ◌≤◌, Bool, true, false, cond, List, [], ◌∷◌, ◌++◌, All, Some}
use Rattle.std.proofs.Common.{option_map, refl, sym, ◌∙◌, ap, subst, arith, inl, inr, append_assoc, append-nil, MatchBool}
use Rattle.std.specs.Prelude.{◌==◌, find, unwrap_or}
use Rattle.std.proofs.lemmas.Bool.Decides.{nat_tests}
use Rattle.std.proofs.lemmas.Grind.{flat_map-append}
use Rattle.std.proofs.lemmas.List.{append_cancel_left}
use Rattle.std.proofs.lemmas.List.Elements.{All-head, All-tail}
use Rattle.seam_node_steps.specs.Prelude.{AreDefs, AreLegal, cells_of}
use Rattle.seam_rule_rounds.specs.Prelude.{Line, Header, Book, Judges, with_entry, open_lines, tree_of, MOST_LINES, Standing, Piece}
use Rattle.seam_rule_rounds.specs.Prelude.{Refusal, Ended}
use Rattle.seam_rule_rounds.specs.Prelude.{IsRound, RoundData, HomeLine, round_text, refusal, Entry, Place, in_first_cell}
use Rattle.seam_rule_rounds.specs.Standing.{with_book, with_line}
use Rattle.seam_rule_rounds.specs.Transcript.{EndsInput, EndsRound, Follows, Step, piece_text, text_of}
use Rattle.seam_rule_lines.specs.Run.{Run}
use Rattle.seam_rule_lines.specs.declared.verdict.Verdict.{Verdict}
use Rattle.seam_rule_lines.specs.declared.verdict.Verdict.TheVariants as verdict
use Rattle.seam_rule_lines.specs.declared.verdict.Entry.TheVariants as entry
use Rattle.seam_rule_lines.proofs.Verdicts.{verdict_is_one_of}
use Rattle.seam_accept.proofs.Books.{tree_with}
use Rattle.seam_law_texts.specs.Forms.{IsFormed}
use Rattle.seam_law_texts.proofs.Beginnings.{first_round}
use Rattle.seam_law_book.specs.Prelude.{IsOfLines, accepts}
use Rattle.seam_law_book.proofs.Proper.{IsProper, accepted_is_proper}
use Rattle.seam_law_book.proofs.Untouched.{orderly}
use Rattle.seam_law_forms.specs.Counting.{AreCounted}
use Rattle.seam_law_forms.proofs.Clients.{were_whole}
use Rattle.seam_law_forms.proofs.Rounds.{in_form, leaves_book, leaves_homes}
use Rattle.seam_judge_rounds.specs.After.{after_round, place_at}
use Rattle.seam_law_verdicts.specs.Due.{Due, RoundDue, EndDue, MakesDue}
use Rattle.seam_law_verdicts.specs.Kept.{Keeps}
use Rattle.seam_law_verdicts.specs.Verdicts.{AreAllCounted, Fails, FailsRound, LeaveShown}
use Rattle.seam_law_verdicts.proofs.Failing.{does_not_fail, one_point}

-- the lines that are left print the pieces, and then this is due
abbrev pub Path : Header → Standing → List Line → List Piece → Due → Type 0
Path h s [] ps d =
    ((ps ≡ []) × (d ≡ RoundDue s) × (open_lines s.book ≢ 0)) ⊎ ((d ≡ EndDue) × EndsInput h s ps)
Path h s (line ∷ ls) ps d =
    ((ps ≡ []) × (v : Verdict) × Judges h s.book line v × MakesDue (with_line s) v d)
    ⊎ ((a : List Piece) × (b : List Piece) × (mid : Standing) × (ps ≡ a ++ b) × Step h s line a mid × Path h mid ls b d)

-- what comes after lines that were read
pub run_then : (h : Header) (first later : List Line) (s t : Standing) (ps last : List Piece) (d : Due) → Run (Step h) s first ps t →
    Path h t later last d → Path h s (first ++ later) (ps ++ last) d
run_then h [] later s t ps last d (none, is) path =
    subst (λ (xs : List Piece). Path h s later (xs ++ last) d) (sym none) (subst (λ (u : Standing). Path h u later last d) is path)
run_then h (line ∷ first) later s t ps last d (a, b, mid, is, step, run) path =
    inr (
      a,
      b ++ last,
      mid,
      ap (λ (xs : List Piece). xs ++ last) is ∙ append_assoc a b last,
      step,
      run_then h first later mid t b last d run path,
    )

-- ---- what holds of each standing

home_shown : (n : ℕ) (r : RoundData) (homes : List HomeLine) (e : ℕ) → 0 < n → All (λ (l : HomeLine). l.cell < n) homes →
    (unwrap_or (option_map (place_at r) (find (λ (l : HomeLine). l.entity == e) homes)) in_first_cell).home < n
home_shown n r [] e some all = some
home_shown n r (l ∷ homes) e some all =
    by (l.entity == e) (home_shown n r homes e some (All-tail (λ (m : HomeLine). m.cell < n) l homes all))
  where
    by : (t : Bool) →
        (unwrap_or (option_map (place_at r) (find (λ (m : HomeLine). m.entity == e) homes)) in_first_cell).home < n →
        (unwrap_or (option_map (place_at r) (cond t (Some l) (find (λ (m : HomeLine). m.entity == e) homes))) in_first_cell).home < n
    by true later = All-head (λ (m : HomeLine). m.cell < n) l homes all
    by false later = later

module _ (h : Header) (legal : AreLegal h.settings) (defs : AreDefs h.defs) where
  abbrev text : List Piece → List ℕ
  text ps = text_of false h.defs ps

  pub kept_line : (s : Standing) → Keeps h s → Keeps h (with_line s)
  kept_line s k = record { of_lines = k.of_lines; homes = k.homes; were = k.were }

  -- an accepted line takes no cell away
  more_cells : (b : Book) (x : Entry) → IsOfLines h b → IsProper h b x → cells_of (tree_of b) ≤ cells_of (tree_of (with_entry b x))
  more_cells b (entry.Divided t) of_lines proper =
      let same = ap cells_of (tree_with b (entry.Divided t)) in
      let more = (proper (orderly h b legal of_lines).tree).cells in
      omega (arith, same, more)
  more_cells b x of_lines proper = let same = ap cells_of (tree_with b x) in omega (arith, same)

  pub kept_entry : (s : Standing) (line : Line) (x : Entry) → Keeps h s → Judges h s.book line (verdict.Accepted x) →
      Keeps h (with_book (with_line s) (with_entry s.book x))
  kept_entry s line x k judged = record {
    of_lines = accepts s.book x k.of_lines (line, judged);
    homes = λ e.
        let below = k.homes e in
        let more = more_cells s.book x k.of_lines (accepted_is_proper h s.book x (line, judged)) in
        omega (arith, below, more);
    were = k.were;
  }

  -- ---- a round ends

  -- it holds after a legal round, too, where that leaves what its lines show
  pub keeps_after : (s : Standing) (r : RoundData) (t : Standing) → Keeps h s → t ≡ after_round s r → IsRound h s r t → Keeps h t
  keeps_after s r t k left round = record {
    of_lines = leaves_book h s r t legal k.of_lines round;
    homes = λ e.
        subst (λ (p : Place). p.home < cells_of (tree_of t.book)) (sym (ap (λ (u : Standing). u.places e) left))
        (home_shown (cells_of (tree_of t.book)) r r.homes e (omega arith) (leaves_homes h s r t legal k.of_lines k.homes round));
    were = were_whole h s r t k.of_lines k.were round;
  }

  -- the round that ended, in form
  pub record HasEnded (s : Standing) (ps : List Piece) (t : Standing) : Type 0 where
    pub round : RoundData
    pub legal_ : IsRound h s round t
    pub left : t ≡ after_round s round
    pub form : IsFormed h.defs s.book round
    pub is : text ps ≡ round_text h.defs round
    pub keeps : Keeps h t

  pub has_ended : (s : Standing) (ps : List Piece) (t : Standing) → Keeps h s → LeaveShown ps → AreAllCounted ps → EndsRound h s ps t →
      HasEnded s ps t
  has_ended s ps t k shown counted (r, j, is, round) =
      let left : t ≡ after_round s r = (subst LeaveShown is shown).0 in
      let few : AreCounted s t = (subst AreAllCounted is counted).0 in
      record {
        round = r;
        legal_ = round;
        left = left;
        form = in_form h s r t legal defs k.of_lines k.homes k.were few round;
        is = ap text is ∙ append-nil (round_text h.defs r);
        keeps = keeps_after s r t k left round;
      }

  -- so what is due there does not fail
  no_failure : (s : Standing) (ps : List Piece) (t : Standing) → HasEnded s ps t → (after whole : List ℕ) (n : ℕ) →
      whole ≡ text ps ++ after → FailsRound h s whole n → ⊥
  no_failure s ps t ended after whole n is fails =
      does_not_fail h s ended.round defs ended.form (subst (IsRound h s ended.round) ended.left ended.legal_) after n
      (subst (λ (x : List ℕ). FailsRound h s x n) (is ∙ ap (λ (x : List ℕ). x ++ after) ended.is) fails)

  -- and the round is one
  pub record Agree (ps qs : List Piece) (t u : Standing) (x y : List ℕ) : Type 0 where
    pub texts : text ps ≡ text qs
    pub left : t ≡ u
    pub rest : x ≡ y

  pub rounds_agree : (s : Standing) (ps qs : List Piece) (t u : Standing) → HasEnded s ps t → HasEnded s qs u → (x y : List ℕ) →
      text ps ++ x ≡ text qs ++ y → Agree ps qs t u x y
  rounds_agree s ps qs t u one other x y e =
      let both =
      first_round h.defs defs s.book one.round other.round x y one.form other.form
      (ap (λ (z : List ℕ). z ++ x) (sym one.is) ∙ e ∙ ap (λ (z : List ℕ). z ++ y) other.is) in
      record {
        texts = one.is ∙ ap (round_text h.defs) both.0 ∙ sym other.is;
        left = one.left ∙ ap (after_round s) both.0 ∙ sym other.left;
        rest = both.1;
      }

  -- ---- a line

  -- what is printed for a line, and what is then kept
  pub record Goes (a c : List Piece) (t u : Standing) (x y : List ℕ) : Type 0 where
    pub agree : Agree a c t u x y
    pub keeps : Keeps h t

  nothing_goes : (s : Standing) → Keeps h s → (a c : List Piece) (t u : Standing) → (a ≡ []) × (t ≡ s) → (c ≡ []) × (u ≡ s) →
      (x y : List ℕ) → text a ++ x ≡ text c ++ y → Goes a c t u x y
  nothing_goes s k a c t u (none, is) (nothing, at) x y e = record {
    agree = record {
      texts = ap text (none ∙ sym nothing);
      left = is ∙ sym at;
      rest = sym (ap (λ (z : List Piece). text z ++ x) none) ∙ e ∙ ap (λ (z : List Piece). text z ++ y) nothing;
    };
    keeps = subst (Keeps h) (sym is) k;
  }

  round_goes : (s : Standing) → Keeps h s → (a c : List Piece) (t u : Standing) → LeaveShown a → LeaveShown c → AreAllCounted a →
      AreAllCounted c → EndsRound h s a t → EndsRound h s c u → (x y : List ℕ) → text a ++ x ≡ text c ++ y → Goes a c t u x y
  round_goes s k a c t u sa sc ca cc_ one other x y e =
      let first = has_ended s a t k sa ca one in
      record { agree = rounds_agree s a c t u first (has_ended s c u k sc cc_ other) x y e; keeps = first.keeps }

  -- what one verdict prints is one
  pub follows_go : (s : Standing) (line : Line) (v : Verdict) → Keeps h s → Judges h s.book line v → (a c : List Piece) (t u : Standing) →
      LeaveShown a → LeaveShown c → AreAllCounted a → AreAllCounted c → Follows h (with_line s) v a t → Follows h (with_line s) v c u →
      (x y : List ℕ) → text a ++ x ≡ text c ++ y → Goes a c t u x y
  follows_go s line verdict.Skipped k judged a c t u sa sc ca cb one other x y e =
      nothing_goes (with_line s) (kept_line s k) a c t u one other x y e
  follows_go s line (verdict.Refused cause) k judged a c t u sa sc ca cb (is, at) (same, left) x y e = record {
    agree = record {
      texts = ap text (is ∙ sym same);
      left = at ∙ sym left;
      rest = append_cancel_left (text a) x y (e ∙ ap (λ (z : List Piece). text z ++ y) (same ∙ sym is));
    };
    keeps = subst (Keeps h) (sym at) (kept_line s k);
  }
  follows_go s line (verdict.Accepted added) k judged a c t u sa sc ca cb one other x y e =
      by (open_lines kept.book == MOST_LINES) one other
    where
      kept : Standing
      kept = with_book (with_line s) (with_entry s.book added)

      by : (full : Bool) → MatchBool full (EndsRound h kept a t) ((a ≡ []) × (t ≡ kept)) →
          MatchBool full (EndsRound h kept c u) ((c ≡ []) × (u ≡ kept)) → Goes a c t u x y
      by true p q = round_goes kept (kept_entry s line added k judged) a c t u sa sc ca cb p q x y e
      by false p q = nothing_goes kept (kept_entry s line added k judged) a c t u p q x y e
  follows_go s line verdict.Synced k judged a c t u sa sc ca cb one other x y e =
      round_goes (with_line s) (kept_line s k) a c t u sa sc ca cb one other x y e

  -- where something fails that a line makes due, the line prints nothing else
  pub stops : (s : Standing) (line : Line) (v : Verdict) → Keeps h s → Judges h s.book line v → (d : Due) → MakesDue (with_line s) v d →
      (a : List Piece) (t : Standing) → LeaveShown a → AreAllCounted a → Follows h (with_line s) v a t → (whole after : List ℕ) (n : ℕ) →
      whole ≡ text a ++ after → Fails h d whole n → ⊥
  stops s line verdict.Skipped k judged d makes a t shown counted follows whole after n is fails = makes
  stops s line (verdict.Refused cause) k judged d makes a t shown counted (piece, left) whole after n is fails =
      let due = subst (λ (x : Due). Fails h x whole n) makes fails in
      due.1 (
        after,
        is ∙ ap (λ (z : List Piece). text z ++ after) piece
            ∙ ap (λ (z : List ℕ). z ++ after) (append-nil (refusal (with_line s).lines cause)),
      )
  stops s line (verdict.Accepted added) k judged d (full, makes) a t shown counted follows whole after n is fails =
      by (open_lines kept.book == MOST_LINES) refl follows
    where
      kept : Standing
      kept = with_book (with_line s) (with_entry s.book added)

      by : (z : Bool) → (open_lines kept.book == MOST_LINES) ≡ z → MatchBool z (EndsRound h kept a t) ((a ≡ []) × (t ≡ kept)) → ⊥
      by true at ends =
          no_failure kept a t (has_ended kept a t (kept_entry s line added k judged) shown counted ends) after whole n is
          (subst (λ (x : Due). Fails h x whole n) makes fails)
      by false at nothing = grind (arith, nat_tests, at, full)
  stops s line verdict.Synced k judged d makes a t shown counted follows whole after n is fails =
      no_failure (with_line s) a t (has_ended (with_line s) a t (kept_line s k) shown counted follows) after whole n is
      (subst (λ (x : Due). Fails h x whole n) makes fails)

  -- what a line makes due is one
  due_is_one : (s : Standing) (v : Verdict) (d e : Due) → MakesDue s v d → MakesDue s v e → d ≡ e
  due_is_one s verdict.Skipped d e one other = absurd one
  due_is_one s (verdict.Refused cause) d e one other = one ∙ sym other
  due_is_one s (verdict.Accepted added) d e one other = one.1 ∙ sym other.1
  due_is_one s verdict.Synced d e one other = one ∙ sym other

  -- ---- paths

  texts_split : (a b : List Piece) → text (a ++ b) ≡ text a ++ text b
  texts_split a b = flat_map-append (piece_text false h.defs) a b

  pub split_is : (ps a b : List Piece) (x : List ℕ) → ps ≡ a ++ b → text ps ++ x ≡ text a ++ (text b ++ x)
  split_is ps a b x is =
      ap (λ (z : List Piece). text z ++ x) is ∙ ap (λ (z : List ℕ). z ++ x) (texts_split a b) ∙ append_assoc (text a) (text b) x

  pub shown_split : (a b : List Piece) → LeaveShown (a ++ b) → LeaveShown a × LeaveShown b
  shown_split [] b all = (tt, all)
  shown_split (Refusal line cause ∷ a) b all = shown_split a b all
  shown_split (Ended s r j t ∷ a) b all = let both = shown_split a b all.1 in ((all.0, both.0), both.1)

  pub counted_split : (a b : List Piece) → AreAllCounted (a ++ b) → AreAllCounted a × AreAllCounted b
  counted_split [] b all = (tt, all)
  counted_split (Refusal line cause ∷ a) b all = counted_split a b all
  counted_split (Ended s r j t ∷ a) b all = let both = counted_split a b all.1 in ((all.0, both.0), both.1)

  -- what is printed up to a failure is one text, and the failure has one number
  pub record Same (ps qs : List Piece) (n m : ℕ) : Type 0 where
    pub texts : text ps ≡ text qs
    pub numbers : n ≡ m

  both_stop : (ps qs : List Piece) (d e : Due) → ps ≡ [] → qs ≡ [] → d ≡ e → (x y : List ℕ) → text ps ++ x ≡ text qs ++ y → (n m : ℕ) →
      Fails h d x n → Fails h e y m → Same ps qs n m
  both_stop ps qs d e none nothing due x y is n m fx fy =
      let rest : x ≡ y =
      sym (ap (λ (z : List Piece). text z ++ x) none) ∙ is ∙ ap (λ (z : List Piece). text z ++ y) nothing in
      record {
        texts = ap text (none ∙ sym nothing);
        numbers =
            one_point h defs e y n m
            (subst (λ (z : Due). Fails h z y n) due (subst (λ (z : List ℕ). Fails h d z n) rest fx)) fy;
      }

  -- where the input ends
  pub round_or_end : (s : Standing) → Keeps h s → (qs : List Piece) → LeaveShown qs → AreAllCounted qs → open_lines s.book ≢ 0 →
      EndsInput h s qs → (x y : List ℕ) → x ≡ text qs ++ y → (n : ℕ) → FailsRound h s x n → ⊥
  round_or_end s k qs shown counted has_lines ends x y is n fails = by (open_lines s.book == 0) refl ends
    where
      by : (z : Bool) → (open_lines s.book == 0) ≡ z → MatchBool z (qs ≡ []) ((t : Standing) × EndsRound h s qs t) → ⊥
      by true at none = let closed : open_lines s.book ≡ 0 = grind (arith, nat_tests, at) in has_lines closed
      by false at (t, ended) = no_failure s qs t (has_ended s qs t k shown counted ended) y x n is fails

  both_end : (s : Standing) → Keeps h s → (ps qs : List Piece) (d e : Due) → LeaveShown ps → LeaveShown qs → AreAllCounted ps →
      AreAllCounted qs → d ≡ EndDue → e ≡ EndDue → EndsInput h s ps → EndsInput h s qs → (x y : List ℕ) →
      text ps ++ x ≡ text qs ++ y → (n m : ℕ) → Fails h d x n → Fails h e y m → Same ps qs n m
  both_end s k ps qs d e sp sq cp cq due_d due_e one other x y is n m fx fy = by (open_lines s.book == 0) one other
    where
      by : (z : Bool) → MatchBool z (ps ≡ []) ((t : Standing) × EndsRound h s ps t) →
          MatchBool z (qs ≡ []) ((t : Standing) × EndsRound h s qs t) → Same ps qs n m
      by true none nothing = both_stop ps qs d e none nothing (due_d ∙ sym due_e) x y is n m fx fy
      by false (t, p) (u, q) =
          let agree = rounds_agree s ps qs t u (has_ended s ps t k sp cp p) (has_ended s qs u k sq cq q) x y is in
          record {
            texts = agree.texts;
            numbers =
                one_point h defs e y n m
                (subst (λ (w : Due). Fails h w y n) (due_d ∙ sym due_e) (subst (λ (w : List ℕ). Fails h d w n) agree.rest fx)) fy;
          }

  pub paths_one : (ls : List Line) (s : Standing) → Keeps h s → (ps qs : List Piece) (d e : Due) → LeaveShown ps → LeaveShown qs →
      AreAllCounted ps → AreAllCounted qs → Path h s ls ps d → Path h s ls qs e → (x y : List ℕ) → text ps ++ x ≡ text qs ++ y →
      (n m : ℕ) → Fails h d x n → Fails h e y m → Same ps qs n m
  paths_one [] s k ps qs d e sp sq cp cq (inl (none, due, has_lines)) (inl (nothing, too, opened)) x y is n m fx fy =
      both_stop ps qs d e none nothing (due ∙ sym too) x y is n m fx fy
  paths_one [] s k ps qs d e sp sq cp cq (inl (none, due, has_lines)) (inr (end, ends)) x y is n m fx fy =
      absurd (round_or_end s k qs sq cq has_lines ends x y (sym (ap (λ (z : List Piece). text z ++ x) none) ∙ is) n
      (subst (λ (z : Due). Fails h z x n) due fx))
  paths_one [] s k ps qs d e sp sq cp cq (inr (end, ends)) (inl (nothing, too, opened)) x y is n m fx fy =
      absurd (round_or_end s k ps sp cp opened ends y x (sym (ap (λ (z : List Piece). text z ++ y) nothing) ∙ sym is) m
      (subst (λ (z : Due). Fails h z y m) too fy))
  paths_one [] s k ps qs d e sp sq cp cq (inr (end, ends)) (inr (over, finish)) x y is n m fx fy =
      both_end s k ps qs d e sp sq cp cq end over ends finish x y is n m fx fy
  paths_one (line ∷ ls) s k ps qs d e sp sq cp cq (inl (none, v, judged, makes)) (inl (nothing, w, ruled, calls)) x y is n m fx fy =
      let same = verdict_is_one_of h s.book line v w defs judged ruled in
      let due = due_is_one (with_line s) w d e (subst (λ (z : Verdict). MakesDue (with_line s) z d) same makes) calls in
      both_stop ps qs d e none nothing due x y is n m fx fy
  paths_one (line ∷ ls) s k ps qs d e sp sq cp cq (inl (none, v, judged, makes)) (inr (a, b, mid, at, (w, ruled, follows), rest)) x y is n m
      fx fy =
      let same = verdict_is_one_of h s.book line v w defs judged ruled in
      absurd (stops s line v k judged d makes a mid (shown_split a b (subst LeaveShown at sq)).0
      (counted_split a b (subst AreAllCounted at cq)).0
      (subst (λ (z : Verdict). Follows h (with_line s) z a mid) (sym same) follows) x (text b ++ y) n
      (sym (ap (λ (z : List Piece). text z ++ x) none) ∙ is ∙ split_is qs a b y at) fx)
  paths_one (line ∷ ls) s k ps qs d e sp sq cp cq (inr (a, b, mid, at, (v, judged, follows), rest))
      (inl (nothing, w, ruled, calls)) x y is n m fx fy =
      let same = verdict_is_one_of h s.book line v w defs judged ruled in
      absurd (stops s line w k ruled e calls a mid (shown_split a b (subst LeaveShown at sp)).0
      (counted_split a b (subst AreAllCounted at cp)).0
      (subst (λ (z : Verdict). Follows h (with_line s) z a mid) same follows) y (text b ++ x) m
      (sym (ap (λ (z : List Piece). text z ++ y) nothing) ∙ sym is ∙ split_is ps a b x at) fy)
  paths_one (line ∷ ls) s k ps qs d e sp sq cp cq (inr (a, b, mid, at, (v, judged, follows), rest))
      (inr (c, f, end, there, (w, ruled, goes_on), more)) x y is n m fx fy =
      let same = verdict_is_one_of h s.book line v w defs judged ruled in
      let one = shown_split a b (subst LeaveShown at sp) in
      let other = shown_split c f (subst LeaveShown there sq) in
      let few = counted_split a b (subst AreAllCounted at cp) in
      let fewer = counted_split c f (subst AreAllCounted there cq) in
      let goes =
      follows_go s line v k judged a c mid end one.0 other.0 few.0 fewer.0 follows
      (subst (λ (z : Verdict). Follows h (with_line s) z c end) (sym same) goes_on) (text b ++ x) (text f ++ y)
      (sym (split_is ps a b x at) ∙ is ∙ split_is qs c f y there) in
      let later =
      paths_one ls mid goes.keeps b f d e one.1 other.1 few.1 fewer.1 rest
      (subst (λ (u : Standing). Path h u ls f e) (sym goes.agree.left) more) x y goes.agree.rest n m fx fy in
      record {
        texts =
            ap text at ∙ texts_split a b ∙ (λ i. goes.agree.texts i ++ later.texts i) ∙ sym (ap text there ∙ texts_split c f);
        numbers = later.numbers;
      }
