-- How a text is judged, line by line.
use Rattle.std.proofs.Common.{◌≡◌, ◌≢◌, ℕ, ◌+◌, Bool, true, false, List, [], ◌∷◌, ◌++◌, length, refl, sym, ◌∙◌, ap, subst, arith}
use Rattle.std.proofs.Common.{inl, inr, append_assoc, append-nil, MatchBool}
use Rattle.std.specs.Prelude.{◌==◌}
use Rattle.std.specs.List.{count_by}
use Rattle.std.proofs.lemmas.Bool.Decides.{nat_tests}
use Rattle.std.proofs.lemmas.Grind.{flat_map-append}
use Rattle.seam_io.specs.Lines.{is_feed}
use Rattle.seam_rule_rounds.specs.Prelude.{Line, Header, BeginWithHeader, Judges, open_lines, MOST_LINES, Standing, Piece}
use Rattle.seam_rule_rounds.specs.Prelude.{Refusal, Ended, IsRound, RoundData, Entry, Step, PrintAll, PrintLines, refusal, separator}
use Rattle.seam_rule_rounds.specs.Prelude.{round_text}
use Rattle.seam_rule_rounds.specs.Standing.{after_header, with_line}
use Rattle.seam_rule_rounds.specs.Transcript.{EndsRound, Follows, piece_text, text_of}
use Rattle.seam_rule_lines.proofs.RunLemmas.{run_with_line}
use Rattle.seam_rule_lines.specs.declared.verdict.Cause.{Cause}
use Rattle.seam_rule_lines.specs.declared.verdict.Verdict.{Verdict}
use Rattle.seam_rule_lines.specs.declared.verdict.Verdict.TheVariants as verdict
use Rattle.seam_watch.specs.declared.journal.Journal.{Journal}
use Rattle.seam_law_book.specs.Prelude.{empty}
use Rattle.seam_judge_data.specs.Standings.{standing_of}
use Rattle.seam_judge_data.specs.declared.standing.Standing as plain
use Rattle.seam_judge_rounds.specs.After.{after_round}
use Rattle.seam_judge_rounds.specs.HeldPlaces.{HaveHomes}
use Rattle.seam_judge_reader.specs.Scripts.{IsAt, LineRead, ScriptView, kept_of}
use Rattle.seam_judge_reader.specs.declared.script.Read.TheVariants as read
use Rattle.seam_law_verdicts.specs.Due.{RefusalDue, RoundDue, EndDue, MakesDue}
use Rattle.seam_law_verdicts.specs.Verdicts.{FailsAt, FailsRound, IsTranscript, LeaveShown}
use Rattle.seam_law_verdicts.proofs.Courses.{keeps_after, kept_entry, kept_line}
use Rattle.seam_check.specs.Judged.{EndGoes, EndTaken, HasJudged, IsBeside, LineFails, LineGoes, LineTaken, RefusalTaken, RoundTaken}
use Rattle.seam_check.specs.Judged.{Stands}
use Rattle.seam_check.specs.declared.judging.Taken.{Taken}
use Rattle.seam_check.specs.declared.judging.Taken.TheVariants as taken

abbrev no_pieces : List Piece
no_pieces = []

-- how a round was played is not asked
abbrev no_journal : Journal
no_journal = record { calls = []; reaps = []; looks = [] }

-- pieces that leave what they show, one after the other
shown_append : (ps qs : List Piece) → LeaveShown ps → LeaveShown qs → LeaveShown (ps ++ qs)
shown_append [] qs one other = other
shown_append (Refusal line c ∷ ps) qs one other = shown_append ps qs one other
shown_append (Ended s r j t ∷ ps) qs one other = (one.0, shown_append ps qs one.1 other)

-- each entity is held in a cell of the tree
pub homes_stand : (s : ScriptView) → Stands s → HaveHomes (standing_of s.standing)
homes_stand s (h, t, beside) = subst HaveHomes (sym beside.at.standing) beside.keeps.homes

-- whether a line of the open round was kept
pub open_is : (h : Header) (t : Standing) (s : ScriptView) → IsBeside h t s → (p : plain.Standing) → p ≡ s.standing →
    length p.current.items ≡ open_lines t.book
open_is h t s beside p is =
    ap (λ (q : plain.Standing). length q.current.items) is
    ∙ ap (λ (u : Standing). length u.book.current) beside.at.standing

-- nothing was read after the header
pub begins_beside : (lines rest : List Line) (h : Header) (count : ℕ) (s : ScriptView) → BeginWithHeader lines h count rest →
    IsAt h (after_header h count) s → IsBeside h (after_header h count) s
begins_beside lines rest h count s begins at = record {
  legal = begins.reads.defines.legal;
  defs = begins.reads.defines.sound;
  at = at;
  keeps = record { of_lines = empty; homes = λ e. omega arith; were = λ e. tt };
}

pub nothing_judged : (h : Header) (count : ℕ) (text : List ℕ) → HasJudged h count [] (after_header h count) text text
nothing_judged h count text = record { pieces = []; run = (refl, refl); shown = tt; begins = refl }

-- ---- a line

module _ (h : Header) (t : Standing) (old : ScriptView) (was : IsBeside h t old) (line : Line) (mid : ScriptView) where
  beside_line : IsAt h (with_line t) mid → IsBeside h (with_line t) mid
  beside_line at =
      record { legal = was.legal; defs = was.defs; at = at; keeps = kept_line h was.legal was.defs t was.keeps }

  beside_entry : (x : Entry) → Judges h t.book line (verdict.Accepted x) → IsAt h (kept_of t x) mid → IsBeside h (kept_of t x) mid
  beside_entry x judged at =
      record { legal = was.legal; defs = was.defs; at = at; keeps = kept_entry h was.legal was.defs t line x was.keeps judged }

  -- a round ends: the script stands
  pub stands_at_round : LineRead h t line read.RoundEnds mid → Stands mid
  stands_at_round (inl (judged, at)) = (h, with_line t, beside_line at)
  stands_at_round (inr (x, judged, all, at)) = (h, kept_of t x, beside_entry x judged at)

  module _ (text : List ℕ) where
    -- a line that is skipped
    pub skipped : LineRead h t line read.Skipped mid → LineGoes h t line text text mid
    skipped (judged, at) = record {
      after = with_line t;
      pieces = [];
      step = (verdict.Skipped, judged, (refl, refl));
      shown = tt;
      is = refl;
      beside = beside_line at;
    }

    -- a line that is accepted, with which the round goes on
    pub kept : LineRead h t line read.Kept mid → LineGoes h t line text text mid
    kept (x, judged, few, at) = record {
      after = kept_of t x;
      pieces = [];
      step = (verdict.Accepted x, judged, by (open_lines (kept_of t x).book == MOST_LINES) refl);
      shown = tt;
      is = refl;
      beside = beside_entry x judged at;
    }
      where
        by : (full : Bool) → (open_lines (kept_of t x).book == MOST_LINES) ≡ full →
            MatchBool full (EndsRound h (kept_of t x) [] (kept_of t x)) ((no_pieces ≡ []) × (kept_of t x ≡ kept_of t x))
        by true at = let all : open_lines (kept_of t x).book ≡ MOST_LINES = grind (arith, nat_tests, at) in absurd (few all)
        by false at = (refl, refl)

    -- a line that is refused
    pub refused : (c : Cause) → LineRead h t line (read.Refused c) mid → (r : Taken) → RefusalTaken (with_line t).lines c text r →
        LineTaken h t line text mid r
    refused c (judged, at) (taken.Goes left) is = record {
      after = with_line t;
      pieces = Refusal (with_line t).lines c ∷ [];
      step = (verdict.Refused c, judged, (refl, refl));
      shown = tt;
      is = is ∙ ap (λ (x : List ℕ). x ++ left.now) (sym (append-nil (refusal (with_line t).lines c)));
      beside = beside_line at;
    }
    refused c (judged, at) (taken.Fails number) fails = record {
      verdict = verdict.Refused c;
      judged = judged;
      due = RefusalDue (with_line t).lines c;
      makes = refl;
      fails = fails;
    }

    -- a line with which a round ends
    module _ (s : Standing) (v : Verdict) (judged : Judges h t.book line v) (beside : IsBeside h s mid)
        (follows : (r : RoundData) (j : Journal) → IsRound h s r (after_round s r) →
        Follows h (with_line t) v (Ended s r j (after_round s r) ∷ []) (after_round s r)) (makes : MakesDue (with_line t) v (RoundDue s))
        (new : ScriptView)
      where
        round_taken : (r : Taken) → RoundTaken h s text new r → LineTaken h t line text new r
        round_taken (taken.Goes left) goes = record {
          after = after_round s goes.round;
          pieces = Ended s goes.round no_journal (after_round s goes.round) ∷ [];
          step = (v, judged, follows goes.round no_journal goes.legal);
          shown = (refl, tt);
          is = goes.is ∙ ap (λ (x : List ℕ). x ++ left.now) (sym (append-nil (round_text h.defs goes.round)));
          beside = record {
            legal = was.legal;
            defs = was.defs;
            at = goes.at;
            keeps = keeps_after h was.legal was.defs s goes.round (after_round s goes.round) beside.keeps refl goes.legal;
          };
        }
        round_taken (taken.Fails number) fails = record {
          verdict = v;
          judged = judged;
          due = RoundDue s;
          makes = makes;
          fails = fails;
        }

    pub round_ends : LineRead h t line read.RoundEnds mid → (new : ScriptView) (r : Taken) →
        ((s : Standing) → IsBeside h s mid → RoundTaken h s text new r) → LineTaken h t line text new r
    round_ends (inl (judged, at)) new r taken =
        round_taken (with_line t) verdict.Synced judged (beside_line at) (λ x j round. (x, j, refl, round)) refl new r
        (taken (with_line t) (beside_line at))
    round_ends (inr (x, judged, all, at)) new r taken =
        round_taken (kept_of t x) (verdict.Accepted x) judged (beside_entry x judged at)
        (λ d j round. by d j round (open_lines (kept_of t x).book == MOST_LINES) refl) (all, refl) new r
        (taken (kept_of t x) (beside_entry x judged at))
      where
        by : (d : RoundData) (j : Journal) → IsRound h (kept_of t x) d (after_round (kept_of t x) d) → (full : Bool) →
            (open_lines (kept_of t x).book == MOST_LINES) ≡ full →
            MatchBool full
            (EndsRound h (kept_of t x) (Ended (kept_of t x) d j (after_round (kept_of t x) d) ∷ []) (after_round (kept_of t x) d))
            ((Ended (kept_of t x) d j (after_round (kept_of t x) d) ∷ [] ≡ []) × (after_round (kept_of t x) d ≡ kept_of t x))
        by d j round true at = (d, j, refl, round)
        by d j round false at = absurd (grind (arith, nat_tests, at, all))

-- ---- the end of the input

module _ (h : Header) (t : Standing) (text : List ℕ) where
  -- no line is open
  pub end_closed : open_lines t.book ≡ 0 → EndGoes h t text text
  end_closed none = record { pieces = []; ends = by (open_lines t.book == 0) refl; shown = tt; is = refl }
    where
      by : (z : Bool) → (open_lines t.book == 0) ≡ z → MatchBool z (no_pieces ≡ []) ((u : Standing) × EndsRound h t [] u)
      by true at = refl
      by false at = absurd (grind (arith, nat_tests, at, none))

  -- a round is open
  pub end_open : open_lines t.book ≢ 0 → (new : ScriptView) (r : Taken) → RoundTaken h t text new r → EndTaken h t text r
  end_open some new (taken.Goes left) goes = record {
    pieces = ps;
    ends = by (open_lines t.book == 0) refl;
    shown = (refl, tt);
    is = goes.is ∙ ap (λ (x : List ℕ). x ++ left.now) (sym (append-nil (round_text h.defs goes.round)));
  }
    where
      ps : List Piece
      ps = Ended t goes.round no_journal (after_round t goes.round) ∷ []

      by : (z : Bool) → (open_lines t.book == 0) ≡ z → MatchBool z (ps ≡ []) ((u : Standing) × EndsRound h t ps u)
      by true at = let none : open_lines t.book ≡ 0 = grind (arith, nat_tests, at) in absurd (some none)
      by false at = (after_round t goes.round, (goes.round, no_journal, refl, goes.legal))
  end_open some new (taken.Fails number) fails = (some, fails)

-- ---- what was judged

module _ (h : Header) (count : ℕ) (read : List Line) (t : Standing) (text left : List ℕ) (was : HasJudged h count read t text left) where
  more_begins : (ps : List Piece) (after : List ℕ) → left ≡ text_of false h.defs ps ++ after →
      text ≡ text_of false h.defs (was.pieces ++ ps) ++ after
  more_begins ps after is =
      was.begins ∙ ap (λ (x : List ℕ). text_of false h.defs was.pieces ++ x) is
      ∙ sym (append_assoc (text_of false h.defs was.pieces) (text_of false h.defs ps) after)
      ∙ ap (λ (x : List ℕ). x ++ after) (sym (flat_map-append (piece_text false h.defs) was.pieces ps))

  -- a line more
  pub goes_on : (line : Line) (rest : List ℕ) (s : ScriptView) (x : LineGoes h t line left rest s) →
      HasJudged h count (read ++ line ∷ []) x.after text rest
  goes_on line rest s x = record {
    pieces = was.pieces ++ x.pieces;
    run = run_with_line (Step h) (after_header h count) read was.pieces t line x.pieces x.after was.run x.step;
    shown = shown_append was.pieces x.pieces was.shown x.shown;
    begins = more_begins x.pieces rest x.is;
  }

  module _ (lines more : List Line) (begins : BeginWithHeader lines h count (read ++ more)) where
    prints : PrintLines (begins.head ++ separator ∷ read) h was.pieces t
    prints = record {
      count = count;
      rest = read;
      header = record {
        head = begins.head;
        text = begins.text;
        are = begins.are;
        reads = begins.reads;
        number = begins.number;
        whole = refl;
      };
      run = was.run;
    }

    whole : lines ≡ (begins.head ++ separator ∷ read) ++ more
    whole = begins.whole ∙ sym (append_assoc begins.head (separator ∷ read) more)

    -- what the next line makes due fails
    pub line_fails : (line : Line) (others : List Line) → more ≡ line ∷ others → (number place : ℕ) → LineFails h t line left number →
        ((front : List ℕ) → text ≡ front ++ left → place ≡ count_by is_feed front + 1) → FailsAt lines text place number
    line_fails line others is number place x at = record {
      header = h;
      pieces = was.pieces;
      shown = was.shown;
      due = x.due;
      is_due =
          inl (record {
            read = begins.head ++ separator ∷ read;
            line = line;
            more = others;
            whole = whole ∙ ap (λ (ls : List Line). (begins.head ++ separator ∷ read) ++ ls) is;
            standing = t;
            printed = prints;
            verdict = x.verdict;
            judged = x.judged;
            makes = x.makes;
          });
      rest = left;
      begins = was.begins;
      fails = x.fails;
      at = at (text_of false h.defs was.pieces) was.begins;
    }

    -- all lines were read
    module _ (over : more ≡ []) where
      all_printed : PrintLines lines h was.pieces t
      all_printed =
          subst (λ (ls : List Line). PrintLines ls h was.pieces t)
          (sym (whole ∙ ap (λ (ls : List Line). (begins.head ++ separator ∷ read) ++ ls) over
          ∙ append-nil (begins.head ++ separator ∷ read)))
          prints

      -- the open round fails
      pub last_fails : (number place : ℕ) → (open_lines t.book ≢ 0) × FailsRound h t left number →
          ((front : List ℕ) → text ≡ front ++ left → place ≡ count_by is_feed front + 1) → FailsAt lines text place number
      last_fails number place (some, fails) at = record {
        header = h;
        pieces = was.pieces;
        shown = was.shown;
        due = RoundDue t;
        is_due = inr (all_printed, some);
        rest = left;
        begins = was.begins;
        fails = fails;
        at = at (text_of false h.defs was.pieces) was.begins;
      }

      module _ (rest : List ℕ) (x : EndGoes h t left rest) where
        printed : PrintAll lines h (was.pieces ++ x.pieces)
        printed = (was.pieces, x.pieces, t, all_printed, x.ends, refl)

        -- nothing is left
        pub ended : rest ≡ [] → IsTranscript lines text
        ended none = (
          h,
          was.pieces ++ x.pieces,
          printed,
          more_begins x.pieces rest x.is ∙ ap (λ (y : List ℕ). text_of false h.defs (was.pieces ++ x.pieces) ++ y) none
              ∙ append-nil (text_of false h.defs (was.pieces ++ x.pieces)),
        )

        -- something is
        pub end_fails : (place : ℕ) → rest ≢ [] →
            ((front : List ℕ) → text ≡ front ++ rest → place ≡ count_by is_feed front + 1) → FailsAt lines text place 0
        end_fails place some at = record {
          header = h;
          pieces = was.pieces ++ x.pieces;
          shown = shown_append was.pieces x.pieces was.shown x.shown;
          due = EndDue;
          is_due = inr printed;
          rest = rest;
          begins = more_begins x.pieces rest x.is;
          fails = (refl, some);
          at = at (text_of false h.defs (was.pieces ++ x.pieces)) (more_begins x.pieces rest x.is);
        }
