-- What a program prints for a line, by the verdict on it.
use Rattle.std.proofs.Common.{◌≡◌, ◌≢◌, ℕ, ◌+◌, Bool, true, false, List, [], ◌∷◌, refl, sym, ◌∙◌, subst, arith, append-nil}
use Rattle.std.specs.Prelude.{MatchBool, ◌==◌}
use Rattle.std.proofs.lemmas.Grind.{common_steps}
use Rattle.seam_node_steps.specs.Prelude.{TypeDef}
use Rattle.seam_rule_rounds.specs.Prelude.{Line, Journal, Header, open_lines, with_entry, Judges, refusal, Entry, Cause, MOST_LINES}
use Rattle.seam_rule_rounds.specs.Prelude.{Standing, with_line, with_book, RoundData, Piece, Refusal, Ended, played_text, EndsRound}
use Rattle.seam_rule_lines.specs.declared.verdict.Verdict.TheVariants as verdict
use Rattle.seam_world_rounds.specs.Output.{round_output, refusal_output, output_of}
use Rattle.seam_world_rounds.specs.declared.round.Output.{Output}
use Rattle.seam_world_rounds.specs.declared.round.Output.TheVariants as output
use Rattle.seam_world_rounds.specs.Following.{RoundEnds, LineFollowed, LineRead, InputEnded}

one_piece : (o : Output) (defs : List TypeDef) (s : Standing) (r : RoundData) (j : Journal) (t : Standing) →
    output_of o defs (Ended s r j t ∷ []) ≡ round_output o defs r j
one_piece output.Rounds defs s r j t = append-nil (played_text false defs r j)
one_piece output.TracedRounds defs s r j t = append-nil (played_text true defs r j)
one_piece output.Sums defs s r j t = refl

one_refusal : (o : Output) (defs : List TypeDef) (line : ℕ) (c : Cause) → output_of o defs (Refusal line c ∷ []) ≡ refusal_output o line c
one_refusal output.Rounds defs line c = append-nil (refusal line c)
one_refusal output.TracedRounds defs line c = append-nil (refusal line c)
one_refusal output.Sums defs line c = refl

module _ (o : Output) (h : Header) (t : Standing) where
  -- a line that is skipped
  pub skipped : (line : Line) (refines : List Piece → Standing → Type 0) → Judges h t.book line verdict.Skipped → refines [] t →
      LineFollowed o h t line refines [] []
  skipped line refines judges holds = record {
    verdict = verdict.Skipped;
    judges = judges;
    pieces = [];
    next = t;
    follows = (refl, refl);
    whole = refl;
    stepped = refl;
    after = holds;
  }

  -- a line that ends the round
  pub synced : (line : Line) (refines : List Piece → Standing → Type 0) (text : List ℕ) (steps : Journal) →
      Judges h t.book line verdict.Synced →
      RoundEnds o h t refines text steps → LineFollowed o h t line refines text (steps ∷ [])
  synced line refines text steps judges ends = record {
    verdict = verdict.Synced;
    judges = judges;
    pieces = Ended t ends.round steps ends.next ∷ [];
    next = ends.next;
    follows = (ends.round, steps, refl, ends.legal);
    whole = ends.whole ∙ sym (one_piece o h.defs t ends.round steps ends.next);
    stepped = refl;
    after = ends.after;
  }

  -- a line that is kept, and filled the round, which ended
  pub kept_last : (line : Line) (x : Entry) (refines : List Piece → Standing → Type 0) (text : List ℕ) (steps : Journal) →
      Judges h t.book line (verdict.Accepted x) → open_lines (with_entry t.book x) ≡ MOST_LINES →
      RoundEnds o h (with_book t (with_entry t.book x)) refines text steps → LineFollowed o h t line refines text (steps ∷ [])
  kept_last line x refines text steps judges full ends =
      let at : Standing = with_book t (with_entry t.book x) in
      let test : (open_lines at.book == MOST_LINES) ≡ true = grind (arith, common_steps, full) in
      let pieces : List Piece = Ended at ends.round steps ends.next ∷ [] in
      record {
        verdict = verdict.Accepted x;
        judges = judges;
        pieces = pieces;
        next = ends.next;
        follows =
            subst (λ (b : Bool). MatchBool b (EndsRound h at pieces ends.next) ((pieces ≡ []) × (ends.next ≡ at))) (sym test)
            (ends.round, steps, refl, ends.legal);
        whole = ends.whole ∙ sym (one_piece o h.defs at ends.round steps ends.next);
        stepped = refl;
        after = ends.after;
      }

  -- one that is kept in a round with room for more
  pub kept_open : (line : Line) (x : Entry) (refines : List Piece → Standing → Type 0) → Judges h t.book line (verdict.Accepted x) →
      open_lines (with_entry t.book x) ≢ MOST_LINES → refines [] (with_book t (with_entry t.book x)) → LineFollowed o h t line refines [] []
  kept_open line x refines judges open_ holds =
      let at : Standing = with_book t (with_entry t.book x) in
      let test : (open_lines at.book == MOST_LINES) ≡ false = grind (arith, common_steps, open_) in
      record {
        verdict = verdict.Accepted x;
        judges = judges;
        pieces = [];
        next = at;
        follows =
            subst (λ (b : Bool). MatchBool b (EndsRound h at [] at) ((◌≡◌ {A = List Piece} [] []) × (at ≡ at))) (sym test) (refl, refl);
        whole = refl;
        stepped = refl;
        after = holds;
      }

  -- a line that was counted and followed was read
  pub line_read : (line : Line) (refines : List Piece → Standing → Type 0) (text : List ℕ) (steps : List Journal) →
      LineFollowed o h (with_line t) line refines text steps → LineRead o h t line refines text steps
  line_read line refines text steps followed = record {
    pieces = followed.pieces;
    next = followed.next;
    step = (followed.verdict, followed.judges, followed.follows);
    whole = followed.whole;
    stepped = followed.stepped;
    after = followed.after;
  }

  -- a line that was refused
  pub refused : (line : Line) (c : Cause) (refines : List Piece → Standing → Type 0) → Judges h t.book line (verdict.Refused c) →
      refines (Refusal (t.lines + 1) c ∷ []) (with_line t) → LineRead o h t line refines (refusal_output o (t.lines + 1) c) []
  refused line c refines judges holds = record {
    pieces = Refusal (t.lines + 1) c ∷ [];
    next = with_line t;
    step = (verdict.Refused c, judges, (refl, refl));
    whole = sym (one_refusal o h.defs (t.lines + 1) c);
    stepped = refl;
    after = holds;
  }

  -- the input ended, and with it the open round
  pub last_round : (counts : List Piece → Type 0) (refines : List Piece → Standing → Type 0) (text : List ℕ) (steps : Journal) →
      ((pieces : List Piece) (next : Standing) → refines pieces next → counts pieces) → open_lines t.book ≢ 0 →
      RoundEnds o h t refines text steps → InputEnded o h t counts text (steps ∷ [])
  last_round counts refines text steps count some ends =
      let test : (open_lines t.book == 0) ≡ false = grind (arith, common_steps, some) in
      let pieces : List Piece = Ended t ends.round steps ends.next ∷ [] in
      record {
        pieces = pieces;
        ends =
            subst (λ (b : Bool). MatchBool b (pieces ≡ []) ((next : Standing) × EndsRound h t pieces next)) (sym test)
            (ends.next, (ends.round, steps, refl, ends.legal));
        whole = ends.whole ∙ sym (one_piece o h.defs t ends.round steps ends.next);
        stepped = refl;
        counted = count pieces ends.next ends.after;
      }

  -- the input ended, and no round was open
  pub nothing_open : (counts : List Piece → Type 0) → counts [] → open_lines t.book ≡ 0 → InputEnded o h t counts [] []
  nothing_open counts count none =
      let test : (open_lines t.book == 0) ≡ true = grind (arith, common_steps, none) in
      record {
        pieces = [];
        ends = subst (λ (b : Bool). MatchBool b (◌≡◌ {A = List Piece} [] []) ((next : Standing) × EndsRound h t [] next)) (sym test) refl;
        whole = refl;
        stepped = refl;
        counted = count;
      }
