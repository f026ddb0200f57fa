-- A text is one sequence of lines, and of one round.
use Rattle.std.proofs.Common.{◌≡◌, ◌≢◌, ℕ, ◌+◌, ◌-◌, ◌<◌, ◌^◌, Bool, true, false, cond, List, [], ◌∷◌, ◌++◌, map, refl, sym, ◌∙◌, ap, arith}
use Rattle.std.proofs.Common.{zero, suc, length, zip, subst, All, Option, Some, None, option_map, slice_get, slice_index_or, MatchBool}
use Rattle.std.specs.Prelude.{◌==◌}
use Rattle.std.specs.List.{range_with_len}
use Rattle.std.proofs.lemmas.List.Elements.{All-head, All-tail}
use Rattle.seam_tree.specs.declared.cut.Cut.{Cut}
use Rattle.seam_tree.specs.Division.{Division, no_cut, cut_number}
use Rattle.seam_defs.specs.Types.{AreDefs}
use Rattle.seam_defs.specs.declared.types.TypeDef.{TypeDef}
use Rattle.seam_rule_lines.specs.Book.{Book, has_balance}
use Rattle.seam_rule_rounds.specs.Lines.{RoundData}
use Rattle.seam_rule_rounds.specs.RoundTexts.{round_text}
use Rattle.seam_law_texts.specs.Words.{rest_of_line}
use Rattle.seam_law_texts.specs.declared.kinds.Kind.{Kind}
use Rattle.seam_law_texts.specs.declared.kinds.Kind.TheVariants.{Did, Dob, Home, Base, Ghost, To, Bound, End}
use Rattle.seam_law_texts.specs.TextLines.{LineData, TextLine, line, word_of}
use Rattle.seam_law_texts.specs.TextLines.{data_words, line_text, lines_text, bounds_of, lines_of, no_lines, data_by}
use Rattle.seam_law_texts.specs.Forms.{IsForm, AreForms, IsBound, IsNext, IsFormed}
use Rattle.seam_law_texts.proofs.OneLine.{same_words}
use Rattle.seam_law_texts.proofs.Writing.{text_is}
use Rattle.seam_law_texts.proofs.Spelling.{said_words_are, kind_is_word}
use Rattle.seam_law_texts.proofs.Telling.{same_line}
use Rattle.seam_law_texts.proofs.Gathering.{round_is_said}
use Rattle.seam_law_texts.proofs.Places.{place_is_small}

-- ---- sequences

-- no line is empty
pub some_text : (w : List ℕ) (ws : List (List ℕ)) (after : List ℕ) → [] ≢ w ++ rest_of_line ws after
some_text [] [] after e = cc
some_text [] (v ∷ ws) after e = cc
some_text (c ∷ w) ws after e = cc

-- a line, and the text after it, are those of one line and of one text
pub same_first : (defs : List TypeDef) → AreDefs defs → (b : Book) (l m : TextLine) (xs ys : List ℕ) → IsForm defs b l.kind l.body →
    IsForm defs b m.kind m.body → line_text defs l xs ≡ line_text defs m ys → (l ≡ m) × (xs ≡ ys)
same_first defs are b l m xs ys fl fm e =
    let words =
    same_words (word_of l.kind) (word_of m.kind) (data_words defs l.kind l.body) (data_words defs m.kind m.body) xs ys (kind_is_word l.kind)
    (kind_is_word m.kind) (said_words_are defs are l.kind l.body) (said_words_are defs are m.kind m.body) e in
    (same_line defs are b l.kind m.kind l.body m.body fl fm words.0 words.1, words.2)

-- a text is that of one sequence of lines
pub same_lines : (defs : List TypeDef) → AreDefs defs → (b : Book) (ls ms : List TextLine) → AreForms defs b ls → AreForms defs b ms →
    lines_text defs ls [] ≡ lines_text defs ms [] → ls ≡ ms
same_lines defs are b [] [] fl fm e = refl
same_lines defs are b [] (m ∷ ms) fl fm e =
    absurd (some_text (word_of m.kind) (data_words defs m.kind m.body) (lines_text defs ms []) e)
same_lines defs are b (l ∷ ls) [] fl fm e =
    absurd (some_text (word_of l.kind) (data_words defs l.kind l.body) (lines_text defs ls []) (sym e))
same_lines defs are b (l ∷ ls) (m ∷ ms) fl fm e =
    let first = same_first defs are b l m (lines_text defs ls []) (lines_text defs ms []) fl.0 fm.0 e in
    let others = same_lines defs are b ls ms fl.1 fm.1 first.1 in
    λ i. first.0 i ∷ others i

-- ---- the lines of a round in form

module _ (defs : List TypeDef) (b : Book) where
  section : (k : Kind) (xs : List (LineData k)) (rest : List TextLine) → All (IsForm defs b k) xs → AreForms defs b rest →
      AreForms defs b (map (line k) xs ++ rest)
  section k [] rest all forms = forms
  section k (x ∷ xs) rest all forms =
      (All-head (IsForm defs b k) x xs all, section k xs rest (All-tail (IsForm defs b k) x xs all) forms)

  -- the cuts of a tree from one number on divide the cells that they divided
  abbrev Divide : ℕ → List Cut → Type 0
  Divide n cuts = (k : ℕ) (c : Cut) → slice_get cuts k ≡ Some c → IsBound b (n + k, c)

  bounds_forms : (n : ℕ) (cuts : List Cut) (rest : List TextLine) → Divide n cuts → AreForms defs b rest →
      AreForms defs b (map (line Bound) (zip (range_with_len n (length cuts)) cuts) ++ rest)
  bounds_forms n [] rest divide forms = forms
  bounds_forms n (c ∷ cuts) rest divide forms =
      let here : IsBound b (n + 0, c) = divide 0 c refl in
      let same : n + 0 ≡ n = omega arith in (
        subst (λ (m : ℕ). IsBound b (m, c)) same here,
        bounds_forms (n + 1) cuts rest (λ k d at.
            let next : n + suc k ≡ n + 1 + k = omega arith in
            subst (λ (m : ℕ). IsBound b (m, d)) next (divide (suc k) d at)) forms,
      )

  gets_within : (cuts : List Cut) (k : ℕ) (c : Cut) → slice_get cuts k ≡ Some c → k < length cuts
  gets_within [] k c at = absurd (cc)
  gets_within (x ∷ cuts) zero c at = omega arith
  gets_within (x ∷ cuts) (suc k) c at = omega (arith, gets_within cuts k c at)

  get_is : (cuts : List Cut) (k : ℕ) (c d : Cut) → slice_get cuts k ≡ Some c → slice_index_or cuts k d ≡ c
  get_is [] k c d at = absurd (cc)
  get_is (x ∷ cuts) zero c d at = cc
  get_is (x ∷ cuts) (suc k) c d at = get_is cuts k c d at

  cut_is : (t : Division) (k : ℕ) → cut_number t (1 + k) ≡ slice_get t.cuts k
  cut_is t k = by (1 + k == 0) refl
    where
      by : (z : Bool) → (1 + k == 0) ≡ z → cond z None (slice_get t.cuts (1 + k - 1)) ≡ slice_get t.cuts k
      by true at = let none : 1 + k ≡ 0 = grind (arith, at) in absurd (omega (arith, none))
      by false at = let before : 1 + k - 1 ≡ k = omega arith in ap (slice_get t.cuts) before

  divides : (t : Division) → IsNext b t → Divide 1 t.cuts
  divides t next k c at =
      let within = gets_within t.cuts k c at in
      record {
        number = omega (arith, within, next.tree.cells_to);
        cell = sym (next.cuts.cuts (1 + k)) ∙ ap (option_map (λ (x : Cut). x.cell)) (cut_is t k ∙ at);
        place = subst (λ (x : Cut). x.boundary.at < 2 ^ 32) (get_is t.cuts k c no_cut at) (place_is_small t next.tree k within);
      }

  bounds_part : (z : Bool) (tree : Option Division) (rest : List TextLine) →
      MatchBool z ((t : Division) × (tree ≡ Some t) × IsNext b t) (tree ≡ None) → AreForms defs b rest →
      AreForms defs b (map (line Bound) (bounds_of tree) ++ rest)
  bounds_part true tree rest (t, is, next) forms =
      subst (λ (x : Option Division). AreForms defs b (map (line Bound) (bounds_of x) ++ rest)) (sym is)
      (bounds_forms 1 t.cuts rest (divides t next) forms)
  bounds_part false tree rest is forms =
      subst (λ (x : Option Division). AreForms defs b (map (line Bound) (bounds_of x) ++ rest)) (sym is) forms

  -- the lines of a round in form are in form
  pub lines_forms : (r : RoundData) → IsFormed defs b r → AreForms defs b (lines_of r)
  lines_forms r f =
      let l = f.lines in
      let r7 : List TextLine = line End r.number ∷ [] in
      let r6 : List TextLine = map (line Bound) (bounds_of r.bounds) ++ r7 in
      let r5 : List TextLine = map (line To) r.shown ++ r6 in
      let r4 : List TextLine = map (line Ghost) r.ghosts ++ r5 in
      let r3 : List TextLine = map (line Base) r.bases ++ r4 in
      let r2 : List TextLine = map (line Home) r.homes ++ r3 in
      let r1 : List TextLine = map (line Dob) r.dob ++ r2 in
      let f6 = bounds_part (has_balance b) r.bounds r7 f.bounds (l.number, tt) in
      let f4 = section Ghost r.ghosts r5 l.ghosts (section To r.shown r6 l.shown f6) in
      let f2 = section Home r.homes r3 l.homes (section Base r.bases r4 l.bases f4) in
      (l.number, section Did r.did r1 l.did (section Dob r.dob r2 l.dob f2))

  -- rounds in form begin with one tree of one cell, or with none
  pub same_start : (z : Bool) (x y : Option Division) → MatchBool z ((t : Division) × (x ≡ Some t) × IsNext b t) (x ≡ None) →
      MatchBool z ((t : Division) × (y ≡ Some t) × IsNext b t) (y ≡ None) → no_lines x ≡ no_lines y
  same_start true x y (t, is, next) (u, at, other) =
      let size : t.size ≡ u.size = next.cuts.size ∙ sym other.cuts.size in
      ap no_lines is ∙ ap (λ (n : ℕ). no_lines (Some (record { size = n; cuts = [] }))) size ∙ ap no_lines (sym at)
  same_start false x y is at = ap no_lines (is ∙ sym at)

-- rounds in form with one text are one
pub same_rounds : (defs : List TypeDef) → AreDefs defs → (b : Book) (r s : RoundData) → IsFormed defs b r → IsFormed defs b s →
    round_text defs r ≡ round_text defs s → r ≡ s
same_rounds defs are b r s fr fs e =
    let lines =
    same_lines defs are b (lines_of r) (lines_of s) (lines_forms defs b r fr) (lines_forms defs b s fs)
    (sym (text_is defs r []) ∙ ap (λ (t : List ℕ). t ++ []) e ∙ text_is defs s []) in
    let starts = same_start defs b (has_balance b) r.bounds s.bounds fr.bounds fs.bounds in
    sym (round_is_said r) ∙ (λ i. data_by (starts i) (lines i)) ∙ round_is_said s
