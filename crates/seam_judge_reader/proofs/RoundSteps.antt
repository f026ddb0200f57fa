-- The lines of a round, one after the other.
use Rattle.std.proofs.Common.{◌≡◌, ◌≢◌, ℕ, Bool, true, false, List, [], ◌∷◌, ◌++◌, Option, Some, None, option_map, refl, sym, ◌∙◌, ap}
use Rattle.std.proofs.Common.{subst}
use Rattle.std.proofs.Common.{append_assoc, append-nil, MatchBool}
use Rattle.seam_tree.specs.declared.cut.Cut.{Cut}
use Rattle.seam_tree.specs.Division.{Division, IsTree}
use Rattle.seam_tree.specs.Change.{CanCut}
use Rattle.seam_defs.specs.Types.{AreDefs}
use Rattle.seam_defs.specs.declared.types.TypeDef.{TypeDef}
use Rattle.seam_rule_rounds.specs.Prelude.{Book, RoundData, has_balance, round_text}
use Rattle.seam_law_texts.specs.Words.{AreWords, HasNoFeed, IsWord, spaced}
use Rattle.seam_law_texts.specs.declared.kinds.Kind.{Kind}
use Rattle.seam_law_texts.specs.declared.kinds.Kind.TheVariants.{Begin, Did, Dob, Home, Base, Ghost, To, Bound, End}
use Rattle.seam_law_texts.specs.TextLines.{LineData, TextLine, word_of, data_words}
use Rattle.seam_law_texts.specs.TextLines.{lines_text, lines_of, no_lines, data_by, with_data, with_line}
use Rattle.seam_law_texts.specs.Forms.{AreForms, HasForm, IsFormed, IsForm, IsNext}
use Rattle.seam_law_texts.proofs.Content.{line_has_none, rest_is_spaced}
use Rattle.seam_law_texts.proofs.Gathering.{round_is_said}
use Rattle.seam_law_texts.proofs.Sequence.{lines_forms, some_text}
use Rattle.seam_law_texts.proofs.Spelling.{kind_is_word, said_words_are}
use Rattle.seam_law_texts.proofs.Writing.{text_is}
use Rattle.seam_judge_reader.specs.Cuts.{CanSay}
use Rattle.seam_judge_reader.proofs.Prefixes.{can_cut}

-- ---- the cuts that lines say

abbrev cuts_by : (k : Kind) → LineData k → List Cut
cuts_by Bound x = x.1 ∷ []
cuts_by k x = []

abbrev cuts_in : List TextLine → List Cut
cuts_in [] = []
cuts_in (l ∷ ls) = cuts_by l.kind l.body ++ cuts_in ls

-- the tree with more cuts, where there is one
abbrev with_cuts : Option Division → List Cut → Option Division
with_cuts tree cuts = option_map (λ (t : Division). record { size = t.size; cuts = t.cuts ++ cuts }) tree

no_more : (tree : Option Division) → tree ≡ with_cuts tree []
no_more None = refl
no_more (Some t) = ap (λ (cs : List Cut). Some (record { size = t.size; cuts = cs })) (sym (append-nil t.cuts))

one_more : (tree : Option Division) (c : Cut) (cuts : List Cut) → with_cuts (with_cuts tree (c ∷ [])) cuts ≡ with_cuts tree (c ∷ cuts)
one_more None c cuts = refl
one_more (Some t) c cuts =
    ap (λ (cs : List Cut). Some (record { size = t.size; cuts = cs })) (append_assoc t.cuts (c ∷ []) cuts)

line_cuts : (r : RoundData) (k : Kind) (x : LineData k) (cuts : List Cut) →
    with_cuts (with_data r k x).bounds cuts ≡ with_cuts r.bounds (cuts_by k x ++ cuts)
line_cuts r Begin x cuts = refl
line_cuts r Did x cuts = refl
line_cuts r Dob x cuts = refl
line_cuts r Home x cuts = refl
line_cuts r Base x cuts = refl
line_cuts r Ghost x cuts = refl
line_cuts r To x cuts = refl
line_cuts r Bound x cuts = one_more r.bounds x.1 cuts
line_cuts r End x cuts = refl

lines_cuts : (ls : List TextLine) (r : RoundData) → (data_by r ls).bounds ≡ with_cuts r.bounds (cuts_in ls)
lines_cuts [] r = no_more r.bounds
lines_cuts (l ∷ ls) r = lines_cuts ls (with_line r l) ∙ line_cuts r l.kind l.body (cuts_in ls)

some_is : (t u : Division) → Some t ≡ Some u → t ≡ u
some_is t u e = cc

-- each cut of a tree in form can be made in its turn
cut_comes : (b : Book) (z : Bool) (tree : Option Division) (t : Division) (c : Cut) (cuts : List Cut) →
    MatchBool z ((u : Division) × (tree ≡ Some u) × IsNext b u) (tree ≡ None) →
    tree ≡ Some (record { size = t.size; cuts = t.cuts ++ c ∷ cuts }) → CanCut t c.cell c.boundary
cut_comes b true tree t c cuts (u, at, next) is =
    can_cut t.size t.cuts c cuts (subst IsTree (some_is u (record { size = t.size; cuts = t.cuts ++ c ∷ cuts }) (sym at ∙ is)) next.tree)
cut_comes b false tree t c cuts none is = absurd (cc)

can_say : (b : Book) (now : RoundData) (k : Kind) (x : LineData k) (cuts : List Cut) (tree : Option Division) → HasForm b tree →
    tree ≡ with_cuts now.bounds (cuts_by k x ++ cuts) → CanSay now.bounds k x
can_say b now Begin x cuts tree form is = tt
can_say b now Did x cuts tree form is = tt
can_say b now Dob x cuts tree form is = tt
can_say b now Home x cuts tree form is = tt
can_say b now Base x cuts tree form is = tt
can_say b now Ghost x cuts tree form is = tt
can_say b now To x cuts tree form is = tt
can_say b now Bound x cuts tree form is =
    λ t at. cut_comes b (has_balance b) tree t x.1 cuts form (is ∙ ap (λ (o : Option Division). with_cuts o (x.1 ∷ cuts)) at)
can_say b now End x cuts tree form is = tt

-- ---- what is still to be read

pub record ToCome (defs : List TypeDef) (b : Book) (rest : List ℕ) (now whole : RoundData) : Type 0 where
  pub lines : List TextLine
  pub forms : AreForms defs b lines
  pub is : rest ≡ lines_text defs lines []
  pub said : data_by now lines ≡ whole

pub to_begin : (defs : List TypeDef) (b : Book) (text : List ℕ) (now r : RoundData) → IsFormed defs b r → round_text defs r ≡ text →
    now ≡ no_lines r.bounds → ToCome defs b text now r
to_begin defs b text now r form e begun = record {
  lines = lines_of r;
  forms = lines_forms defs b r form;
  is = sym e ∙ sym (append-nil (round_text defs r)) ∙ text_is defs r [];
  said = ap (λ (x : RoundData). data_by x (lines_of r)) begun ∙ round_is_said r;
}

-- the next line, and what comes after it
pub record Next (defs : List TypeDef) (b : Book) (rest : List ℕ) (now whole : RoundData) : Type 0 where
  pub line : TextLine
  pub after : List ℕ
  pub form : IsForm defs b line.kind line.body
  pub can : CanSay now.bounds line.kind line.body
  pub is : rest ≡ (word_of line.kind ++ spaced (data_words defs line.kind line.body)) ++ 10 ∷ after
  pub come : ToCome defs b after (with_line now line) whole

pub next_line : (defs : List TypeDef) (b : Book) (rest : List ℕ) (now whole : RoundData) → HasForm b whole.bounds → rest ≢ [] →
    ToCome defs b rest now whole → Next defs b rest now whole
next_line defs b rest now whole form some come = by come.lines come.forms come.is come.said
  where
    by : (ls : List TextLine) → AreForms defs b ls → rest ≡ lines_text defs ls [] → data_by now ls ≡ whole → Next defs b rest now whole
    by [] forms is said = absurd (some is)
    by (l ∷ ls) forms is said =
        let after = lines_text defs ls [] in
        let words = data_words defs l.kind l.body in
        record {
          line = l;
          after = after;
          form = forms.0;
          can =
              can_say b now l.kind l.body (cuts_in ls) whole.bounds form
              (sym (ap (λ (x : RoundData). x.bounds) said) ∙ lines_cuts (l ∷ ls) now);
          is =
              is ∙ ap (λ (t : List ℕ). word_of l.kind ++ t) (rest_is_spaced words after)
              ∙ sym (append_assoc (word_of l.kind) (spaced words) (10 ∷ after));
          come = record { lines = ls; forms = forms.1; is = refl; said = said };
        }

-- nothing is left to be read
pub to_end : (defs : List TypeDef) (b : Book) (rest : List ℕ) (now whole : RoundData) → rest ≡ [] → ToCome defs b rest now whole →
    now ≡ whole
to_end defs b rest now whole none come = by come.lines come.is come.said
  where
    by : (ls : List TextLine) → rest ≡ lines_text defs ls [] → data_by now ls ≡ whole → now ≡ whole
    by [] is said = said
    by (l ∷ ls) is said =
        absurd (some_text (word_of l.kind) (data_words defs l.kind l.body) (lines_text defs ls []) (sym none ∙ is))

-- a line was read that comes next
pub line_read : (defs : List TypeDef) → AreDefs defs → (b : Book) (rest : List ℕ) (now whole new : RoundData) (line others : List ℕ)
    (words : List (List ℕ)) → HasForm b whole.bounds → rest ≢ [] → ToCome defs b rest now whole →
    ((content after : List ℕ) → HasNoFeed content → rest ≡ content ++ 10 ∷ after → (line ≡ content) × (others ≡ after)) →
    ((first : List ℕ) (more : List (List ℕ)) → IsWord first → AreWords more → line ≡ first ++ spaced more → words ≡ first ∷ more) →
    ((k : Kind) (x : LineData k) → IsForm defs b k x → CanSay now.bounds k x → words ≡ word_of k ∷ data_words defs k x →
    new ≡ with_data now k x) → ToCome defs b others new whole
line_read defs are b rest now whole new line others words form some come told splits adds =
    let n = next_line defs b rest now whole form some come in
    let k = n.line.kind in
    let x = n.line.body in
    let more = data_words defs k x in
    let parts =
    told (word_of k ++ spaced more) n.after (line_has_none (word_of k) more (kind_is_word k) (said_words_are defs are k x)) n.is in
    let is = splits (word_of k) more (kind_is_word k) (said_words_are defs are k x) parts.0 in
    let made : new ≡ with_line now n.line = adds k x n.form n.can is in
    subst (λ (t : List ℕ). ToCome defs b t new whole) (sym parts.1)
    (subst (λ (r : RoundData). ToCome defs b n.after r whole) (sym made) n.come)
