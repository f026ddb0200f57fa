-- Lines that show cell parts alone, or the base part alone; and rounds without a tick.
use Rattle.seam_law_transcript.proofs.Prelude.{◌≡◌, false, List, [], ◌∷◌, ◌++◌, map, refl, sym, ap, ◌∙◌, append-nil, filter, AllByRecursion}
use Rattle.seam_law_transcript.proofs.Prelude.{list_any, filter_map, map-append, Part, Call, Line, Shown, ClientText, Header, is_tick}
use Rattle.seam_law_transcript.proofs.Prelude.{Entry, is_base, letters_of, more_letter, shown_in, is_tick_order, base_in, base_lines}
use Rattle.seam_law_transcript.proofs.Prelude.{letters_of-append, passes_to, ordered}
use Rattle.seam_defs.specs.declared.flags.Part.TheVariants as part
use Rattle.seam_call.specs.declared.shown.ClientText.TheVariants as text
use Rattle.seam_rule_lines.specs.declared.verdict.Entry.TheVariants as entry
use Rattle.seam_law_transcript.proofs.Told.{base_texts_are}
use Rattle.seam_law_transcript.proofs.Tickless.{IsNoTick}

-- ---- no tick

no_tick : (p : Part) (c : Call) → is_tick_order (passes_to p c) ≡ false
no_tick part.Cell c = refl
no_tick part.Base c = refl

pub no_ticks : (h : Header) (xs : List Entry) → list_any is_tick xs ≡ false → AllByRecursion IsNoTick (filter_map (ordered h) xs)
no_ticks h [] none = tt
no_ticks h (entry.Called c ∷ xs) none = (no_tick c.part c, no_ticks h xs none)
no_ticks h (entry.Ticked ∷ xs) none = absurd (let z = none in cc)
no_ticks h (_ ∷ xs) none = no_ticks h xs none

-- ---- lines

abbrev text_in : Line → ClientText
text_in l = l.text

base_alone : (ls : List Line) → letters_of shown_in ls ≡ [] → map text_in ls ≡ base_lines ls
base_alone [] none = refl
base_alone (l ∷ ls) none = by l.text none (base_alone ls)
  where
    by : (t : ClientText) → more_letter (shown_in (record l { text = t })) (letters_of shown_in ls) ≡ [] →
        (letters_of shown_in ls ≡ [] → map text_in ls ≡ base_lines ls) →
        t ∷ map text_in ls ≡ more_letter (base_in (record l { text = t })) (base_lines ls)
    by (text.Base v props) empty rest = ap (λ r. text.Base v props ∷ r) (rest empty)
    by (text.Shown x) empty rest = absurd (let z = empty in cc)

shown_alone : (ls : List Line) → base_lines ls ≡ [] → map text_in ls ≡ map text.Shown (letters_of shown_in ls)
shown_alone [] none = refl
shown_alone (l ∷ ls) none = by l.text none (shown_alone ls)
  where
    by : (t : ClientText) → more_letter (base_in (record l { text = t })) (base_lines ls) ≡ [] →
        (base_lines ls ≡ [] → map text_in ls ≡ map text.Shown (letters_of shown_in ls)) →
        t ∷ map text_in ls ≡ map text.Shown (more_letter (shown_in (record l { text = t })) (letters_of shown_in ls))
    by (text.Base v props) empty rest = absurd (let z = empty in cc)
    by (text.Shown x) empty rest = ap (λ r. text.Shown x ∷ r) (rest empty)

-- base lines, and then what one look shows
pub one_look_after : (first later : List Line) (look : List Shown) → letters_of shown_in first ≡ [] → base_lines later ≡ [] →
    letters_of shown_in (first ++ later) ≡ look →
    map text_in (first ++ later) ≡ filter is_base (map text_in (first ++ later)) ++ map text.Shown look
one_look_after first later look none nothing is =
    let looked : letters_of shown_in later ≡ look =
    ap (λ l. l ++ letters_of shown_in later) (sym none) ∙ sym (letters_of-append shown_in first later) ∙ is in
    let bases : base_lines first ≡ filter is_base (map text_in (first ++ later)) =
    sym (base_texts_are (first ++ later) ∙ letters_of-append base_in first later ∙ ap (λ l. base_lines first ++ l) nothing
    ∙ append-nil (base_lines first)) in
    map-append text_in first later
    ∙ (λ i. (base_alone first none ∙ bases) i ++ (shown_alone later nothing ∙ ap (map text.Shown) looked) i)
