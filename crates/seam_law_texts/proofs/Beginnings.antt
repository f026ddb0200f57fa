-- A text begins with the text of one round.
use Rattle.std.proofs.Common.{◌≡◌, ◌≢◌, ◌⊎◌, ℕ, List, [], ◌∷◌, ◌++◌, map, refl, sym, ◌∙◌, ap, inl, inr}
use Rattle.seam_defs.specs.Types.{AreDefs}
use Rattle.seam_defs.specs.declared.types.TypeDef.{TypeDef}
use Rattle.seam_rule_lines.specs.Book.{Book, has_balance}
use Rattle.seam_rule_rounds.specs.Lines.{RoundData}
use Rattle.seam_rule_rounds.specs.RoundTexts.{round_text}
use Rattle.seam_law_texts.specs.declared.kinds.Kind.{Kind}
use Rattle.seam_law_texts.specs.declared.kinds.Kind.TheVariants.{Begin, Did, Dob, Home, Base, Ghost, To, Bound, End}
use Rattle.seam_law_texts.specs.TextLines.{LineData, TextLine, line, lines_text, bounds_of, lines_of, data_by}
use Rattle.seam_law_texts.specs.Forms.{AreForms, IsFormed}
use Rattle.seam_law_texts.proofs.Writing.{text_is}
use Rattle.seam_law_texts.proofs.Gathering.{round_is_said}
use Rattle.seam_law_texts.proofs.Sequence.{same_first, lines_forms, same_start}

-- the last line is an `end` line, and no other one is
abbrev pub EndOnce : List TextLine → Type 0
EndOnce [] = ⊥
EndOnce (l ∷ ls) = ((l.kind ≡ End) × (ls ≡ [])) ⊎ ((l.kind ≢ End) × EndOnce ls)

section_ends : (k : Kind) → k ≢ End → (xs : List (LineData k)) (rest : List TextLine) → EndOnce rest → EndOnce (map (line k) xs ++ rest)
section_ends k other [] rest ends = ends
section_ends k other (x ∷ xs) rest ends = inr (other, section_ends k other xs rest ends)

begin_goes_on : Begin ≢ End
begin_goes_on e = cc

did_goes_on : Did ≢ End
did_goes_on e = cc

dob_goes_on : Dob ≢ End
dob_goes_on e = cc

home_goes_on : Home ≢ End
home_goes_on e = cc

base_goes_on : Base ≢ End
base_goes_on e = cc

ghost_goes_on : Ghost ≢ End
ghost_goes_on e = cc

to_goes_on : To ≢ End
to_goes_on e = cc

bound_goes_on : Bound ≢ End
bound_goes_on e = cc

pub lines_end : (r : RoundData) → EndOnce (lines_of r)
lines_end r =
    let r7 : List TextLine = line End r.number ∷ [] in
    let r6 : List TextLine = map (line Bound) (bounds_of r.bounds) ++ r7 in
    let r5 : List TextLine = map (line To) r.shown ++ r6 in
    let r4 : List TextLine = map (line Ghost) r.ghosts ++ r5 in
    let r3 : List TextLine = map (line Base) r.bases ++ r4 in
    let r2 : List TextLine = map (line Home) r.homes ++ r3 in
    let r1 : List TextLine = map (line Dob) r.dob ++ r2 in
    let e7 : EndOnce r7 = inl (refl, refl) in
    let e6 = section_ends Bound bound_goes_on (bounds_of r.bounds) r7 e7 in
    let e4 = section_ends Ghost ghost_goes_on r.ghosts r5 (section_ends To to_goes_on r.shown r6 e6) in
    let e2 = section_ends Home home_goes_on r.homes r3 (section_ends Base base_goes_on r.bases r4 e4) in
    inr (begin_goes_on, section_ends Did did_goes_on r.did r1 (section_ends Dob dob_goes_on r.dob r2 e2))

kinds_are : (l m : TextLine) → l ≡ m → l.kind ≡ m.kind
kinds_are l m e = ap (λ (x : TextLine). x.kind) e

-- a text begins with one sequence of lines that an `end` line ends
one_beginning : (defs : List TypeDef) → AreDefs defs → (b : Book) (ls ms : List TextLine) (xs ys : List ℕ) → EndOnce ls → EndOnce ms →
    AreForms defs b ls → AreForms defs b ms → lines_text defs ls xs ≡ lines_text defs ms ys → (ls ≡ ms) × (xs ≡ ys)
one_beginning defs are b [] ms xs ys el em fl fm e = absurd el
one_beginning defs are b (l ∷ ls) [] xs ys el em fl fm e = absurd em
one_beginning defs are b (l ∷ ls) (m ∷ ms) xs ys el em fl fm e =
    let first = same_first defs are b l m (lines_text defs ls xs) (lines_text defs ms ys) fl.0 fm.0 e in
    by first.0 first.1 el em (λ dl dm. one_beginning defs are b ls ms xs ys dl dm fl.1 fm.1 first.1)
  where
    by : l ≡ m → lines_text defs ls xs ≡ lines_text defs ms ys → EndOnce (l ∷ ls) → EndOnce (m ∷ ms) →
        (EndOnce ls → EndOnce ms → (ls ≡ ms) × (xs ≡ ys)) → ((l ∷ ls) ≡ (m ∷ ms)) × (xs ≡ ys)
    by is rest (inl (k, none)) (inl (j, empty)) later = (
      (λ i. is i ∷ (none ∙ sym empty) i),
      sym (ap (λ (zs : List TextLine). lines_text defs zs xs) none) ∙ rest ∙ ap (λ (zs : List TextLine). lines_text defs zs ys) empty,
    )
    by is rest (inl (k, none)) (inr (other, ends)) later = absurd (other (sym (kinds_are l m is) ∙ k))
    by is rest (inr (other, ends)) (inl (j, empty)) later = absurd (other (kinds_are l m is ∙ j))
    by is rest (inr (other, ends)) (inr (another, end)) later =
        let both = later ends end in ((λ i. is i ∷ both.0 i), both.1)

-- a text begins with the text of one round in form, and what comes after it is one text
pub first_round : (defs : List TypeDef) → AreDefs defs → (b : Book) (r s : RoundData) (xs ys : List ℕ) → IsFormed defs b r →
    IsFormed defs b s → round_text defs r ++ xs ≡ round_text defs s ++ ys → (r ≡ s) × (xs ≡ ys)
first_round defs are b r s xs ys fr fs e =
    let both =
    one_beginning defs are b (lines_of r) (lines_of s) xs ys (lines_end r) (lines_end s) (lines_forms defs b r fr) (lines_forms defs b s fs)
    (sym (text_is defs r xs) ∙ e ∙ text_is defs s ys) in
    let starts = same_start defs b (has_balance b) r.bounds s.bounds fr.bounds fs.bounds in
    (sym (round_is_said r) ∙ (λ i. data_by (starts i) (both.0 i)) ∙ round_is_said s, both.1)
