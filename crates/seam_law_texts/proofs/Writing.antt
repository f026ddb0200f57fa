-- The text of a round is that of its lines.
use Rattle.std.proofs.Common.{◌≡◌, ℕ, List, [], ◌∷◌, ◌++◌, map, refl, ◌∙◌, ap, append_assoc, append-nil, Option, Some, None}
use Rattle.std.specs.Prelude.{codes}
use Rattle.std.specs.List.{flat_map, zip}
use Rattle.seam_value.specs.Values.{decimal_of, text_of}
use Rattle.seam_value.specs.declared.values.Value.{Value}
use Rattle.seam_tree.specs.declared.cut.Cut.{Cut}
use Rattle.seam_tree.specs.Division.{Division}
use Rattle.seam_defs.specs.Types.{type_of, method_of}
use Rattle.seam_defs.specs.Deeds.{properties_of, values_text}
use Rattle.seam_defs.specs.declared.types.TypeDef.{TypeDef}
use Rattle.seam_defs.specs.declared.types.Property.{Property}
use Rattle.seam_defs.specs.declared.flags.Group.{Group}
use Rattle.seam_defs.specs.declared.flags.Group.TheVariants as group
use Rattle.seam_defs.specs.declared.states.State.{State}
use Rattle.seam_defs.specs.declared.states.Deed.{Deed}
use Rattle.seam_defs.specs.declared.states.Deed.TheVariants.{Move, Method}
use Rattle.seam_call.specs.declared.shown.Shown.{Shown}
use Rattle.seam_call.specs.declared.shown.Shown.TheVariants.{Own, Enter, Set, Leave}
use Rattle.seam_call.specs.declared.shown.ClientText.{ClientText}
use Rattle.seam_call.specs.declared.shown.ClientText.TheVariants as text
use Rattle.seam_rule_lines.specs.Language.{sender_text, axis_text}
use Rattle.seam_rule_lines.specs.LineTexts.{field, number_text, deed_text, done_text, home_text, base_text}
use Rattle.seam_rule_lines.specs.Round.{DoneLine, HomeLine, BaseLine}
use Rattle.seam_rule_rounds.specs.Lines.{GhostLine, ClientLine, RoundData}
use Rattle.seam_rule_rounds.specs.RoundTexts.{state_text, ghost_text, shown_text, told_text, client_text, bound_text}
use Rattle.seam_rule_rounds.specs.RoundTexts.{bounds_text, round_text}
use Rattle.seam_law_texts.specs.Words.{rest_of_line}
use Rattle.seam_law_texts.specs.declared.kinds.Kind.{Kind}
use Rattle.seam_law_texts.specs.declared.kinds.Kind.TheVariants.{Begin, Did, Dob, Home, Base, Ghost, To, Bound, End}
use Rattle.seam_law_texts.specs.TextLines.{LineData, TextLine, line}
use Rattle.seam_law_texts.specs.TextLines.{property_word, value_words, state_words, deed_words}
use Rattle.seam_law_texts.specs.TextLines.{shown_words, told_words, line_text, lines_text}
use Rattle.seam_law_texts.specs.TextLines.{bounds_of, lines_of}

-- ---- parts of a line

-- texts one after another, from the first one on
three : (a b c d : List ℕ) → a ++ b ++ c ++ d ≡ a ++ (b ++ (c ++ d))
three a b c d = append_assoc (a ++ b) c d ∙ append_assoc a b (c ++ d)

four : (a b c d e : List ℕ) → a ++ b ++ c ++ d ++ e ≡ a ++ (b ++ (c ++ (d ++ e)))
four a b c d e = append_assoc (a ++ b ++ c) d e ∙ three a b c (d ++ e)

five : (a b c d e f : List ℕ) → a ++ b ++ c ++ d ++ e ++ f ≡ a ++ (b ++ (c ++ (d ++ (e ++ f))))
five a b c d e f = append_assoc (a ++ b ++ c ++ d) e f ∙ four a b c d (e ++ f)

six : (a b c d e f g : List ℕ) → a ++ b ++ c ++ d ++ e ++ f ++ g ≡ a ++ (b ++ (c ++ (d ++ (e ++ (f ++ g)))))
six a b c d e f g = append_assoc (a ++ b ++ c ++ d ++ e) f g ∙ five a b c d e (f ++ g)

seven : (a b c d e f g h : List ℕ) → a ++ b ++ c ++ d ++ e ++ f ++ g ++ h ≡ a ++ (b ++ (c ++ (d ++ (e ++ (f ++ (g ++ h))))))
seven a b c d e f g h = append_assoc (a ++ b ++ c ++ d ++ e ++ f) g h ∙ six a b c d e f (g ++ h)

eight : (a b c d e f g h i : List ℕ) →
    a ++ b ++ c ++ d ++ e ++ f ++ g ++ h ++ i ≡ a ++ (b ++ (c ++ (d ++ (e ++ (f ++ (g ++ (h ++ i)))))))
eight a b c d e f g h i = append_assoc (a ++ b ++ c ++ d ++ e ++ f ++ g) h i ∙ seven a b c d e f g (h ++ i)

-- each after a space
spaced : {X : Type 0} (f : X → List ℕ) (xs : List X) (after : List ℕ) →
    flat_map (λ x. 32 ∷ f x) xs ++ 10 ∷ after ≡ rest_of_line (map f xs) after
spaced f [] after = refl
spaced f (x ∷ xs) after =
    append_assoc (32 ∷ f x) (flat_map (λ y. 32 ∷ f y) xs) (10 ∷ after) ∙ ap (λ (t : List ℕ). 32 ∷ f x ++ t) (spaced f xs after)

values_are : (ps : List Property) (g : Group) (values : List Value) (after : List ℕ) →
    values_text ps g values ++ 10 ∷ after ≡ rest_of_line (value_words ps g values) after
values_are ps g values after = spaced property_word (zip (properties_of ps g) values) after

state_is : (t : TypeDef) (g : Group) (s : State) (after : List ℕ) → state_text t g s ++ 10 ∷ after ≡ rest_of_line (state_words t g s) after
state_is t g s after =
    three (field s.pos.x) (field s.pos.z) (values_text t.properties g s.props) (10 ∷ after)
    ∙ ap (λ (y : List ℕ). field s.pos.x ++ (field s.pos.z ++ y)) (values_are t.properties g s.props after)

deed_is : (t : TypeDef) (d : Deed) (after : List ℕ) → deed_text t d ++ 10 ∷ after ≡ rest_of_line (deed_words t d) after
deed_is t (Move p) after = three (codes " move") (field p.x) (field p.z) (10 ∷ after)
deed_is t (Method m args) after =
    append_assoc (32 ∷ (method_of t m).name) (flat_map (λ v. 32 ∷ text_of v) args) (10 ∷ after)
    ∙ ap (λ (y : List ℕ). 32 ∷ (method_of t m).name ++ y) (spaced text_of args after)

shown_is : (defs : List TypeDef) (ty : ℕ) (x : Shown) (after : List ℕ) →
    shown_text defs ty x ++ 10 ∷ after ≡ rest_of_line (shown_words defs ty x) after
shown_is defs ty (Own v s) after =
    let state = state_text (type_of defs ty) group.Own s in
    three (codes " own") (field v) state (10 ∷ after)
    ∙ ap (λ (y : List ℕ). codes " own" ++ (field v ++ y)) (state_is (type_of defs ty) group.Own s after)
shown_is defs ty (Enter e k) after =
    let t = type_of defs k.ty in
    let name : List ℕ = 32 ∷ t.name in
    five (codes " enter") (field e) name (field k.version) (state_text t group.Other k.state) (10 ∷ after)
    ∙ ap (λ (y : List ℕ). codes " enter" ++ (field e ++ (name ++ (field k.version ++ y)))) (state_is t group.Other k.state after)
shown_is defs ty (Set e k) after =
    let t = type_of defs k.ty in
    four (codes " set") (field e) (field k.version) (state_text t group.Other k.state) (10 ∷ after)
    ∙ ap (λ (y : List ℕ). codes " set" ++ (field e ++ (field k.version ++ y))) (state_is t group.Other k.state after)
shown_is defs ty (Leave e) after = append_assoc (codes " leave") (field e) (10 ∷ after)

told_is : (defs : List TypeDef) (ty : ℕ) (x : ClientText) (after : List ℕ) →
    told_text defs ty x ++ 10 ∷ after ≡ rest_of_line (told_words defs ty x) after
told_is defs ty (text.Shown x) after = shown_is defs ty x after
told_is defs ty (text.Base v props) after =
    let ps = (type_of defs ty).properties in
    three (codes " base") (field v) (values_text ps group.BaseClient props) (10 ∷ after)
    ∙ ap (λ (y : List ℕ). codes " base" ++ (field v ++ y)) (values_are ps group.BaseClient props after)

-- ---- lines

-- a line of a kind has this text
abbrev IsText : List TypeDef → (k : Kind) → LineData k → List ℕ → Type 0
IsText defs k x text = (after : List ℕ) → text ++ after ≡ line_text defs (line k x) after

begin_is : (defs : List TypeDef) (n : ℕ) → IsText defs Begin n (number_text (codes "round ") n)
begin_is defs n after = three (codes "round ") (decimal_of n) (10 ∷ []) after

end_is : (defs : List TypeDef) (n : ℕ) → IsText defs End n (number_text (codes "end ") n)
end_is defs n after = three (codes "end ") (decimal_of n) (10 ∷ []) after

done_is : (word : List ℕ) (defs : List TypeDef) (l : DoneLine) (after : List ℕ) →
    done_text word defs l ++ after
    ≡ word ++ (decimal_of l.call.entity
    ++ rest_of_line (sender_text l.call.sender ∷ decimal_of l.call.number ∷ deed_words (type_of defs l.ty) l.call.deed) after)
done_is word defs l after =
    let t = type_of defs l.ty in
    let from : List ℕ = 32 ∷ sender_text l.call.sender in
    let e = decimal_of l.call.entity in
    let n = field l.call.number in
    six word e from n (deed_text t l.call.deed) (10 ∷ []) after
    ∙ ap (λ (y : List ℕ). word ++ (e ++ (from ++ (n ++ y)))) (deed_is t l.call.deed after)

did_is : (defs : List TypeDef) (l : DoneLine) → IsText defs Did l (done_text (codes "did ") defs l)
did_is defs l after = done_is (codes "did ") defs l after

dob_is : (defs : List TypeDef) (l : DoneLine) → IsText defs Dob l (done_text (codes "dob ") defs l)
dob_is defs l after = done_is (codes "dob ") defs l after

home_is : (defs : List TypeDef) (l : HomeLine) → IsText defs Home l (home_text defs l)
home_is defs l after =
    let ps = (type_of defs l.ty).properties in
    let word = codes "home " in
    let e = decimal_of l.entity in
    let cell = field l.cell in
    let version = field l.version in
    let x = field l.state.pos.x in
    let z = field l.state.pos.z in
    eight word e cell version x z (values_text ps group.Real l.state.props) (10 ∷ []) after
    ∙ ap (λ (y : List ℕ). word ++ (e ++ (cell ++ (version ++ (x ++ (z ++ y)))))) (values_are ps group.Real l.state.props after)

base_is : (defs : List TypeDef) (l : BaseLine) → IsText defs Base l (base_text defs l)
base_is defs l after =
    let ps = (type_of defs l.ty).properties in
    let word = codes "base " in
    let e = decimal_of l.entity in
    five word e (field l.version) (values_text ps group.Base l.props) (10 ∷ []) after
    ∙ ap (λ (y : List ℕ). word ++ (e ++ (field l.version ++ y))) (values_are ps group.Base l.props after)

ghost_is : (defs : List TypeDef) (l : GhostLine) → IsText defs Ghost l (ghost_text l)
ghost_is defs l after = five (codes "ghost ") (decimal_of l.entity) (field l.cell) (field l.version) (10 ∷ []) after

to_is : (defs : List TypeDef) (l : ClientLine) → IsText defs To l (client_text defs l)
to_is defs l after =
    let word = codes "to " in
    let e = decimal_of l.entity in
    let n = field l.line.number in
    five word e n (told_text defs l.ty l.line.text) (10 ∷ []) after
    ∙ ap (λ (y : List ℕ). word ++ (e ++ (n ++ y))) (told_is defs l.ty l.line.text after)

bound_is : (defs : List TypeDef) (b : ℕ × Cut) → IsText defs Bound b (bound_text b)
bound_is defs b after =
    let along : List ℕ = 32 ∷ axis_text b.1.boundary.axis in
    five (codes "bound ") (decimal_of b.0) along (field b.1.boundary.at) (10 ∷ []) after

-- ---- rounds

-- lines of one kind, and then others
section : (defs : List TypeDef) (k : Kind) (f : LineData k → List ℕ) → ((x : LineData k) → IsText defs k x (f x)) → (xs : List (LineData k))
    (rest : List TextLine) (after : List ℕ) →
    flat_map f xs ++ lines_text defs rest after ≡ lines_text defs (map (line k) xs ++ rest) after
section defs k f is [] rest after = refl
section defs k f is (x ∷ xs) rest after =
    append_assoc (f x) (flat_map f xs) (lines_text defs rest after)
    ∙ is x (flat_map f xs ++ lines_text defs rest after)
    ∙ ap (line_text defs (line k x)) (section defs k f is xs rest after)

bounds_are : (tree : Option Division) → bounds_text tree ≡ flat_map bound_text (bounds_of tree)
bounds_are None = refl
bounds_are (Some tree) = refl

-- the text of a round is that of its lines
pub text_is : (defs : List TypeDef) (r : RoundData) (after : List ℕ) → round_text defs r ++ after ≡ lines_text defs (lines_of r) after
text_is defs r after =
    let first = number_text (codes "round ") r.number in
    let did = flat_map (done_text (codes "did ") defs) r.did in
    let dob = flat_map (done_text (codes "dob ") defs) r.dob in
    let homes = flat_map (home_text defs) r.homes in
    let bases = flat_map (base_text defs) r.bases in
    let ghosts = flat_map ghost_text r.ghosts in
    let shown = flat_map (client_text defs) r.shown in
    let last = number_text (codes "end ") r.number in
    let l8 : List TextLine = line End r.number ∷ [] in
    let l7 : List TextLine = map (line Bound) (bounds_of r.bounds) ++ l8 in
    let l6 : List TextLine = map (line To) r.shown ++ l7 in
    let l5 : List TextLine = map (line Ghost) r.ghosts ++ l6 in
    let l4 : List TextLine = map (line Base) r.bases ++ l5 in
    let l3 : List TextLine = map (line Home) r.homes ++ l4 in
    let l2 : List TextLine = map (line Dob) r.dob ++ l3 in
    ap (λ (y : List ℕ). y ++ did ++ dob ++ homes ++ bases ++ ghosts ++ shown ++ bounds_text r.bounds ++ last ++ after) (append-nil first)
    ∙ append_assoc (first ++ did ++ dob ++ homes ++ bases ++ ghosts ++ shown ++ bounds_text r.bounds) last after
    ∙ eight first did dob homes bases ghosts shown (bounds_text r.bounds) (last ++ after)
    ∙ ap (λ (y : List ℕ). first ++ (did ++ (dob ++ (homes ++ (bases ++ (ghosts ++ (shown ++ (bounds_text r.bounds ++ y))))))))
    (end_is defs r.number after)
    ∙ ap (λ (y : List ℕ). first ++ (did ++ (dob ++ (homes ++ (bases ++ (ghosts ++ (shown ++ (y ++ lines_text defs l8 after))))))))
    (bounds_are r.bounds)
    ∙ ap (λ (y : List ℕ). first ++ (did ++ (dob ++ (homes ++ (bases ++ (ghosts ++ (shown ++ y)))))))
    (section defs Bound bound_text (bound_is defs) (bounds_of r.bounds) l8 after)
    ∙ ap (λ (y : List ℕ). first ++ (did ++ (dob ++ (homes ++ (bases ++ (ghosts ++ y))))))
    (section defs To (client_text defs) (to_is defs) r.shown l7 after)
    ∙ ap (λ (y : List ℕ). first ++ (did ++ (dob ++ (homes ++ (bases ++ y)))))
    (section defs Ghost ghost_text (ghost_is defs) r.ghosts l6 after)
    ∙ ap (λ (y : List ℕ). first ++ (did ++ (dob ++ (homes ++ y)))) (section defs Base (base_text defs) (base_is defs) r.bases l5 after)
    ∙ ap (λ (y : List ℕ). first ++ (did ++ (dob ++ y))) (section defs Home (home_text defs) (home_is defs) r.homes l4 after)
    ∙ ap (λ (y : List ℕ). first ++ (did ++ y)) (section defs Dob (done_text (codes "dob ") defs) (dob_is defs) r.dob l3 after)
    ∙ ap (λ (y : List ℕ). first ++ y) (section defs Did (done_text (codes "did ") defs) (did_is defs) r.did l2 after)
    ∙ begin_is defs r.number (lines_text defs (map (line Did) r.did ++ l2) after)
