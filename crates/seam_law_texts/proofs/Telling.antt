-- The words of a line tell the line, where it is in form.
use Rattle.std.proofs.Common.{◌≡◌, ◌≢◌, ℕ, ◌<◌, true, false, List, [], ◌∷◌, map, refl, sym, ◌∙◌, ap, arith, zero, suc, subst, length}
use Rattle.std.proofs.Common.{Some, slice_get, slice_index_or, zip, eqb, if◌then◌else◌}
use Rattle.std.specs.Prelude.{codes, slice_index}
use Rattle.std.specs.List.{AllZip}
use Rattle.std.proofs.lemmas.List.{append_cancel_left}
use Rattle.seam_value.specs.Values.{Fits, decimal_of, text_of}
use Rattle.seam_value.specs.declared.values.Value.{Value}
use Rattle.seam_value.proofs.Decimals.{decimal_of-injective}
use Rattle.seam_value.proofs.Answers.{text_of-injective}
use Rattle.seam_tree.specs.declared.cut.Cut.{Cut}
use Rattle.seam_tree.specs.declared.boundary.Axis.{Axis}
use Rattle.seam_tree.specs.declared.boundary.Axis.TheVariants as axis
use Rattle.seam_tree.specs.Division.{cell_cut_by}
use Rattle.seam_defs.specs.Types.{type_of, method_of, no_method, AreDefs, IsType, IsMethod}
use Rattle.seam_defs.specs.Deeds.{properties_of, IsOfGroup, FitsDeed}
use Rattle.seam_defs.specs.declared.types.TypeDef.{TypeDef}
use Rattle.seam_defs.specs.declared.types.Property.{Property}
use Rattle.seam_defs.specs.declared.types.Method.{Method as MethodDef}
use Rattle.seam_defs.specs.declared.flags.Part.{Part}
use Rattle.seam_defs.specs.declared.flags.Part.TheVariants as part
use Rattle.seam_defs.specs.declared.flags.Group.{Group}
use Rattle.seam_defs.specs.declared.flags.Group.TheVariants as group
use Rattle.seam_defs.specs.declared.states.State.{State}
use Rattle.seam_defs.specs.declared.states.Deed.{Deed}
use Rattle.seam_defs.specs.declared.states.Deed.TheVariants.{Move, Method}
use Rattle.seam_defs.proofs.Numbers.{type_of-is}
use Rattle.seam_defs.proofs.NameSearch.{one_place}
use Rattle.seam_call.specs.declared.sender.Sender.{Sender}
use Rattle.seam_call.specs.declared.sender.Sender.TheVariants as sender
use Rattle.seam_call.specs.declared.shown.Shown.{Shown}
use Rattle.seam_call.specs.declared.shown.Shown.TheVariants.{Own, Enter, Set, Leave}
use Rattle.seam_call.specs.declared.shown.GhostCopy.{GhostCopy}
use Rattle.seam_call.specs.declared.shown.ClientText.{ClientText}
use Rattle.seam_call.specs.declared.shown.ClientText.TheVariants as text
use Rattle.seam_rule_lines.specs.Book.{Book, tree_of}
use Rattle.seam_rule_lines.specs.Language.{sender_text, axis_text}
use Rattle.seam_rule_lines.specs.Round.{DoneLine, HomeLine, BaseLine}
use Rattle.seam_rule_rounds.specs.Lines.{GhostLine, ClientLine}
use Rattle.seam_law_texts.specs.declared.kinds.Kind.{Kind}
use Rattle.seam_law_texts.specs.declared.kinds.Kind.TheVariants.{Begin, Did, Dob, Home, Base, Ghost, To, Bound, End}
use Rattle.seam_law_texts.specs.TextLines.{LineData, word_of, line}
use Rattle.seam_law_texts.specs.TextLines.{property_word, value_words, state_words, deed_words, done_words, home_words, base_words}
use Rattle.seam_law_texts.specs.TextLines.{ghost_words, shown_words, told_words, client_words, bound_words, data_words}
use Rattle.seam_law_texts.specs.Forms.{type_in, HasState, IsDone, IsHome, IsBase, IsCopy, IsShown, IsClientText, IsTo, IsBound, IsForm}

-- ---- lists of words

-- one first word and the same others
heads : {X : Type 0} (x y : X) (xs ys : List X) → x ∷ xs ≡ y ∷ ys → x ≡ y
heads x y xs ys e = cc

tails : {X : Type 0} (x y : X) (xs ys : List X) → x ∷ xs ≡ y ∷ ys → xs ≡ ys
tails x y xs ys e = cc

-- the number that a first word spells
first_number : (m n : ℕ) (xs ys : List (List ℕ)) → decimal_of m ∷ xs ≡ decimal_of n ∷ ys → m ≡ n
first_number m n xs ys e = decimal_of-injective m n (heads (decimal_of m) (decimal_of n) xs ys e)

-- the first byte of the first word
abbrev first_byte : List (List ℕ) → ℕ
first_byte [] = 0
first_byte (w ∷ ws) = slice_index w 0

unlike : (m n : ℕ) → m ≡ n → eqb m n ≡ false → ⊥
unlike m n same differ = let equal : eqb m n ≡ true = grind (arith, same) in cc

-- ---- values

arguments_told : (xs ys : List Value) → map text_of xs ≡ map text_of ys → xs ≡ ys
arguments_told [] [] e = refl
arguments_told [] (y ∷ ys) e = absurd (cc)
arguments_told (x ∷ xs) [] e = absurd (cc)
arguments_told (x ∷ xs) (y ∷ ys) e =
    let first = text_of-injective x y (heads (text_of x) (text_of y) (map text_of xs) (map text_of ys) e) in
    let others = arguments_told xs ys (tails (text_of x) (text_of y) (map text_of xs) (map text_of ys) e) in
    λ i. first i ∷ others i

property_told : (p : Property) (v w : Value) → property_word (p, v) ≡ property_word (p, w) → v ≡ w
property_told p v w e =
    let spelled = append_cancel_left p.name (61 ∷ text_of v) (61 ∷ text_of w) e in
    text_of-injective v w (tails 61 61 (text_of v) (text_of w) spelled)

zipped_told : (ps : List Property) (vs ws : List Value) → AllZip (λ p v. Fits v p.ty) ps vs → AllZip (λ p v. Fits v p.ty) ps ws →
    map property_word (zip ps vs) ≡ map property_word (zip ps ws) → vs ≡ ws
zipped_told [] [] [] fv fw e = refl
zipped_told [] [] (w ∷ ws) fv fw e = absurd fw
zipped_told [] (v ∷ vs) ws fv fw e = absurd fv
zipped_told (p ∷ ps) [] ws fv fw e = absurd fv
zipped_told (p ∷ ps) (v ∷ vs) [] fv fw e = absurd fw
zipped_told (p ∷ ps) (v ∷ vs) (w ∷ ws) fv fw e =
    let first = property_told p v w (heads (property_word (p, v)) (property_word (p, w)) _ _ e) in
    let others = zipped_told ps vs ws fv.1 fw.1 (tails (property_word (p, v)) (property_word (p, w)) _ _ e) in
    λ i. first i ∷ others i

values_told : (t : TypeDef) (g : Group) (vs ws : List Value) → IsOfGroup t.properties g vs → IsOfGroup t.properties g ws →
    value_words t.properties g vs ≡ value_words t.properties g ws → vs ≡ ws
values_told t g vs ws fv fw e = zipped_told (properties_of t.properties g) vs ws fv fw e

state_told : (t : TypeDef) (g : Group) (r s : State) → HasState t g r → HasState t g s → state_words t g r ≡ state_words t g s → r ≡ s
state_told t g r s hr hs e =
    let x = first_number r.pos.x s.pos.x _ _ e in
    let e1 = tails (decimal_of r.pos.x) (decimal_of s.pos.x) _ _ e in
    let z = first_number r.pos.z s.pos.z _ _ e1 in
    let values = values_told t g r.props s.props hr.values hs.values (tails (decimal_of r.pos.z) (decimal_of s.pos.z) _ _ e1) in
    λ i. record { pos = record { x = x i; z = z i }; props = values i }

-- ---- deeds

name_at : (ms : List MethodDef) (m : ℕ) → m < length ms → slice_get (map (λ x. x.name) ms) m ≡ Some (slice_index_or ms m no_method).name
name_at [] m within = absurd (omega arith)
name_at (x ∷ ms) zero within = refl
name_at (x ∷ ms) (suc m) within = name_at ms m (omega arith)

method_told : (t : TypeDef) (m n : ℕ) → IsType t → m < length t.methods → n < length t.methods →
    (method_of t m).name ≡ (method_of t n).name → m ≡ n
method_told t m n is within inside e =
    one_place (λ (x : MethodDef). x.name) t.methods is.method_names (method_of t m).name m n (name_at t.methods m within)
    (name_at t.methods n inside ∙ ap Some (sym e))

not_move : (t : TypeDef) (m : ℕ) → IsType t → m < length t.methods → (method_of t m).name ≢ codes "move"
not_move t m is within = let method : IsMethod t.properties (method_of t m) = is.bodies m no_method within in method.not_move

deed_told : (t : TypeDef) (d c : Deed) → IsType t → FitsDeed t d → FitsDeed t c → deed_words t d ≡ deed_words t c → d ≡ c
deed_told t (Move p) (Move q) is fd fc e =
    let e1 = tails (codes "move") (codes "move") _ _ e in
    let x = first_number p.x q.x _ _ e1 in
    let z = first_number p.z q.z _ _ (tails (decimal_of p.x) (decimal_of q.x) _ _ e1) in
    λ i. Move (record { x = x i; z = z i })
deed_told t (Move p) (Method n ws) is fd fc e =
    absurd (not_move t n is fc.0 (sym (heads (codes "move") (method_of t n).name _ _ e)))
deed_told t (Method m vs) (Move q) is fd fc e = absurd (not_move t m is fd.0 (heads (method_of t m).name (codes "move") _ _ e))
deed_told t (Method m vs) (Method n ws) is fd fc e =
    let method = method_told t m n is fd.0 fc.0 (heads (method_of t m).name (method_of t n).name _ _ e) in
    let args = arguments_told vs ws (tails (method_of t m).name (method_of t n).name _ _ e) in
    λ i. Method (method i) (args i)

sender_told : (s r : Sender) → sender_text s ≡ sender_text r → s ≡ r
sender_told (sender.Base m) (sender.Base n) e =
    ap sender.Base (decimal_of-injective m n (tails 98 98 (decimal_of m) (decimal_of n) e))
sender_told (sender.Base m) (sender.Client n) e = absurd (unlike 98 99 (heads 98 99 (decimal_of m) (decimal_of n) e) refl)
sender_told (sender.Client m) (sender.Base n) e = absurd (unlike 99 98 (heads 99 98 (decimal_of m) (decimal_of n) e) refl)
sender_told (sender.Client m) (sender.Client n) e =
    ap sender.Client (decimal_of-injective m n (tails 99 99 (decimal_of m) (decimal_of n) e))

axis_told : (a b : Axis) → axis_text a ≡ axis_text b → a ≡ b
axis_told axis.X axis.X e = refl
axis_told axis.X axis.Z e = absurd (unlike 120 122 (heads 120 122 [] [] e) refl)
axis_told axis.Z axis.X e = absurd (unlike 122 120 (heads 122 120 [] [] e) refl)
axis_told axis.Z axis.Z e = refl

-- ---- lines

module _ (defs : List TypeDef) (are : AreDefs defs) (b : Book) where
  -- lines of one entity are of one type
  same_type : (d e s t : ℕ) → d ≡ e → s ≡ type_in b d → t ≡ type_in b e → s ≡ t
  same_type d e s t same is at = is ∙ ap (type_in b) same ∙ sym at

  done_told : (p : Part) (x y : DoneLine) → IsDone defs b p x → IsDone defs b p y → done_words defs x ≡ done_words defs y → x ≡ y
  done_told p x y fx fy e =
      let entity = first_number x.call.entity y.call.entity _ _ e in
      let e1 = tails (decimal_of x.call.entity) (decimal_of y.call.entity) _ _ e in
      let sent = sender_told x.call.sender y.call.sender (heads (sender_text x.call.sender) (sender_text y.call.sender) _ _ e1) in
      let e2 = tails (sender_text x.call.sender) (sender_text y.call.sender) _ _ e1 in
      let number = first_number x.call.number y.call.number _ _ e2 in
      let e3 = tails (decimal_of x.call.number) (decimal_of y.call.number) _ _ e2 in
      let ty = same_type x.call.entity y.call.entity x.ty y.ty entity fx.ty fy.ty in
      let fits = subst (λ (t : ℕ). FitsDeed (type_of defs t) y.call.deed) (sym ty) fy.deed in
      let words = e3 ∙ ap (λ (t : ℕ). deed_words (type_of defs t) y.call.deed) (sym ty) in
      let deed = deed_told (type_of defs x.ty) x.call.deed y.call.deed (type_of-is defs are x.ty) fx.deed fits words in
      let of = fx.part ∙ sym fy.part in
      λ i. record { ty = ty i; call = record { entity = entity i; part = of i; sender = sent i; number = number i; deed = deed i } }

  -- the state of one type's group, by words of that type
  state_of_type : (g : Group) (s t : ℕ) (x y : State) → s ≡ t → HasState (type_of defs s) g x → HasState (type_of defs t) g y →
      state_words (type_of defs s) g x ≡ state_words (type_of defs t) g y → x ≡ y
  state_of_type g s t x y ty hx hy e =
      state_told (type_of defs s) g x y hx (subst (λ (n : ℕ). HasState (type_of defs n) g y) (sym ty) hy)
      (e ∙ ap (λ (n : ℕ). state_words (type_of defs n) g y) (sym ty))

  values_of_type : (g : Group) (s t : ℕ) (x y : List Value) → s ≡ t → IsOfGroup (type_of defs s).properties g x →
      IsOfGroup (type_of defs t).properties g y →
      value_words (type_of defs s).properties g x ≡ value_words (type_of defs t).properties g y → x ≡ y
  values_of_type g s t x y ty hx hy e =
      values_told (type_of defs s) g x y hx (subst (λ (n : ℕ). IsOfGroup (type_of defs n).properties g y) (sym ty) hy)
      (e ∙ ap (λ (n : ℕ). value_words (type_of defs n).properties g y) (sym ty))

  home_told : (x y : HomeLine) → IsHome defs b x → IsHome defs b y → home_words defs x ≡ home_words defs y → x ≡ y
  home_told x y fx fy e =
      let entity = first_number x.entity y.entity _ _ e in
      let e1 = tails (decimal_of x.entity) (decimal_of y.entity) _ _ e in
      let cell = first_number x.cell y.cell _ _ e1 in
      let e2 = tails (decimal_of x.cell) (decimal_of y.cell) _ _ e1 in
      let version = first_number x.version y.version _ _ e2 in
      let e3 = tails (decimal_of x.version) (decimal_of y.version) _ _ e2 in
      let ty = same_type x.entity y.entity x.ty y.ty entity fx.ty fy.ty in
      let state = state_of_type group.Real x.ty y.ty x.state y.state ty fx.state fy.state e3 in
      λ i. record { entity = entity i; ty = ty i; cell = cell i; version = version i; state = state i }

  base_told : (x y : BaseLine) → IsBase defs b x → IsBase defs b y → base_words defs x ≡ base_words defs y → x ≡ y
  base_told x y fx fy e =
      let entity = first_number x.entity y.entity _ _ e in
      let e1 = tails (decimal_of x.entity) (decimal_of y.entity) _ _ e in
      let version = first_number x.version y.version _ _ e1 in
      let e2 = tails (decimal_of x.version) (decimal_of y.version) _ _ e1 in
      let ty = same_type x.entity y.entity x.ty y.ty entity fx.ty fy.ty in
      let values = values_of_type group.Base x.ty y.ty x.props y.props ty fx.values fy.values e2 in
      λ i. record { entity = entity i; ty = ty i; version = version i; props = values i }

  ghost_told : (x y : GhostLine) → ghost_words x ≡ ghost_words y → x ≡ y
  ghost_told x y e =
      let entity = first_number x.entity y.entity _ _ e in
      let e1 = tails (decimal_of x.entity) (decimal_of y.entity) _ _ e in
      let cell = first_number x.cell y.cell _ _ e1 in
      let version = first_number x.version y.version _ _ (tails (decimal_of x.cell) (decimal_of y.cell) _ _ e1) in
      λ i. record { entity = entity i; cell = cell i; version = version i }

  -- a copy of an entity, by its version and state
  copy_told : (d e : ℕ) (j k : GhostCopy) → d ≡ e → IsCopy defs b d j → IsCopy defs b e k →
      decimal_of j.version ∷ state_words (type_of defs j.ty) group.Other j.state
      ≡ decimal_of k.version ∷ state_words (type_of defs k.ty) group.Other k.state → j ≡ k
  copy_told d e j k same fj fk words =
      let version = first_number j.version k.version _ _ words in
      let ty = same_type d e j.ty k.ty same fj.ty fk.ty in
      let state =
      state_of_type group.Other j.ty k.ty j.state k.state ty fj.state fk.state
      (tails (decimal_of j.version) (decimal_of k.version) _ _ words) in
      λ i. record { ty = ty i; version = version i; state = state i }

  -- what two kinds of client lines say begins with other bytes
  other_words : (m n : ℕ) (xs ys : List (List ℕ)) → xs ≡ ys → first_byte xs ≡ m → first_byte ys ≡ n → eqb m n ≡ false → ⊥
  other_words m n xs ys e at is differ = unlike m n (sym at ∙ ap first_byte e ∙ is) differ

  shown_told : (ty : ℕ) (x y : Shown) → IsShown defs b ty x → IsShown defs b ty y → shown_words defs ty x ≡ shown_words defs ty y → x ≡ y
  shown_told ty (Own v r) (Own w s) fx fy e =
      let e1 = tails (codes "own") (codes "own") _ _ e in
      let version = first_number v w _ _ e1 in
      let state = state_told (type_of defs ty) group.Own r s fx.1 fy.1 (tails (decimal_of v) (decimal_of w) _ _ e1) in
      λ i. Own (version i) (state i)
  shown_told ty (Enter d j) (Enter e k) fx fy same =
      let e1 = tails (codes "enter") (codes "enter") _ _ same in
      let entity = first_number d e _ _ e1 in
      let e2 = tails (decimal_of d) (decimal_of e) _ _ e1 in
      let copy = copy_told d e j k entity fx fy (tails (type_of defs j.ty).name (type_of defs k.ty).name _ _ e2) in
      λ i. Enter (entity i) (copy i)
  shown_told ty (Set d j) (Set e k) fx fy same =
      let e1 = tails (codes "set") (codes "set") _ _ same in
      let entity = first_number d e _ _ e1 in
      let copy = copy_told d e j k entity fx fy (tails (decimal_of d) (decimal_of e) _ _ e1) in
      λ i. Set (entity i) (copy i)
  shown_told ty (Leave d) (Leave e) fx fy same = ap Leave (first_number d e _ _ (tails (codes "leave") (codes "leave") _ _ same))
  shown_told ty (Own v r) (Enter e k) fx fy same = absurd (other_words 111 101 _ _ same refl refl refl)
  shown_told ty (Own v r) (Set e k) fx fy same = absurd (other_words 111 115 _ _ same refl refl refl)
  shown_told ty (Own v r) (Leave e) fx fy same = absurd (other_words 111 108 _ _ same refl refl refl)
  shown_told ty (Enter d j) (Own w s) fx fy same = absurd (other_words 101 111 _ _ same refl refl refl)
  shown_told ty (Enter d j) (Set e k) fx fy same = absurd (other_words 101 115 _ _ same refl refl refl)
  shown_told ty (Enter d j) (Leave e) fx fy same = absurd (other_words 101 108 _ _ same refl refl refl)
  shown_told ty (Set d j) (Own w s) fx fy same = absurd (other_words 115 111 _ _ same refl refl refl)
  shown_told ty (Set d j) (Enter e k) fx fy same = absurd (other_words 115 101 _ _ same refl refl refl)
  shown_told ty (Set d j) (Leave e) fx fy same = absurd (other_words 115 108 _ _ same refl refl refl)
  shown_told ty (Leave d) (Own w s) fx fy same = absurd (other_words 108 111 _ _ same refl refl refl)
  shown_told ty (Leave d) (Enter e k) fx fy same = absurd (other_words 108 101 _ _ same refl refl refl)
  shown_told ty (Leave d) (Set e k) fx fy same = absurd (other_words 108 115 _ _ same refl refl refl)

  -- no line about cell parts is one about the base part
  not_base : (ty : ℕ) (x : Shown) (v : ℕ) (props : List Value) → shown_words defs ty x ≢ told_words defs ty (text.Base v props)
  not_base ty (Own w s) v props same = other_words 111 98 _ _ same refl refl refl
  not_base ty (Enter e k) v props same = other_words 101 98 _ _ same refl refl refl
  not_base ty (Set e k) v props same = other_words 115 98 _ _ same refl refl refl
  not_base ty (Leave e) v props same = other_words 108 98 _ _ same refl refl refl

  told_told : (ty : ℕ) (x y : ClientText) → IsClientText defs b ty x → IsClientText defs b ty y →
      told_words defs ty x ≡ told_words defs ty y → x ≡ y
  told_told ty (text.Shown x) (text.Shown y) fx fy e = ap text.Shown (shown_told ty x y fx fy e)
  told_told ty (text.Shown x) (text.Base w us) fx fy e = absurd (not_base ty x w us e)
  told_told ty (text.Base v vs) (text.Shown y) fx fy e = absurd (not_base ty y v vs (sym e))
  told_told ty (text.Base v vs) (text.Base w us) fx fy e =
      let e1 = tails (codes "base") (codes "base") _ _ e in
      let version = first_number v w _ _ e1 in
      let values =
      values_told (type_of defs ty) group.BaseClient vs us fx.1 fy.1 (tails (decimal_of v) (decimal_of w) _ _ e1) in
      λ i. text.Base (version i) (values i)

  to_told : (x y : ClientLine) → IsTo defs b x → IsTo defs b y → client_words defs x ≡ client_words defs y → x ≡ y
  to_told x y fx fy e =
      let entity = first_number x.entity y.entity _ _ e in
      let e1 = tails (decimal_of x.entity) (decimal_of y.entity) _ _ e in
      let number = first_number x.line.number y.line.number _ _ e1 in
      let e2 = tails (decimal_of x.line.number) (decimal_of y.line.number) _ _ e1 in
      let ty = same_type x.entity y.entity x.ty y.ty entity fx.ty fy.ty in
      let told =
      told_told x.ty x.line.text y.line.text fx.told (subst (λ (t : ℕ). IsClientText defs b t y.line.text) (sym ty) fy.told)
      (e2 ∙ ap (λ (t : ℕ). told_words defs t y.line.text) (sym ty)) in
      λ i. record { entity = entity i; ty = ty i; line = record { number = number i; text = told i } }

  some_is : (m n : ℕ) → Some m ≡ Some n → m ≡ n
  some_is m n e = cc

  bound_told : (x y : ℕ × Cut) → IsBound b x → IsBound b y → bound_words x ≡ bound_words y → x ≡ y
  bound_told x y fx fy e =
      let number = first_number x.0 y.0 _ _ e in
      let e1 = tails (decimal_of x.0) (decimal_of y.0) _ _ e in
      let words = heads (axis_text x.1.boundary.axis) (axis_text y.1.boundary.axis) _ _ e1 in
      let along = axis_told x.1.boundary.axis y.1.boundary.axis words in
      let e2 = tails (axis_text x.1.boundary.axis) (axis_text y.1.boundary.axis) _ _ e1 in
      let at = first_number x.1.boundary.at y.1.boundary.at _ _ e2 in
      let cell = some_is x.1.cell y.1.cell (sym fx.cell ∙ ap (cell_cut_by (tree_of b)) number ∙ fy.cell) in
      λ i. (number i, record { cell = cell i; boundary = record { axis = along i; at = at i } })

  -- two lines of one kind with the same words are one
  same_said : (k : Kind) (x y : LineData k) → IsForm defs b k x → IsForm defs b k y → data_words defs k x ≡ data_words defs k y → x ≡ y
  same_said Begin m n fx fy e = first_number m n [] [] e
  same_said Did x y fx fy e = done_told part.Cell x y fx fy e
  same_said Dob x y fx fy e = done_told part.Base x y fx fy e
  same_said Home x y fx fy e = home_told x y fx fy e
  same_said Base x y fx fy e = base_told x y fx fy e
  same_said Ghost x y fx fy e = ghost_told x y e
  same_said To x y fx fy e = to_told x y fx fy e
  same_said Bound x y fx fy e = bound_told x y fx fy e
  same_said End m n fx fy e = first_number m n [] [] e

-- ---- kinds

-- the kind of a first word, by its first two bytes
abbrev kind_by : (first second : ℕ) → Kind
kind_by first second =
    if eqb first 114 then Begin else (if eqb first 100 then (if eqb second 105 then Did else Dob) else (if eqb first 104 then Home
    else (if eqb first 98 then (if eqb second 97 then Base else Bound) else (if eqb first 103 then Ghost
    else (if eqb first 116 then To else End)))))

abbrev kind_named : List ℕ → Kind
kind_named w = kind_by (slice_index w 0) (slice_index w 1)

kind_is : (k : Kind) → kind_named (word_of k) ≡ k
kind_is Begin = refl
kind_is Did = refl
kind_is Dob = refl
kind_is Home = refl
kind_is Base = refl
kind_is Ghost = refl
kind_is To = refl
kind_is Bound = refl
kind_is End = refl

pub same_kind : (j k : Kind) → word_of j ≡ word_of k → j ≡ k
same_kind j k e = sym (kind_is j) ∙ ap kind_named e ∙ kind_is k

-- two lines with the same words are one
pub same_line : (defs : List TypeDef) → AreDefs defs → (b : Book) (j k : Kind) (x : LineData j) (y : LineData k) →
    IsForm defs b j x → IsForm defs b k y → word_of j ≡ word_of k → data_words defs j x ≡ data_words defs k y → line j x ≡ line k y
same_line defs are b j k x y fx fy first others =
    subst (λ (l : Kind). (z : LineData l) → IsForm defs b l z → data_words defs j x ≡ data_words defs l z → line j x ≡ line l z)
    (same_kind j k first) (λ z fz e. ap (line j) (same_said defs are b j x z fx fz e)) y fy others
