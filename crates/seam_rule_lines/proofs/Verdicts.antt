-- A line has one verdict.
use Rattle.std.proofs.Common.{◌≡◌, ◌≤◌, ◌⊎◌, ◌+◌, ℕ, Bool, true, false, List, [], ◌∷◌, map, length, drop, get_or, inl, inr, refl, sym}
use Rattle.std.proofs.Common.{ap, ◌∙◌, subst, arith}
use Rattle.std.specs.Prelude.{◌==◌}
use Rattle.std.proofs.lemmas.Option.{same_Some}
use Rattle.seam_io.specs.Lines.{Line, Content, Long}
use Rattle.seam_geo.specs.declared.pos.Pos.{Pos}
use Rattle.seam_geo.specs.Rect.{Area}
use Rattle.seam_value.specs.NumberWords.{SpellsPositive}
use Rattle.seam_value.specs.Values.{text_of}
use Rattle.seam_value.specs.declared.values.Value.{Value}
use Rattle.seam_value.proofs.Answers.{text_of-injective}
use Rattle.seam_value.proofs.Decimals.{decimal_of-injective}
use Rattle.seam_value.proofs.NumberWords.{spells_one_number}
use Rattle.seam_words.specs.Faults.{Refuses}
use Rattle.seam_words.specs.SplitWords.{HasWords}
use Rattle.seam_words.specs.declared.words.WordsError.{WordsError}
use Rattle.seam_words.proofs.WordTexts.{words_are_one_list, no_words_at_fault, fault_is_first}
use Rattle.seam_tree.specs.Boundary.{LeavesPartEmpty, RunsThrough}
use Rattle.seam_tree.specs.Division.{Division, cells_of, area, HasBoundary}
use Rattle.seam_tree.specs.Change.{with_cut, with_place}
use Rattle.seam_tree.specs.declared.boundary.Axis.{Axis}
use Rattle.seam_tree.specs.declared.boundary.Axis.TheVariants as axis
use Rattle.seam_tree.specs.declared.boundary.Boundary.{Boundary}
use Rattle.seam_tree.specs.declared.tree.CutError.{CutError}
use Rattle.seam_tree.specs.declared.tree.CutError.TheVariants.{NoCell, OutsideCell, TooManyCells}
use Rattle.seam_tree.specs.declared.tree.ShiftError.{ShiftError}
use Rattle.seam_tree.specs.declared.tree.ShiftError.TheVariants.{NoBoundary, WouldEmpty}
use Rattle.seam_defs.specs.Types.{type_of, AreDefs}
use Rattle.seam_defs.specs.Deeds.{part_of_deed}
use Rattle.seam_defs.specs.declared.types.TypeDef.{TypeDef}
use Rattle.seam_defs.specs.declared.types.Method.{Method as Methods}
use Rattle.seam_defs.specs.declared.flags.Part.{Part}
use Rattle.seam_defs.specs.declared.states.Deed.{Deed}
use Rattle.seam_defs.specs.declared.states.Deed.TheVariants.{Move, Method}
use Rattle.seam_defs.proofs.NameSearch.{one_place}
use Rattle.seam_defs.proofs.Numbers.{rising-methods}
use Rattle.seam_call.specs.declared.sender.Sender.{Sender}
use Rattle.seam_call.specs.declared.sender.Sender.TheVariants as sender
use Rattle.seam_call.specs.declared.call.Call.{Call}
use Rattle.seam_call.specs.declared.create.Create.{Create}
use Rattle.seam_toml.specs.declared.header.Header.{Header}
use Rattle.seam_rule_lines.specs.Language as language
use Rattle.seam_rule_lines.specs.Book.{Book, live_as, accepted, tree_of}
use Rattle.seam_rule_lines.specs.Judging.{NamesType, NamesMethod, NamesLive, NamesDeed, NamesMove, NamesCreate, SpellsPosition, NamesCall}
use Rattle.seam_rule_lines.specs.Judging.{RefusesCut, RefusesShift, Adds, rank, HoldsAgainst, Holds, IsFirst, Spells, Judges}
use Rattle.seam_rule_lines.specs.declared.verdict.Entry.{Entry}
use Rattle.seam_rule_lines.specs.declared.verdict.Entry.TheVariants as entry
use Rattle.seam_rule_lines.specs.declared.verdict.Cause.{Cause}
use Rattle.seam_rule_lines.specs.declared.verdict.Cause.TheVariants as cause
use Rattle.seam_rule_lines.specs.declared.verdict.Verdict.{Verdict}
use Rattle.seam_rule_lines.specs.declared.verdict.Verdict.TheVariants as verdict
use Rattle.seam_rule_lines.proofs.CommandWords.{command_is_one, line_spells_one, command_is_named}
use Rattle.seam_rule_lines.proofs.Names.{place_of_type, place_of_method}

-- ---- what words name is one

pub sender_is_one : (s t : Sender) → language.sender_text s ≡ language.sender_text t → s ≡ t
sender_is_one (sender.Base m) (sender.Base n) same = ap sender.Base (decimal_of-injective m n (ap (drop 1) same))
sender_is_one (sender.Client d) (sender.Client e) same = ap sender.Client (decimal_of-injective d e (ap (drop 1) same))
sender_is_one (sender.Base m) (sender.Client e) same =
    let first = ap (λ (bytes : List ℕ). get_or bytes 0 0) same in
    absurd (omega (arith, first))
sender_is_one (sender.Client d) (sender.Base n) same =
    let first = ap (λ (bytes : List ℕ). get_or bytes 0 0) same in
    absurd (omega (arith, first))

pub type_is_one : (defs : List TypeDef) (name : List ℕ) (a b : ℕ) → AreDefs defs → NamesType defs name a → NamesType defs name b → a ≡ b
type_is_one defs name a b are one other =
    one_place (λ (t : TypeDef). t.name) defs are.names name a b (place_of_type defs name a one.has one.named)
    (place_of_type defs name b other.has other.named)

pub method_is_one : (defs : List TypeDef) (ty : ℕ) (name : List ℕ) (a b : ℕ) → AreDefs defs → NamesMethod (type_of defs ty) name a →
    NamesMethod (type_of defs ty) name b → a ≡ b
method_is_one defs ty name a b are one other =
    one_place (λ (m : Methods). m.name) (type_of defs ty).methods (rising-methods defs are ty) name a b
    (place_of_method (type_of defs ty) name a one.has one.named) (place_of_method (type_of defs ty) name b other.has other.named)

pub values_are_one : (xs ys : List Value) → map text_of xs ≡ map text_of ys → xs ≡ ys
values_are_one [] [] same = refl
values_are_one (x ∷ xs) (y ∷ ys) same =
    ap (λ (v : Value). v ∷ xs) (text_of-injective x y (ap (λ (ts : List (List ℕ)). get_or ts 0 []) same))
    ∙ ap (λ (vs : List Value). y ∷ vs) (values_are_one xs ys (ap (drop 1) same))
values_are_one [] (y ∷ ys) same = cc
values_are_one (x ∷ xs) [] same = cc

pub positive_is_one : (w : List ℕ) (m n : ℕ) → SpellsPositive w m → SpellsPositive w n → m ≡ n
positive_is_one w m n one other = spells_one_number w m n one.number other.number

pub position_is_one : (h : Header) (x z : List ℕ) (p q : Pos) → SpellsPosition h x z p → SpellsPosition h x z q → p ≡ q
position_is_one h x z p q one other =
    let same_x = spells_one_number x p.x q.x one.spelled_x other.spelled_x in
    let same_z = spells_one_number z p.z q.z one.spelled_z other.spelled_z in
    λ i. record { x = same_x i; z = same_z i }

same_made : (c d : Create) → c.entity ≡ d.entity → c.ty ≡ d.ty → c.pos ≡ d.pos → c ≡ d
same_made c d entity ty at = λ i. record { entity = entity i; ty = ty i; pos = at i }

create_is_one : (h : Header) (e n x z : List ℕ) (c d : Create) → AreDefs h.defs → NamesCreate h e n x z c → NamesCreate h e n x z d → c ≡ d
create_is_one h e n x z c d are one other =
    same_made c d (positive_is_one e c.entity d.entity one.number other.number) (type_is_one h.defs n c.ty d.ty are one.type_ other.type_)
    (position_is_one h x z c.pos d.pos one.position other.position)

-- a word is the number of one live entity
pub live_is_one : (b : Book) (e : List ℕ) (c d : Create) → NamesLive b e c → NamesLive b e d → c ≡ d
live_is_one b e c d one other =
    same_Some c d (sym one.lives ∙ ap (live_as b) (positive_is_one e c.entity d.entity one.number other.number) ∙ other.lives)

pub same_fields : (c d : Call) → c.entity ≡ d.entity → c.part ≡ d.part → c.sender ≡ d.sender → c.number ≡ d.number → c.deed ≡ d.deed → c ≡ d
same_fields c d entity part sender number deed =
    λ i. record { entity = entity i; part = part i; sender = sender i; number = number i; deed = deed i }

-- at most one deed of each type is asked for
abbrev pub AskForOne : List TypeDef → (TypeDef → Deed → Type 0) → Type 0
AskForOne defs Asks = (ty : ℕ) (d e : Deed) → Asks (type_of defs ty) d → Asks (type_of defs ty) e → d ≡ e

pub deed_is_one : (defs : List TypeDef) (name : List ℕ) (arguments : List (List ℕ)) → AreDefs defs →
    AskForOne defs (NamesDeed arguments name)
deed_is_one defs name arguments are ty d e (m, args, named, one, is) (n, args', named', other, is') =
    is ∙ ap (λ (k : ℕ). Method k args) (method_is_one defs ty name m n are named named')
    ∙ ap (Method n) (values_are_one args args' (one.spelled ∙ sym other.spelled)) ∙ sym is'

pub move_is_one : (h : Header) (x z : List ℕ) → AskForOne h.defs (λ t. NamesMove h x z)
move_is_one h x z ty d e (p, one, is) (q, other, is') = is ∙ ap Move (position_is_one h x z p q one other) ∙ sym is'

call_is_one : (h : Header) (b : Book) (s e : List ℕ) (Asks : TypeDef → Deed → Type 0) (c d : Call) → AskForOne h.defs Asks →
    NamesCall h b s e Asks c → NamesCall h b s e Asks d → c ≡ d
call_is_one h b s e Asks c d ask one other =
    let made : one.made ≡ other.made = live_is_one b e one.made other.made one.live other.live in
    let entity : c.entity ≡ d.entity = one.entity_ ∙ ap (λ (m : Create). m.entity) made ∙ sym other.entity_ in
    let sender : c.sender ≡ d.sender = sender_is_one c.sender d.sender (one.sender.spelled ∙ sym other.sender.spelled) in
    let deed : c.deed ≡ d.deed =
    ask other.made.ty c.deed d.deed (subst (λ (m : Create). Asks (type_of h.defs m.ty) c.deed) made one.deed_) other.deed_ in
    let part : c.part ≡ d.part =
    one.part_ ∙ ap (λ (m : Create). part_of_deed (type_of h.defs m.ty) c.deed) made
    ∙ ap (part_of_deed (type_of h.defs other.made.ty)) deed ∙ sym other.part_ in
    let number : c.number ≡ d.number =
    one.next ∙ ap (λ (p : Part). length (accepted b p c.entity c.sender) + 1) part
    ∙ ap (λ (k : ℕ). length (accepted b d.part k c.sender) + 1) entity
    ∙ ap (λ (x : Sender). length (accepted b d.part d.entity x) + 1) sender ∙ sym other.next in
    same_fields c d entity part sender number deed

-- an axis is spelled in one way
axis_is_one : (a b : Axis) → language.axis_text a ≡ language.axis_text b → a ≡ b
axis_is_one axis.X axis.X same = refl
axis_is_one axis.Z axis.Z same = refl
axis_is_one axis.X axis.Z same = let first = ap (λ (bytes : List ℕ). get_or bytes 0 0) same in absurd (omega (arith, first))
axis_is_one axis.Z axis.X same = let first = ap (λ (bytes : List ℕ). get_or bytes 0 0) same in absurd (omega (arith, first))

pub boundary_is_one : (a at : List ℕ) (b c : Boundary) → language.SpellsBoundary a at b → language.SpellsBoundary a at c → b ≡ c
boundary_is_one a at b c one other =
    let same = axis_is_one b.axis c.axis (one.axis ∙ sym other.axis) in
    let place = spells_one_number at b.at c.at one.place other.place in
    λ i. record { axis = same i; at = place i }

same_cut : (t : Division) (c d : ℕ) (b e : Boundary) → c ≡ d → b ≡ e → with_cut t c b ≡ with_cut t d e
same_cut t c d b e x y = λ i. with_cut t (x i) (y i)

same_place : (t : Division) (k l p q : ℕ) → k ≡ l → p ≡ q → with_place t k p ≡ with_place t l q
same_place t k l p q x y = λ i. with_place t (x i) (y i)

-- a command adds one entry
pub entry_is_one : (h : Header) (b : Book) (c : language.Command) (x y : Entry) → AreDefs h.defs → Adds h b c x → Adds h b c y → x ≡ y
entry_is_one h b (language.Create e n px pz) x y are (c, one, is) (d, other, is') =
    is ∙ ap entry.Created (create_is_one h e n px pz c d are one other) ∙ sym is'
entry_is_one h b (language.Call s e n a) x y are (c, one, is) (d, other, is') =
    is ∙ ap entry.Called (call_is_one h b s e (NamesDeed a n) c d (deed_is_one h.defs n a are) one other) ∙ sym is'
entry_is_one h b (language.Move s e px pz) x y are (c, one, is) (d, other, is') =
    is ∙ ap entry.Called (call_is_one h b s e (λ t. NamesMove h px pz) c d (move_is_one h px pz) one other) ∙ sym is'
entry_is_one h b language.Sync x y are one other = absurd one
entry_is_one h b (language.Client w) x y are (e, one, is) (f, other, is') =
    is ∙ ap entry.Joined (positive_is_one w e f one other) ∙ sym is'
entry_is_one h b language.Tick x y are one other = one ∙ sym other
entry_is_one h b (language.Cut w a at) x y are (c, by, cell, bound, is) (d, by', cell', bound', is') =
    is ∙ ap entry.Divided (same_cut (tree_of b) c d by by' (spells_one_number w c d cell cell') (boundary_is_one a at by by' bound bound'))
    ∙ sym is'
entry_is_one h b (language.Shift w at) x y are (k, p, number, place, is) (l, q, number', place', is') =
    is ∙ ap entry.Divided (same_place (tree_of b) k l p q (spells_one_number w k l number number') (spells_one_number at p q place place'))
    ∙ sym is'
entry_is_one h b language.Balance x y are one other = one ∙ sym other
entry_is_one h b (language.Destroy w) x y are (e, one, is) (f, other, is') =
    is ∙ ap entry.Destroyed (positive_is_one w e f one other) ∙ sym is'

-- ---- lines

content_of : Line → List ℕ
content_of (Content line) = line
content_of Long = []

pub same_content : (line other : List ℕ) → Content line ≡ Content other → line ≡ other
unfolding content_of
same_content line other same = ap content_of same

pub content_is_not_long : (line : List ℕ) → Content line ≡ Long → ⊥
content_is_not_long line same = cc

-- the words of a line are those of another with its content
pub same_words : (line content : List ℕ) (words others : List (List ℕ)) → Content line ≡ Content content → HasWords line words →
    HasWords content others → words ≡ others
same_words line content words others same has has' =
    words_are_one_list content words others (subst (λ (l : List ℕ). HasWords l words) (same_content line content same) has) has'

-- a line with words is at no fault of words
pub no_fault_of : (line content : List ℕ) (words : List (List ℕ)) (e : WordsError) → Content line ≡ Content content → HasWords line words →
    Refuses content e → ⊥
no_fault_of line content words e same has refuses =
    no_words_at_fault content e words refuses (subst (λ (l : List ℕ). HasWords l words) (same_content line content same) has)

-- ---- causes of one rank

same_fault : (h : Header) (b : Book) (line : Line) (e f : WordsError) → Holds h b line (cause.BadWords e) →
    Holds h b line (cause.BadWords f) → e ≡ f
same_fault h b line e f (one, same, refuses) (other, same', refuses') =
    fault_is_first other e f (subst (λ (l : List ℕ). Refuses l e) (same_content one other (sym same ∙ same')) refuses) refuses'

-- a boundary that runs through an area leaves no part of it empty
runs_or_empty : (by : Boundary) (a : Area) → LeavesPartEmpty by a → RunsThrough by a → ⊥
runs_or_empty by a (inl low) runs = let from = runs.from_low in omega (arith, low, from)
runs_or_empty by a (inr high) runs = let to = runs.to_high in omega (arith, high, to)

cut_error_is_one : (t : Division) (c : ℕ) (by : Boundary) (e f : CutError) → RefusesCut t c by e → RefusesCut t c by f → e ≡ f
cut_error_is_one t c by NoCell NoCell one other = refl
cut_error_is_one t c by OutsideCell OutsideCell one other = refl
cut_error_is_one t c by TooManyCells TooManyCells one other = refl
cut_error_is_one t c by NoCell OutsideCell one other = let in_it = other.0 in absurd (omega (arith, one, in_it))
cut_error_is_one t c by NoCell TooManyCells one other = let in_it = other.0 in absurd (omega (arith, one, in_it))
cut_error_is_one t c by OutsideCell NoCell one other = let in_it = one.0 in absurd (omega (arith, other, in_it))
cut_error_is_one t c by TooManyCells NoCell one other = let in_it = one.0 in absurd (omega (arith, other, in_it))
cut_error_is_one t c by OutsideCell TooManyCells one other = absurd (runs_or_empty by (area t c) one.1 other.1)
cut_error_is_one t c by TooManyCells OutsideCell one other = absurd (runs_or_empty by (area t c) other.1 one.1)

no_boundary : (t : Division) (b : ℕ) → (b ≡ 0) ⊎ (cells_of t ≤ b) → HasBoundary t b → ⊥
no_boundary t b (inl zero_) has = let from = has.from_one in omega (arith, zero_, from)
no_boundary t b (inr past) has = let to = has.to_last in omega (arith, past, to)

shift_error_is_one : (t : Division) (b at : ℕ) (e f : ShiftError) → RefusesShift t b at e → RefusesShift t b at f → e ≡ f
shift_error_is_one t b at NoBoundary NoBoundary one other = refl
shift_error_is_one t b at WouldEmpty WouldEmpty one other = refl
shift_error_is_one t b at NoBoundary WouldEmpty one other = absurd (no_boundary t b one other.0)
shift_error_is_one t b at WouldEmpty NoBoundary one other = absurd (no_boundary t b other one.0)

-- the command of which a tree's refusal may hold
cut_against : (h : Header) (b : Book) (c : language.Command) (e f : CutError) → HoldsAgainst h b c (cause.CutRefused e) →
    HoldsAgainst h b c (cause.CutRefused f) → e ≡ f
cut_against h b (language.Cut w a at) e f (c, by, cell, bound, one) (d, by', cell', bound', other) =
    let same = spells_one_number w c d cell cell' in
    let same_by = boundary_is_one a at by by' bound bound' in
    cut_error_is_one (tree_of b) d by' e f
    (subst (λ (x : Boundary). RefusesCut (tree_of b) d x e) same_by (subst (λ (n : ℕ). RefusesCut (tree_of b) n by e) same one)) other
cut_against h b c e f one other = absurd one

shift_against : (h : Header) (b : Book) (c : language.Command) (e f : ShiftError) → HoldsAgainst h b c (cause.ShiftRefused e) →
    HoldsAgainst h b c (cause.ShiftRefused f) → e ≡ f
shift_against h b (language.Shift w at) e f (k, p, number, place, one) (l, q, number', place', other) =
    let same = spells_one_number w k l number number' in
    let same_place_ = spells_one_number at p q place place' in
    shift_error_is_one (tree_of b) l q e f
    (subst (λ (x : ℕ). RefusesShift (tree_of b) l x e) same_place_ (subst (λ (n : ℕ). RefusesShift (tree_of b) n p e) same one)) other
shift_against h b c e f one other = absurd one

not_both : (h : Header) (b : Book) (c : language.Command) (e : CutError) (f : ShiftError) → HoldsAgainst h b c (cause.CutRefused e) →
    HoldsAgainst h b c (cause.ShiftRefused f) → ⊥
not_both h b (language.Cut w a at) e f one other = other
not_both h b c e f one other = absurd one

-- two lines' words spell one command
one_spelled : (line : Line) (one other : List ℕ) (ws vs : List (List ℕ)) (c d : language.Command) → line ≡ Content one →
    line ≡ Content other → HasWords one ws → HasWords other vs → ws ≡ language.words_of c → vs ≡ language.words_of d → c ≡ d
one_spelled line one other ws vs c d same same' has has' is is' =
    command_is_one c d (sym is ∙ same_words one other ws vs (sym same ∙ same') has has' ∙ is')

cut_is_one : (h : Header) (b : Book) (line : Line) (e f : CutError) → Holds h b line (cause.CutRefused e) →
    Holds h b line (cause.CutRefused f) → e ≡ f
cut_is_one h b line e f (one, ws, same, has, (c, is, a)) (other, vs, same', has', (d, is', a')) =
    let command = one_spelled line one other ws vs c d same same' has has' is is' in
    cut_against h b d e f (subst (λ (x : language.Command). HoldsAgainst h b x (cause.CutRefused e)) command a) a'

shift_is_one : (h : Header) (b : Book) (line : Line) (e f : ShiftError) → Holds h b line (cause.ShiftRefused e) →
    Holds h b line (cause.ShiftRefused f) → e ≡ f
shift_is_one h b line e f (one, ws, same, has, (c, is, a)) (other, vs, same', has', (d, is', a')) =
    let command = one_spelled line one other ws vs c d same same' has has' is is' in
    shift_against h b d e f (subst (λ (x : language.Command). HoldsAgainst h b x (cause.ShiftRefused e)) command a) a'

not_cut_and_shift : (h : Header) (b : Book) (line : Line) (e : CutError) (f : ShiftError) →
    Holds h b line (cause.CutRefused e) → Holds h b line (cause.ShiftRefused f) → ⊥
not_cut_and_shift h b line e f (one, ws, same, has, (c, is, a)) (other, vs, same', has', (d, is', a')) =
    let command = one_spelled line one other ws vs c d same same' has has' is is' in
    not_both h b d e f (subst (λ (x : language.Command). HoldsAgainst h b x (cause.CutRefused e)) command a) a'

-- the cause of a rank that tells nothing more
abbrev of_rank : ℕ → Cause
of_rank n =
    get_or
    (cause.TooLong ∷ cause.NoCommand ∷ cause.NoCommand ∷ cause.WrongCount ∷ cause.BadNumber ∷ cause.Exists ∷ cause.NoType
    ∷ cause.Outside ∷ cause.Full ∷ cause.NoSender ∷ cause.Dead ∷ cause.UnknownMethod ∷ cause.IllTyped ∷ [])
    n cause.NoCommand

is_of_rank : (k : Cause) → ¬ (rank k ≡ 1) → ¬ (rank k ≡ 13) → k ≡ of_rank (rank k)
is_of_rank cause.TooLong no_words no_tree = refl
is_of_rank (cause.BadWords f) no_words no_tree = absurd (no_words refl)
is_of_rank cause.NoCommand no_words no_tree = refl
is_of_rank cause.WrongCount no_words no_tree = refl
is_of_rank cause.BadNumber no_words no_tree = refl
is_of_rank cause.Exists no_words no_tree = refl
is_of_rank cause.NoType no_words no_tree = refl
is_of_rank cause.Outside no_words no_tree = refl
is_of_rank cause.Full no_words no_tree = refl
is_of_rank cause.NoSender no_words no_tree = refl
is_of_rank cause.Dead no_words no_tree = refl
is_of_rank cause.UnknownMethod no_words no_tree = refl
is_of_rank cause.IllTyped no_words no_tree = refl
is_of_rank (cause.CutRefused f) no_words no_tree = absurd (no_tree refl)
is_of_rank (cause.ShiftRefused f) no_words no_tree = absurd (no_tree refl)

is_bad_words : (k : Cause) → rank k ≡ 1 → (f : WordsError) × (k ≡ cause.BadWords f)
is_bad_words cause.TooLong is = absurd (omega (arith, is))
is_bad_words (cause.BadWords f) is = (f, refl)
is_bad_words cause.NoCommand is = absurd (omega (arith, is))
is_bad_words cause.WrongCount is = absurd (omega (arith, is))
is_bad_words cause.BadNumber is = absurd (omega (arith, is))
is_bad_words cause.Exists is = absurd (omega (arith, is))
is_bad_words cause.NoType is = absurd (omega (arith, is))
is_bad_words cause.Outside is = absurd (omega (arith, is))
is_bad_words cause.Full is = absurd (omega (arith, is))
is_bad_words cause.NoSender is = absurd (omega (arith, is))
is_bad_words cause.Dead is = absurd (omega (arith, is))
is_bad_words cause.UnknownMethod is = absurd (omega (arith, is))
is_bad_words cause.IllTyped is = absurd (omega (arith, is))
is_bad_words (cause.CutRefused f) is = absurd (omega (arith, is))
is_bad_words (cause.ShiftRefused f) is = absurd (omega (arith, is))

is_refused_by_tree : (k : Cause) → rank k ≡ 13 →
    ((e : CutError) × (k ≡ cause.CutRefused e)) ⊎ ((f : ShiftError) × (k ≡ cause.ShiftRefused f))
is_refused_by_tree cause.TooLong is = absurd (omega (arith, is))
is_refused_by_tree (cause.BadWords f) is = absurd (omega (arith, is))
is_refused_by_tree cause.NoCommand is = absurd (omega (arith, is))
is_refused_by_tree cause.WrongCount is = absurd (omega (arith, is))
is_refused_by_tree cause.BadNumber is = absurd (omega (arith, is))
is_refused_by_tree cause.Exists is = absurd (omega (arith, is))
is_refused_by_tree cause.NoType is = absurd (omega (arith, is))
is_refused_by_tree cause.Outside is = absurd (omega (arith, is))
is_refused_by_tree cause.Full is = absurd (omega (arith, is))
is_refused_by_tree cause.NoSender is = absurd (omega (arith, is))
is_refused_by_tree cause.Dead is = absurd (omega (arith, is))
is_refused_by_tree cause.UnknownMethod is = absurd (omega (arith, is))
is_refused_by_tree cause.IllTyped is = absurd (omega (arith, is))
is_refused_by_tree (cause.CutRefused f) is = inl (f, refl)
is_refused_by_tree (cause.ShiftRefused f) is = inr (f, refl)

module _ (h : Header) (b : Book) (line : Line) where
  both_bad : (k l : Cause) → Holds h b line k → Holds h b line l → (e : WordsError) × (k ≡ cause.BadWords e) →
      (f : WordsError) × (l ≡ cause.BadWords f) → k ≡ l
  both_bad k l one other (e, is) (f, is') =
      is ∙ ap cause.BadWords (same_fault h b line e f (subst (Holds h b line) is one) (subst (Holds h b line) is' other))
      ∙ sym is'

  both_refused : (k l : Cause) → Holds h b line k → Holds h b line l →
      ((e : CutError) × (k ≡ cause.CutRefused e)) ⊎ ((f : ShiftError) × (k ≡ cause.ShiftRefused f)) →
      ((e : CutError) × (l ≡ cause.CutRefused e)) ⊎ ((f : ShiftError) × (l ≡ cause.ShiftRefused f)) → k ≡ l
  both_refused k l one other (inl (e, is)) (inl (f, is')) =
      is ∙ ap cause.CutRefused (cut_is_one h b line e f (subst (Holds h b line) is one)
      (subst (Holds h b line) is' other))
      ∙ sym is'
  both_refused k l one other (inl (e, is)) (inr (f, is')) =
      absurd (not_cut_and_shift h b line e f (subst (Holds h b line) is one) (subst (Holds h b line) is' other))
  both_refused k l one other (inr (e, is)) (inl (f, is')) =
      absurd (not_cut_and_shift h b line f e (subst (Holds h b line) is' other) (subst (Holds h b line) is one))
  both_refused k l one other (inr (e, is)) (inr (f, is')) =
      is ∙ ap cause.ShiftRefused (shift_is_one h b line e f (subst (Holds h b line) is one)
      (subst (Holds h b line) is' other))
      ∙ sym is'

  -- causes of one rank that hold of a line are one
  cause_of_rank : (k l : Cause) → rank k ≡ rank l → Holds h b line k → Holds h b line l → k ≡ l
  cause_of_rank k l ranks one other = cases (rank k == 1) (rank k == 13) refl refl
    where
      cases : (x y : Bool) → (rank k == 1) ≡ x → (rank k == 13) ≡ y → k ≡ l
      cases true y is of_tree =
          let here : rank k ≡ 1 = grind (arith, is) in
          both_bad k l one other (is_bad_words k here) (is_bad_words l (sym ranks ∙ here))
      cases false true is of_tree =
          let here : rank k ≡ 13 = grind (arith, of_tree) in
          both_refused k l one other (is_refused_by_tree k here) (is_refused_by_tree l (sym ranks ∙ here))
      cases false false is of_tree =
          let no_words : ¬ (rank k ≡ 1) = λ e. grind (arith, is, e) in
          let no_tree : ¬ (rank k ≡ 13) = λ e. grind (arith, of_tree, e) in
          is_of_rank k no_words no_tree ∙ ap of_rank ranks
          ∙ sym (is_of_rank l (λ e. no_words (ranks ∙ e)) (λ e. no_tree (ranks ∙ e)))

  -- a line has one first cause
  pub cause_is_one : (k l : Cause) → IsFirst (Holds h b line) k → IsFirst (Holds h b line) l → k ≡ l
  cause_is_one k l one other =
      let low = one.first l other.here in
      let high = other.first k one.here in
      cause_of_rank k l (omega (arith, low, high)) one.here other.here

spells_one : (line : Line) (c d : language.Command) → Spells line c → Spells line d → c ≡ d
spells_one Long c d one other = absurd one
spells_one (Content line) c d one other = line_spells_one line c d one other

-- ---- a line and the command that it spells

-- causes of lines hold against no command

not_too_long : (h : Header) (b : Book) (c : language.Command) → ¬ (HoldsAgainst h b c cause.TooLong)
not_too_long h b (language.Create e n x z) against = against
not_too_long h b _ against = against

not_bad_words : (h : Header) (b : Book) (c : language.Command) (f : WordsError) → ¬ (HoldsAgainst h b c (cause.BadWords f))
not_bad_words h b (language.Create e n x z) f against = against
not_bad_words h b _ f against = against

not_no_command : (h : Header) (b : Book) (c : language.Command) → ¬ (HoldsAgainst h b c cause.NoCommand)
not_no_command h b (language.Create e n x z) against = against
not_no_command h b _ against = against

not_wrong_count : (h : Header) (b : Book) (c : language.Command) → ¬ (HoldsAgainst h b c cause.WrongCount)
not_wrong_count h b (language.Create e n x z) against = against
not_wrong_count h b _ against = against

module _ (h : Header) (b : Book) (line : List ℕ) (c : language.Command) (spells : language.SpellsCommand line c) where
  only : (k : Cause) (content : List ℕ) (words : List (List ℕ)) → Content line ≡ Content content → HasWords content words →
      (d : language.Command) × (words ≡ language.words_of d) × HoldsAgainst h b d k → HoldsAgainst h b c k
  only k content words same has (d, is, against) =
      subst (λ (e : language.Command). HoldsAgainst h b e k)
      (sym (command_is_one c d (same_words line content (language.words_of c) words same spells has ∙ is))) against

  -- a cause that holds of the line holds against the command
  pub against_command : (k : Cause) → Holds h b (Content line) k → HoldsAgainst h b c k
  against_command cause.TooLong holds = absurd (content_is_not_long line holds)
  against_command (cause.BadWords f) (content, same, refuses) =
      absurd (no_fault_of line content (language.words_of c) f same spells refuses)
  against_command cause.NoCommand (content, words, same, has, none) =
      absurd (none (subst language.NamesCommand (same_words line content (language.words_of c) words same spells has) (command_is_named c)))
  against_command cause.WrongCount (content, words, same, has, none) =
      absurd (none c (sym (same_words line content (language.words_of c) words same spells has)))
  against_command cause.BadNumber (content, words, same, has, other) = only cause.BadNumber content words same has other
  against_command cause.Exists (content, words, same, has, other) = only cause.Exists content words same has other
  against_command cause.NoType (content, words, same, has, other) = only cause.NoType content words same has other
  against_command cause.Outside (content, words, same, has, other) = only cause.Outside content words same has other
  against_command cause.Full (content, words, same, has, other) = only cause.Full content words same has other
  against_command cause.NoSender (content, words, same, has, other) = only cause.NoSender content words same has other
  against_command cause.Dead (content, words, same, has, other) = only cause.Dead content words same has other
  against_command cause.UnknownMethod (content, words, same, has, other) = only cause.UnknownMethod content words same has other
  against_command cause.IllTyped (content, words, same, has, other) = only cause.IllTyped content words same has other
  against_command (cause.CutRefused f) (content, words, same, has, other) = only (cause.CutRefused f) content words same has other
  against_command (cause.ShiftRefused f) (content, words, same, has, other) = only (cause.ShiftRefused f) content words same has other

  -- a cause that holds against the command holds of the line
  pub against_line : (k : Cause) → HoldsAgainst h b c k → Holds h b (Content line) k
  against_line cause.TooLong against = absurd (not_too_long h b c against)
  against_line (cause.BadWords f) against = absurd (not_bad_words h b c f against)
  against_line cause.NoCommand against = absurd (not_no_command h b c against)
  against_line cause.WrongCount against = absurd (not_wrong_count h b c against)
  against_line _ against = (line, language.words_of c, refl, spells, (c, refl, against))

  -- a line that spells a command is refused for the first cause against the command
  pub command_is_refused : (k : Cause) → ¬ (language.IsSkipped line) → IsFirst (HoldsAgainst h b c) k →
      Judges h b (Content line) (verdict.Refused k)
  command_is_refused k not first = (
    not,
    record { here = against_line k first.here; first = λ d holds. first.first d (against_command d holds) },
  )

  -- and accepted where there is none
  pub command_is_accepted : (x : Entry) → ¬ (language.IsSkipped line) → ((k : Cause) → ¬ (HoldsAgainst h b c k)) → Adds h b c x →
      Judges h b (Content line) (verdict.Accepted x)
  command_is_accepted x not none adds = (not, (λ k holds. none k (against_command k holds)), c, spells, adds)

adds_no_sync : (h : Header) (b : Book) (c : language.Command) (x : Entry) → c ≡ language.Sync → ¬ (Adds h b c x)
adds_no_sync h b c x is adds = subst (λ (d : language.Command). Adds h b d x) is adds

-- no cause holds of a line that ends the round
pub sync_is_not_refused : (h : Header) (b : Book) (line : Line) (k : Cause) → Spells line language.Sync →
    ¬ (Holds h b line k)
sync_is_not_refused h b Long k spells holds = spells
sync_is_not_refused h b (Content line) k spells holds =
    no_cause k (against_command h b line language.Sync spells k holds)
  where
    no_cause : (k : Cause) → ¬ (HoldsAgainst h b language.Sync k)
    no_cause k against = against

-- a line has one verdict
pub verdict_is_one_of : (h : Header) (b : Book) (line : Line) (v w : Verdict) → AreDefs h.defs →
    Judges h b line v → Judges h b line w → v ≡ w
verdict_is_one_of h b line verdict.Skipped verdict.Skipped are one other = refl
verdict_is_one_of h b line verdict.Skipped (verdict.Refused l) are one other = absurd (other.0 one)
verdict_is_one_of h b line verdict.Skipped (verdict.Accepted y) are one other = absurd (other.0 one)
verdict_is_one_of h b line verdict.Skipped verdict.Synced are one other = absurd (other.0 one)
verdict_is_one_of h b line (verdict.Refused k) verdict.Skipped are one other = absurd (one.0 other)
verdict_is_one_of h b line (verdict.Refused k) (verdict.Refused l) are one other =
    ap verdict.Refused (cause_is_one h b line k l one.1 other.1)
verdict_is_one_of h b line (verdict.Refused k) (verdict.Accepted y) are one (_, none, _, _, _) = absurd (none k one.1.here)
verdict_is_one_of h b line (verdict.Refused k) verdict.Synced are one other =
    absurd (sync_is_not_refused h b line k other.1 one.1.here)
verdict_is_one_of h b line (verdict.Accepted x) verdict.Skipped are one other = absurd (one.0 other)
verdict_is_one_of h b line (verdict.Accepted x) (verdict.Refused l) are (_, none, _, _, _) other = absurd (none l other.1.here)
verdict_is_one_of h b line (verdict.Accepted x) (verdict.Accepted y) are (_, _, c, spells, adds) (_, _, d, spells', adds') =
    ap verdict.Accepted (entry_is_one h b d x y are
    (subst (λ (k : language.Command). Adds h b k x) (spells_one line c d spells spells') adds) adds')
verdict_is_one_of h b line (verdict.Accepted x) verdict.Synced are (_, _, c, spells, adds) other =
    absurd (adds_no_sync h b c x (spells_one line c language.Sync spells other.1) adds)
verdict_is_one_of h b line verdict.Synced verdict.Skipped are one other = absurd (one.0 other)
verdict_is_one_of h b line verdict.Synced (verdict.Refused l) are one other =
    absurd (sync_is_not_refused h b line l one.1 other.1.here)
verdict_is_one_of h b line verdict.Synced (verdict.Accepted y) are one (_, _, c, spells, adds) =
    absurd (adds_no_sync h b c y (spells_one line c language.Sync spells one.1) adds)
verdict_is_one_of h b line verdict.Synced verdict.Synced are one other = refl
