-- What a client is shown of a base part after each of its calls is what the rules ask for.
use Rattle.seam_law_transcript.proofs.Prelude.{◌≡◌, ◌<◌, ℕ, ◌+◌, ◌-◌, Bool, true, false, cond, List, [], ◌∷◌, ◌++◌, map, length, fold, refl}
use Rattle.seam_law_transcript.proofs.Prelude.{sym, ap, ◌∙◌, arith, length-append, append_assoc, not, nat_lt, filter, ◌&&◌, if◌then◌else◌}
use Rattle.seam_law_transcript.proofs.Prelude.{AllByRecursion, range_with_len, nat_tests, take-append-le, map-append, Value, after}
use Rattle.seam_law_transcript.proofs.Prelude.{properties_of, Property, same_values, same_shown, changes, type_of, State, TypeDef}
use Rattle.seam_law_transcript.proofs.Prelude.{Call as CallData, Create, ClientText, Division, Here, has_any, PartView, base_text, Header}
use Rattle.seam_law_transcript.proofs.Prelude.{first_state, flat, properties, has_changed_at, changes_past, here_at, first_lines}
use Rattle.seam_law_transcript.proofs.Prelude.{lines_after, line_where, frame_of, IsDoneOn, BeginsPart, done_deed, one_more}
use Rattle.seam_node_steps.specs.Prelude.{client_of}
use Rattle.seam_defs.specs.declared.flags.Group.TheVariants as group
use Rattle.seam_defs.specs.declared.flags.Part.TheVariants as part
use Rattle.seam_call.specs.declared.shown.ClientText.TheVariants as text
use Rattle.seam_law_book.proofs.PartsTable.{same_props}

module _ (h : Header) (t : Division) (j : ℕ) (c : Create) where
  abbrev here : Here
  here = here_at (frame_of h t) j

  abbrev its : TypeDef
  its = type_of h.defs c.ty

  abbrev table : List CallData → ℕ → State
  table order v = flat h part.Base c order v

  abbrev values : State → List Value
  values s = client_of (properties h c) s

  -- what a client is shown of the base part at a version, and whether that changed there
  abbrev pub shown_at : List CallData → ℕ → ClientText
  shown_at order v = text.Base v (values (table order v))

  abbrev changed : List CallData → ℕ → Bool
  changed order = has_changed_at h part.Base c order

  -- it depends on the values alone
  pub same_values_shown : (s u : State) → s.props ≡ u.props → values s ≡ values u
  same_values_shown s u is = ap (λ (ps : List Value). values (record s { props = ps })) is

  -- further calls leave what was before
  pub table_before : (before more : List CallData) → table (before ++ more) (length before) ≡ table before (length before)
  table_before before more =
      ap (fold (done_deed its) (first_state h part.Base c)) (take-append-le (length before) before more (omega arith))

  -- ---- one call

  module _ (before : List CallData) (k : CallData) (later : List CallData) (s : State) (is : s.props ≡ (table before (length before)).props)
      (base : IsDoneOn part.Base its k) where
    abbrev n : ℕ
    n = length before

    abbrev order : List CallData
    order = before ++ k ∷ later

    abbrev next : State
    next = after its s k.deed

    longer : length (before ++ k ∷ []) ≡ n + 1
    longer = length-append before (k ∷ [])

    split : (before ++ k ∷ []) ++ later ≡ order
    split = append_assoc before (k ∷ []) later

    now : values s ≡ values (table order n)
    now = same_values_shown s (table order n) (is ∙ ap (λ (x : State). x.props) (sym (table_before before (k ∷ later))))

    next_props : next.props ≡ (table (before ++ k ∷ []) (length (before ++ k ∷ []))).props
    next_props =
        same_props its s (table before n) k.deed is ∙ ap (λ (x : State). x.props) (sym (one_more h part.Base c before k))

    later_values : values next ≡ values (table order (n + 1))
    later_values =
        same_values_shown next (table (before ++ k ∷ []) (length (before ++ k ∷ []))) next_props
        ∙ ap values (sym (table_before (before ++ k ∷ []) later)) ∙ (λ i. values (table (split i) (longer i)))

    due : changes its s k.deed ≡ changed order (n + 1)
    due =
        let less : n ≡ n + 1 - 1 = omega arith in
        ap (λ q. not (same_shown its.properties q s next)) (sym base) ∙ (λ i. not (same_values (now i) (later_values i)))
        ∙ ap (λ m. not (same_values (values (table order m)) (values (table order (n + 1))))) less

  -- ---- all calls of a round

  join : (calls : List CallData) (n : ℕ) (rest : List ℕ) (b : Bool) →
      line_where b (shown_at calls n) ++ map (shown_at calls) rest ≡ map (shown_at calls) (cond b (n ∷ rest) rest)
  join calls n rest true = refl
  join calls n rest false = refl

  lines_are : (before ks : List CallData) (s : State) → s.props ≡ (table before (length before)).props →
      AllByRecursion (IsDoneOn part.Base its) ks → lines_after here c.ty s (length before) ks
      ≡ map (shown_at (before ++ ks)) (filter (changed (before ++ ks)) (range_with_len (length before + 1) (length ks)))
  lines_are before [] s is all = refl
  lines_are before (k ∷ later) s is all =
      let order = before ++ k ∷ later in
      let n = length before in
      let rest = filter (changed order) (range_with_len (n + 1 + 1) (length later)) in
      let last : lines_after here c.ty (next before k later s is all.0) (n + 1) later ≡ map (shown_at order) rest =
      ap (λ m. lines_after here c.ty (next before k later s is all.0) m later) (sym (longer before k later s is all.0))
      ∙ lines_are (before ++ k ∷ []) later (next before k later s is all.0) (next_props before k later s is all.0) all.1
      ∙ (λ i. map (shown_at (split before k later s is all.0 i)) (filter (changed (split before k later s is all.0 i))
      (range_with_len (longer before k later s is all.0 i + 1) (length later)))) in
      (λ i. line_where (due before k later s is all.0 i) (text.Base (n + 1) (later_values before k later s is all.0 i)) ++ last i)
      ∙ join order (n + 1) rest (changed order (n + 1))

  pub versions_are : (before ks : List CallData) (s : State) → s.props ≡ (table before (length before)).props →
      AllByRecursion (IsDoneOn part.Base its) ks → lines_after here c.ty s (length before) ks
      ≡ map (shown_at (before ++ ks)) (changes_past h part.Base c (before ++ ks) (length before) (length (before ++ ks)))
  versions_are before ks s is all =
      let many : length ks ≡ length (before ++ ks) - length before = (let l = length-append before ks in omega (arith, l)) in
      lines_are before ks s is all
      ∙ ap (λ m. map (shown_at (before ++ ks)) (filter (changed (before ++ ks)) (range_with_len (length before + 1) m))) many

  -- ---- the part as the batch is loaded, and after its calls

  module _ (p : PartView) (before done : List CallData) (begins : BeginsPart h c before p)
      (deeds : AllByRecursion (IsDoneOn part.Base its) done) where
    abbrev calls : List CallData
    calls = before ++ done

    abbrev its_client : List Property
    its_client = properties_of (properties h c) group.BaseClient

    any_is : (ps : List Property) → has_any ps ≡ nat_lt 0 (length ps)
    any_is [] = refl
    any_is (x ∷ xs) = let lt : 0 < length (x ∷ xs) = omega arith in grind (arith, nat_tests, lt)

    first_text : base_text here (record p { ty = c.ty }) ≡ shown_at calls (length before)
    first_text =
        ap (λ n. text.Base n (values p.state)) begins.row.version
        ∙ ap (text.Base (length before)) (same_values_shown p.state (table calls (length before))
        (begins.row.props ∙ ap (λ (x : State). x.props) (sym (table_before before done))))

    first_by : (new due : Bool) → (if new then line_where due (shown_at calls (length before)) else [])
        ≡ map (shown_at calls) (if new && due then length before ∷ [] else [])
    first_by false due = refl
    first_by true false = refl
    first_by true true = refl

    first_are : (new : Bool) → (if new then first_lines here p else [])
        ≡ map (shown_at calls) (if new && nat_lt 0 (length its_client) then length before ∷ [] else [])
    first_are new =
        ap (λ y. if new then first_lines here (record p { ty = y }) else []) begins.type
        ∙ (λ i. if new then line_where (any_is its_client i) (first_text i) else []) ∙ first_by new (nat_lt 0 (length its_client))

    pub texts_are : (new : Bool) → (if new then first_lines here p else []) ++ lines_after here p.ty p.state p.version done
        ≡ map (shown_at calls) ((if new && nat_lt 0 (length its_client) then length before ∷ [] else [])
        ++ changes_past h part.Base c calls (length before) (length calls))
    texts_are new =
        let first = if new && nat_lt 0 (length its_client) then length before ∷ [] else [] in
        let later = changes_past h part.Base c calls (length before) (length calls) in
        let after_first : lines_after here p.ty p.state p.version done ≡ map (shown_at calls) later =
        (λ i. lines_after here (begins.type i) p.state (begins.row.version i) done)
        ∙ versions_are before done p.state begins.row.props deeds in
        (λ i. first_are new i ++ after_first i) ∙ sym (map-append (shown_at calls) first later)
