-- What clap finds for the options with a number, in words that it does not refuse.
use Rattle.std.proofs.Common.{◌≡◌, ◌⊎◌, ◌∙◌, ◌<◌, ◌≤◌, ap, sym, subst, refl, inl, inr, zero, suc, ℕ, Bool, true, false, List, [], ◌∷◌}
use Rattle.std.proofs.Common.{length, is_some, Option, Some, None, arith, cond}
use Rattle.std.specs.Prelude.{find, option_map, unwrap_or, slice_get, pos, codes}
use Rattle.std.specs.Borrow.{Bor}
use Rattle.std.specs.List.{All, list_all, position, slice_index_or}
use Rattle.std.specs.Str.{bytes_eq}
use Rattle.std.proofs.lemmas.List.{get_or-map, length-map}
use Rattle.std.proofs.lemmas.List.Elements.{All-get_or}
use Rattle.std.proofs.lemmas.Slice.Eq.{bytes_eq-Decides}
use Rattle.clap.specs.Words.{Accepts, App, IsParsedFrom, Rule, SameRules, Text, app_of, found_of, has_subcommand, matched_of, one_text}
use Rattle.clap.specs.Words.{reading_of, rule_of, without_minus, IsSignedIn, items_of}
use Rattle.clap.specs.Facts.{Entry, EntryPasses, HasIn, IsParsed, PassesArg, WantsDefault, args_of, groups_of, least_values, parser_of}
use Rattle.clap.specs.Facts.{parser_of_value, unwrap_or_range}
use Rattle.clap.specs.Simple.{IsSimple, is_ready, is_ready_leaf}
use Rattle.clap.specs.declared.builder.range.ValueRange.{ValueRange}
use Rattle.clap.specs.declared.builder.action.ArgAction.TheVariants.{Count, Set}
use Rattle.clap.specs.declared.builder.arg.Arg.{Arg}
use Rattle.clap.specs.declared.builder.command.Command.{Command}
use Rattle.clap.specs.declared.builder.value_parser.ValueParser.{ValueParser}
use Rattle.clap.specs.declared.builder.value_parser.ValueParser.TheVariants as vp
use Rattle.clap.specs.declared.builder.value_parser.Reading.TheVariants as reading
use Rattle.clap.specs.declared.parser.matches.ArgMatches.{ArgMatches}
use Rattle.clap.specs.declared.parser.matches.Found.{Found}
use Rattle.clap.specs.declared.parser.matches.MatchedArg.{MatchedArg}
use Rattle.clap.proofs.CallerLemmas.{default_present, entry_by_id, same_rules_by_id}
use Rattle.clap.proofs.SimpleLemmas.{all_simple, ready_simple, simple_groups}
use Rattle.seam_args.specs.Words.{command, number_rule}
use Rattle.seam_args.specs.Reading.{HasNumber, HasNumbers}
use Rattle.seam_args.specs.declared.TheConstants.{MOST_WORKERS, MOST_TURNS, LONGEST_STORM}

abbrev rules : List Rule
rules = command.top.rules

-- the place of the first rule with this id, or 6
abbrev place_of : Text → ℕ
place_of id = unwrap_or (position (λ (r : Rule). bytes_eq r.id id) rules) 6

place_is : (j : ℕ) (d : Rule) → j < 6 → place_of (slice_index_or rules j d).id ≡ j
place_is zero d lt = refl
place_is (suc zero) d lt = refl
place_is (suc (suc zero)) d lt = refl
place_is (suc (suc (suc zero))) d lt = refl
place_is (suc (suc (suc (suc zero)))) d lt = refl
place_is (suc (suc (suc (suc (suc zero))))) d lt = refl
place_is (suc (suc (suc (suc (suc (suc j)))))) d lt = absurd (omega arith)

abbrev has_id : Text → Entry → Bool
has_id id e = bytes_eq e.0.now id

-- an entry with the id is found
entry_is_found : (xs : List Entry) (id : Text) → HasIn xs id → is_some (option_map (λ e. e.1) (find (has_id id) xs)) ≡ true
entry_is_found [] id h = absurd (omega (arith, h.1))
entry_is_found (x ∷ xs) id h = go (has_id id x) refl h.0 h.1 h.2 (entry_is_found xs id)
  where
    go : (b : Bool) → has_id id x ≡ b → (i : ℕ) → i < length (x ∷ xs) → ((d : Entry) → has_id id (slice_index_or (x ∷ xs) i d) ≡ true)
        → (HasIn xs id → is_some (option_map (λ e. e.1) (find (has_id id) xs)) ≡ true)
        → is_some (option_map (λ e. e.1) (cond b (Some x) (find (has_id id) xs))) ≡ true
    go true e i lt same later = refl
    go false e zero lt same later =
        let bad : false ≡ true = sym e ∙ same x in
        cc
    go false e (suc i) lt same later = later (i, omega arith, same)

-- the first of some values, as it is read
first_is_read : (P : Text → Type 0) (vs : List (Bor Text)) → All (λ v. P v.now) vs → 0 < length vs
    → (t : Text) × (option_map (λ s. without_minus s.now) (slice_get vs 0) ≡ Some (without_minus t)) × P t
first_is_read P [] all lt = absurd (omega arith)
first_is_read P (v ∷ vs) all lt = (v.now, refl, All-get_or (λ (s : Bor Text). P s.now) (v ∷ vs) 0 v (omega arith) all)

text_of_entry : (f : Found) (id : Text) (x : MatchedArg) (t : Text) → matched_of f id ≡ Some x → x.reading ≡ reading.WithoutMinus
    → option_map (λ s. without_minus s.now) (slice_get x.vals.items 0) ≡ Some t → one_text f id ≡ Some t
text_of_entry f id x t found is v = rw (found, is) v

module _ (old : Command) (m : ArgMatches) (p : IsParsedFrom old m) (is : app_of old ≡ command) where
  count_is : length (args_of old) ≡ 6
  count_is = sym (length-map (args_of old) rule_of) ∙ ap (λ (a : App). length a.top.rules) is

  rule_at : (k : ℕ) (d : Arg) → k < 6 → rule_of (slice_index_or (args_of old) k d) ≡ slice_index_or rules k (rule_of d)
  rule_at k d lt =
      let low : k < length (args_of old) = omega (arith, count_is) in
      sym (get_or-map rule_of (args_of old) k d (rule_of d) low) ∙ ap (λ (a : App). slice_index_or a.top.rules k (rule_of d)) is

  id_at : (k : ℕ) (d : Arg) → k < 6 → place_of (slice_index_or (args_of old) k d).id.now ≡ k
  id_at k d lt = ap (λ (r : Rule). place_of r.id) (rule_at k d lt) ∙ place_is k (rule_of d) lt

  simple : IsSimple old
  simple = ready_simple old (ap (λ (a : App). is_ready a.top) is) (ap (λ (a : App). list_all is_ready_leaf a.subs) is)

  parsed : IsParsed p.built (found_of m) (has_subcommand m)
  parsed = p.parsed (p.from.globals ∙ simple.globals)

  no_groups : groups_of p.built ≡ []
  no_groups = (p.from.same_groups (simple_groups old (ap (λ (a : App). all_simple a.top.rules) is))).1 ∙ simple.groups

  module _ (k : ℕ) (d : Arg) (lt : k < 4) (name : Text) (most : ℕ) (defaults : List Text)
      (rule : slice_index_or rules k (rule_of d) ≡ number_rule name most defaults) where
    abbrev arg : Arg
    arg = slice_index_or (args_of old) k d

    below : k < 6
    below = omega (arith, lt)

    abbrev test : ValueParser
    test = vp.Signed (pos 1) (pos most)

    low : k < length (args_of old)
    low = omega (arith, count_is, lt)

    rule_is : rule_of arg ≡ number_rule name most defaults
    rule_is = rule_at k d below ∙ rule

    name_is : arg.id.now ≡ name
    name_is = ap (λ (r : Rule). r.id) rule_is

    -- an argument of the built command with the id of this one has its rules
    rules_by_id : (j : ℕ) (x : Arg) → j < length (args_of p.built) → slice_index_or (args_of p.built) j x ≡ x
        → bytes_eq x.id.now arg.id.now ≡ true → SameRules arg x
    rules_by_id = same_rules_by_id old m p k d low
        (λ j e there same.
        let ids : (slice_index_or (args_of old) j e).id.now ≡ arg.id.now = (bytes_eq-Decides _ _).0 same in
        sym (id_at j e (omega (arith, there, count_is))) ∙ (ap place_of ids ∙ id_at k d below))
        (λ auto. elim auto [
          | inl h ↦ let bad : k ≡ 4 = sym (id_at k d below) ∙ ap place_of h in absurd (omega (arith, bad, lt))
          | inr h ↦ let bad : k ≡ 5 = sym (id_at k d below) ∙ ap place_of h in absurd (omega (arith, bad, lt))
        ])

    parser_is : (y : Arg) → SameRules arg y → parser_of y ≡ test
    parser_is y s = ap parser_of_value (s.parser test (ap (λ (r : Rule). r.parser) rule_is))

    module _ (x : MatchedArg) (found : matched_of (found_of m) arg.id.now ≡ Some x) (e : Entry) (same : e.1 ≡ x)
        (key : e.0.now ≡ arg.id.now) (pass : EntryPasses p.built e) where
      no_group : e.1.is_group ≡ true → ⊥
      no_group g = elim (pass.3 g) [
        | inl empty ↦ let bad : k ≡ 6 = sym (id_at k d below) ∙ ap place_of (sym key ∙ empty) in absurd (omega (arith, bad, lt))
        | inr lots ↦
            let bad : 0 < 0 = rw no_groups at lots in
            absurd (omega arith)
      ]

      reading_is : e.1.reading ≡ reading.WithoutMinus
      reading_is = elim pass.4 [
        | inl g ↦ absurd (no_group g)
        | inr h ↦ sym h.4.1 ∙ ap reading_of (parser_is h.1 (rules_by_id h.0 h.1 h.2 h.3 (rw key at h.4.0)))
      ]

      value_passes : (v : Bor Text) → PassesArg p.built e.0.now v.now → IsSignedIn (pos 1) (pos most) v.now
      value_passes v h = subst (λ (q : ValueParser). Accepts h.1.ignore_case q v.now)
          (parser_is h.1 (rules_by_id h.0 h.1 h.2 h.3 (rw key at h.4.0))) h.4.1

      values_pass : All (λ v. IsSignedIn (pos 1) (pos most) v.now) e.1.vals.items
      values_pass = elim pass.0 [
        | inl g ↦ absurd (no_group g)
        | inr all ↦ λ i v below. value_passes (slice_index_or e.1.vals.items i v) (all i v below)
      ]

      some_value : 0 < length e.1.vals.items
      some_value = elim pass.1 [
        | inl g ↦ absurd (no_group g.0)
        | inr (inl some) ↦ some
        | inr (inr (inl h)) ↦
            let s = rules_by_id h.1.0 h.1.1 h.1.2 h.1.3 (rw key at h.1.4.0) in
            let is_set : h.1.1.action ≡ Some Set = s.action Set (ap (λ (r : Rule). r.action) rule_is) in
            let bad : Set ≡ Count = rw is_set at h.1.4.1 in
            cc
        | inr (inr (inr h)) ↦
            let s = rules_by_id h.0 h.1 h.2 h.3 (rw key at h.4.0) in
            elim h.4.1 [
              | inl none ↦
                  let range : arg.num_vals ≡ None = ap (λ (r : Rule). r.range) rule_is in
                  let is_one : least_values arg ≡ 1 = ap (λ (o : Option ValueRange). (unwrap_or_range o).start_inclusive) range in
                  let least : 1 ≤ least_values arg = omega (arith, is_one) in
                  let one = s.least (ap (λ (r : Rule). r.action) rule_is) least in
                  absurd (omega arith)
              | inr has ↦
                  let bad : false ≡ true = rw (s.val_delim, (simple.args k d low).delimiter) at has in
                  cc
            ]
      ]

      entry_number : HasNumber (found_of m) name most
      entry_number =
          let first = first_is_read (IsSignedIn (pos 1) (pos most)) e.1.vals.items values_pass some_value in
          let at : matched_of (found_of m) arg.id.now ≡ Some e.1 = found ∙ ap Some (sym same) in
          subst (λ (id : Text). HasNumber (found_of m) id most) name_is
          (record {
            text = first.0;
            is = text_of_entry (found_of m) arg.id.now e.1 (without_minus first.0) at reading_is first.1;
            number = first.2;
          })

    number_found : (x : MatchedArg) → matched_of (found_of m) arg.id.now ≡ Some x → HasNumber (found_of m) name most
    number_found x found =
        let got = entry_by_id (EntryPasses p.built) (found_of m).entries.items arg.id.now x parsed.values found in
        entry_number x found got.0 got.1 ((bytes_eq-Decides _ _).0 got.2) got.3

    -- an option has its number, or was not found
    pub may_have_number : (one_text (found_of m) name ≡ None) ⊎ HasNumber (found_of m) name most
    may_have_number = go (matched_of (found_of m) arg.id.now) refl
      where
        go : (o : Option MatchedArg) → matched_of (found_of m) arg.id.now ≡ o
            → (one_text (found_of m) name ≡ None) ⊎ HasNumber (found_of m) name most
        go None none = inl (subst (λ (id : Text). one_text (found_of m) id ≡ None) name_is (rw none refl))
        go (Some x) found = inr (number_found x found)

    -- an option with a default has its number
    pub has_number : 0 < length defaults → HasNumber (found_of m) name most
    has_number some =
        let values : length (items_of arg.default_vals) ≡ length defaults =
        sym (length-map (items_of arg.default_vals) (λ s. s.now)) ∙ ap (λ (r : Rule). length r.defaults) rule_is in
        let wants : WantsDefault arg = ((simple.args k d low).default_ifs, omega (arith, values, some)) in
        go (matched_of (found_of m) arg.id.now) refl
        (entry_is_found (found_of m).entries.items arg.id.now (default_present old m p simple.globals k d low wants))
      where
        go : (o : Option MatchedArg) → matched_of (found_of m) arg.id.now ≡ o → is_some o ≡ true → HasNumber (found_of m) name most
        go None none some = cc
        go (Some x) found some = number_found x found

  -- each option with a default has its number, and the other one may have its own
  pub has_numbers : (d : Arg) → HasNumbers (found_of m)
  has_numbers d = record {
    workers = has_number 0 d (omega arith) (codes "workers") MOST_WORKERS (codes "4" ∷ []) refl (omega arith);
    turns = has_number 1 d (omega arith) (codes "turns") MOST_TURNS (codes "1000000" ∷ []) refl (omega arith);
    storm = may_have_number 2 d (omega arith) (codes "storm") LONGEST_STORM [] refl;
  }
