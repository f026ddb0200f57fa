-- Lines that spell commands of a world with the built-in types, and that are accepted.
use Rattle.std.proofs.Common.{◌≡◌, ℕ, zero, suc, ◌+◌, ◌^◌, ◌<◌, ◌≤◌, Bool, true, false, List, [], ◌∷◌, length, map, None, Some, refl, sym}
use Rattle.std.proofs.Common.{ap, ◌∙◌, subst, arith, inl, inr}
use Rattle.std.specs.Prelude.{codes, pos, nat_lt, ◌&&◌, is_some}
use Rattle.std.specs.List.{list_all, flat_map}
use Rattle.std.proofs.lemmas.Bool.{false≢true}
use Rattle.std.proofs.lemmas.Bool.Decides.{nat_tests}
use Rattle.std.proofs.lemmas.Option.{none-some}
use Rattle.std.proofs.lemmas.Str.{IsUtf8-from_ascii}
use Rattle.std.specs.Str.{IsAscii}
use Rattle.seam_words.specs.Words.{Span, is_plain, HasFirstWords, EndsWord, bytes_of}
use Rattle.seam_words.specs.SplitWords.{HasWords}
use Rattle.seam_words.specs.declared.words.TheConstants.{MOST_WORDS}
use Rattle.seam_value.specs.Values.{decimal_of, text_of}
use Rattle.seam_value.specs.NumberWords.{SpellsNumber, SpellsPositive}
use Rattle.seam_value.specs.declared.values.Value.TheVariants.{Number}
use Rattle.seam_value.proofs.NumberWords.{spells_one_number}
use Rattle.seam_defs.specs.Builtin.{builtin, avatar_methods, method_named}
use Rattle.seam_defs.specs.Types.{type_of, method_of}
use Rattle.seam_defs.specs.declared.flags.Part.TheVariants as part
use Rattle.seam_defs.specs.declared.states.Deed.TheVariants as deed
use Rattle.seam_defs.specs.Deeds.{part_of_deed}
use Rattle.seam_defs.proofs.TestLemmas.{fit-Decides}
use Rattle.seam_value.specs.declared.types.ValueType.TheVariants as type
use Rattle.seam_value.specs.declared.values.Value.{Value}
use Rattle.seam_defs.proofs.WellFormed.{builtin-are-defs}
use Rattle.seam_tree.specs.declared.boundary.Axis.TheVariants as axis
use Rattle.seam_tree.specs.declared.boundary.Boundary.{Boundary}
use Rattle.seam_tree.specs.declared.tree.CutError.{CutError}
use Rattle.seam_tree.specs.declared.tree.CutError.TheVariants.{NoCell, OutsideCell, TooManyCells}
use Rattle.seam_tree.specs.Change.{with_cut}
use Rattle.seam_tree.specs.Division.{Division}
use Rattle.seam_call.specs.declared.sender.Sender.TheVariants as sender
use Rattle.seam_call.specs.declared.call.Call.{Call as CallData}
use Rattle.seam_call.specs.declared.create.Create.{Create as CreateData}
use Rattle.seam_io.specs.Lines.{Line, Content}
use Rattle.seam_toml.specs.declared.header.Header.{Header}
use Rattle.seam_rule_rounds.specs.Prelude.{header}
use Rattle.seam_rule_lines.specs.Language.{Word, sender_text, Command, Create, Call, Client, Tick, Cut, Destroy, words_of, IsSkipped}
use Rattle.seam_rule_lines.specs.Language.{SpellsBoundary}
use Rattle.seam_rule_lines.specs.Book.{Book, entries, creates_of, created_as, live_as, has_client, count_of_clients, accepted, tree_of}
use Rattle.seam_rule_lines.specs.Book.{one_cell}
use Rattle.seam_rule_lines.specs.Judging.{Judges, HoldsAgainst, Adds, RefusesCut, NamesLive, NamesSender, NamesMethod, NamesType}
use Rattle.seam_rule_lines.specs.Judging.{SpellsArgs}
use Rattle.seam_rule_lines.specs.declared.verdict.Entry.{Entry}
use Rattle.seam_rule_lines.specs.declared.verdict.Entry.TheVariants as entry
use Rattle.seam_rule_lines.specs.declared.verdict.Cause.{Cause}
use Rattle.seam_rule_lines.specs.declared.verdict.Cause.TheVariants as cause
use Rattle.seam_rule_lines.specs.declared.verdict.Verdict.TheVariants as verdict
use Rattle.seam_rule_lines.specs.declared.limits.TheConstants.{MOST_ENTITIES, MOST_CLIENTS}
use Rattle.seam_rule_lines.proofs.SkipLemmas.{has_words_after_gap}
use Rattle.seam_rule_lines.proofs.Verdicts.{command_is_accepted, positive_is_one, live_is_one, boundary_is_one, method_is_one}

-- ---- a line by its words

-- the words, each with a space before it
abbrev pub spaced : List Word → List ℕ
spaced ws = flat_map (λ w. 32 ∷ w) ws

abbrev pub spans_from : ℕ → List Word → List Span
spans_from at [] = []
spans_from at (w ∷ ws) = record { start = at + 1; end = at + 1 + length w; quoted = false } ∷ spans_from (at + 1 + length w) ws

-- a word has a byte, and neither blanks nor quotes
abbrev pub is_clear : Word → Bool
is_clear [] = false
is_clear (b ∷ w) = list_all is_plain (b ∷ w)

both : (a b : Bool) → (a && b) ≡ true → (a ≡ true) × (b ≡ true)
both true b h = (refl, h)
both false b h = absurd (false≢true h)

ends_word : (ws : List Word) → EndsWord (spaced ws)
ends_word [] = tt
ends_word (w ∷ ws) = refl

have_words : (at : ℕ) (ws : List Word) → list_all is_clear ws ≡ true → HasFirstWords at (spaced ws) (spans_from at ws) []
have_words at [] all = ([], refl, refl)
have_words at ([] ∷ ws) all = absurd (false≢true all)
have_words at ((b ∷ w) ∷ ws) all =
    let clear = both (list_all is_plain (b ∷ w)) (list_all is_clear ws) all in (
      spaced ws,
      record {
        gap = 32 ∷ [];
        word = b ∷ w;
        blank = refl;
        good = record { some = omega arith; plain = clear.0 };
        ends = ends_word ws;
        whole = refl;
        start = refl;
        end = refl;
      },
      have_words (at + 1 + length (b ∷ w)) ws clear.1,
    )

abbrev pub is_low : ℕ → Bool
is_low b = nat_lt b 128

are_ascii : (xs : List ℕ) → list_all is_low xs ≡ true → IsAscii xs
are_ascii [] all i = omega arith
are_ascii (x ∷ xs) all zero = let low = (both (is_low x) (list_all is_low xs) all).0 in grind (arith, nat_tests, low)
are_ascii (x ∷ xs) all (suc i) = are_ascii xs (both (is_low x) (list_all is_low xs) all).1 i

-- what of a command's words computes
pub record IsSaid (c : Command) : Type 0 where
  pub clear : list_all is_clear (words_of c) ≡ true
  pub low : list_all is_low (spaced (words_of c)) ≡ true
  pub few : length (spans_from 0 (words_of c)) ≤ MOST_WORDS
  pub texts : words_of c ≡ map (bytes_of (spaced (words_of c))) (spans_from 0 (words_of c))
  pub words : ¬ (IsSkipped (spaced (words_of c)))

-- its line is accepted where nothing is against it
taken : (h : Header) (b : Book) (c : Command) (x : Entry) → IsSaid c → ((k : Cause) → ¬ (HoldsAgainst h b c k)) → Adds h b c x →
    (line : Line) × Judges h b line (verdict.Accepted x)
taken h b c x said none adds =
    let has : HasWords (spaced (words_of c)) (words_of c) = record {
      spans = spans_from 0 (words_of c);
      text = IsUtf8-from_ascii (spaced (words_of c)) (are_ascii (spaced (words_of c)) said.low);
      are = have_words 0 (words_of c) said.clear;
      most = said.few;
      texts = said.texts;
    } in
    (Content (spaced (words_of c)), command_is_accepted h b (spaced (words_of c)) c has x said.words none adds)

-- ---- each command

abbrev pub Taken : Book → Entry → Type 0
Taken b x = (line : Line) × Judges header b line (verdict.Accepted x)

-- the words of numbers
pub one_is : SpellsPositive (codes "1") 1
unfolding decimal_of
one_is = record { some = omega arith; number = record { whole = omega arith; spelled = refl } }

pub two_is : SpellsPositive (codes "2") 2
unfolding decimal_of
two_is = record { some = omega arith; number = record { whole = omega arith; spelled = refl } }

zero_is : SpellsNumber (codes "0") 0
unfolding decimal_of
zero_is = record { whole = omega arith; spelled = refl }

spells_of : (w : Word) (n : ℕ) → n < 2 ^ 32 → decimal_of n ≡ w → SpellsNumber w n
spells_of w n small is = record { whole = small; spelled = is }

pub x_of_1 : SpellsNumber (codes "4850") 4850
unfolding decimal_of
x_of_1 = spells_of (codes "4850") 4850 (omega arith) refl

pub x_of_2 : SpellsNumber (codes "5150") 5150
unfolding decimal_of
x_of_2 = spells_of (codes "5150") 5150 (omega arith) refl

z_is : SpellsNumber (codes "1000") 1000
unfolding decimal_of
z_is = spells_of (codes "1000") 1000 (omega arith) refl

middle_is : SpellsNumber (codes "5000") 5000
unfolding decimal_of
middle_is = spells_of (codes "5000") 5000 (omega arith) refl

first_base : sender_text (sender.Base 1) ≡ codes "b1"
unfolding decimal_of
first_base = refl

one_text : text_of (Number (pos 1)) ≡ codes "1"
unfolding decimal_of
one_text = refl

pub no_note : (b : ℕ) → nat_lt 35 b ≡ true → b ≡ 35 → ⊥
no_note b above is = absurd (grind (arith, nat_tests, above, is))

module _ (b : Book) where
  pub tick_taken : Taken b entry.Ticked
  tick_taken = taken header b Tick entry.Ticked (record {
    clear = refl;
    low = refl;
    few = omega arith;
    texts = refl;
    words = has_words_after_gap (32 ∷ []) 116 (codes "ick") refl refl (no_note 116 refl);
  }) (λ k holds. holds) refl

  -- the space is cut into two cells
  module _ (whole : tree_of b ≡ one_cell 10000) where
    abbrev the_cut : Command
    the_cut = Cut (codes "0") (codes "x") (codes "5000")

    abbrev middle : Boundary
    middle = record { axis = axis.X; at = 5000 }

    spells_middle : SpellsBoundary (codes "x") (codes "5000") middle
    spells_middle = record { axis = refl; place = middle_is }

    not_refused : (error : CutError) → ¬ (RefusesCut (one_cell 10000) 0 middle error)
    not_refused NoCell refuses = omega (arith, refuses)
    not_refused OutsideCell (there, inl low) = omega (arith, low)
    not_refused OutsideCell (there, inr high) = omega (arith, high)
    not_refused TooManyCells (there, runs, full) = omega (arith, full)

    none_against_cut : (k : Cause) → ¬ (HoldsAgainst header b the_cut k)
    none_against_cut cause.BadNumber (inl none) = none 0 zero_is
    none_against_cut cause.BadNumber (inr (inl none)) = none axis.X refl
    none_against_cut cause.BadNumber (inr (inr none)) = none 5000 middle_is
    none_against_cut (cause.CutRefused error) (c, by, spells_cell, spells_by, refuses) =
        let cell = spells_one_number (codes "0") c 0 spells_cell zero_is in
        let boundary = boundary_is_one (codes "x") (codes "5000") by middle spells_by spells_middle in
        not_refused error (subst (λ (t : Division). RefusesCut t 0 middle error) whole
        (subst (λ (n : ℕ). RefusesCut (tree_of b) n middle error) cell
        (subst (λ (d : Boundary). RefusesCut (tree_of b) c d error) boundary refuses)))
    none_against_cut k holds = absurd holds

    pub cut_taken : Taken b (entry.Divided (with_cut (tree_of b) 0 middle))
    cut_taken = taken header b the_cut (entry.Divided (with_cut (tree_of b) 0 middle)) (record {
      clear = refl;
      low = refl;
      few = omega arith;
      texts = refl;
      words = has_words_after_gap (32 ∷ []) 99 (codes "ut 0 x 5000") refl refl (no_note 99 refl);
    }) none_against_cut (0, middle, zero_is, spells_middle, refl)

  -- an entity is made
  module _ (w x : Word) (e px : ℕ) (number : SpellsPositive w e) (spelled : SpellsNumber x px) (inside : px < 10000)
      (new : created_as b e ≡ None) (few : length (creates_of (entries b)) < MOST_ENTITIES)
      (said : IsSaid (Create w (codes "Avatar") x (codes "1000"))) where
    abbrev the_create : Command
    the_create = Create w (codes "Avatar") x (codes "1000")

    abbrev avatar : NamesType builtin (codes "Avatar") 0
    avatar = record { has = omega arith; named = refl }

    none_against_create : (k : Cause) → ¬ (HoldsAgainst header b the_create k)
    none_against_create cause.BadNumber (inl none) = none e number
    none_against_create cause.BadNumber (inr (inl none)) = none px spelled
    none_against_create cause.BadNumber (inr (inr none)) = none 1000 z_is
    none_against_create cause.Exists (other, spells, some) =
        false≢true (sym (ap is_some (ap (created_as b) (positive_is_one w other e spells number) ∙ new)) ∙ some)
    none_against_create cause.NoType none = none 0 avatar
    none_against_create cause.Outside (n, inl spells, out) =
        let same = spells_one_number x n px spells spelled in
        omega (arith, same, out, inside)
    none_against_create cause.Outside (n, inr spells, out) =
        let same = spells_one_number (codes "1000") n 1000 spells z_is in
        omega (arith, same, out)
    none_against_create cause.Full full = omega (arith, full, few)
    none_against_create k holds = absurd holds

    abbrev made : CreateData
    made = record { entity = e; ty = 0; pos = record { x = px; z = 1000 } }

    pub create_taken : Taken b (entry.Created made)
    create_taken = taken header b the_create (entry.Created made) said none_against_create (
      made,
      record {
        number = number;
        type_ = avatar;
        position = record { spelled_x = spelled; spelled_z = z_is; in_x = inside; in_z = omega arith };
      },
      refl,
    )

  module _ (w : Word) (e : ℕ) (number : SpellsPositive w e) (made : CreateData) (is : made.entity ≡ e)
      (lives : live_as b e ≡ Some made) where
    not_dead : (n : ℕ) → SpellsPositive w n → live_as b n ≡ None → ⊥
    not_dead n spells none =
        none-some made (sym none ∙ ap (live_as b) (positive_is_one w n e spells number) ∙ lives)

    live : NamesLive b w made
    live = record { number = subst (SpellsPositive w) (sym is) number; lives = ap (live_as b) is ∙ lives }

    -- it gets a client
    module _ (alone : has_client b e ≡ false) (few : count_of_clients b < MOST_CLIENTS) (said : IsSaid (Client w)) where
      none_against_client : (k : Cause) → ¬ (HoldsAgainst header b (Client w) k)
      none_against_client cause.BadNumber none = none e number
      none_against_client cause.Exists (n, spells, has) =
          false≢true (sym (ap (has_client b) (positive_is_one w n e spells number) ∙ alone) ∙ has)
      none_against_client cause.Full (m, names, without, full) = omega (arith, full, few)
      none_against_client cause.Dead (n, spells, none) = not_dead n spells none
      none_against_client k holds = absurd holds

      pub client_taken : Taken b (entry.Joined e)
      client_taken = taken header b (Client w) (entry.Joined e) said none_against_client (e, number, refl)

    -- it is destroyed
    module _ (said : IsSaid (Destroy w)) where
      none_against_destroy : (k : Cause) → ¬ (HoldsAgainst header b (Destroy w) k)
      none_against_destroy cause.BadNumber none = none e number
      none_against_destroy cause.Dead (n, spells, none) = not_dead n spells none
      none_against_destroy k holds = absurd holds

      pub destroy_taken : Taken b (entry.Destroyed e)
      destroy_taken = taken header b (Destroy w) (entry.Destroyed e) said none_against_destroy (e, number, refl)

    -- base sender 1 hits it
    module _ (avatar : made.ty ≡ 0) (n : ℕ) (next : n ≡ length (accepted b part.Cell e (sender.Base 1)) + 1)
        (said : IsSaid (Call (codes "b1") w (codes "hit") (codes "1" ∷ []))) where
      abbrev the_call : Command
      the_call = Call (codes "b1") w (codes "hit") (codes "1" ∷ [])

      abbrev hit : ℕ
      hit = method_named (codes "hit") avatar_methods

      base_named : NamesSender header b (codes "b1") (sender.Base 1)
      base_named = record {
        there = record { node = record { from_one = omega arith; most = omega arith }; within = omega arith };
        spelled = first_base;
      }

      hit_named : NamesMethod (type_of builtin made.ty) (codes "hit") hit
      hit_named = subst (λ (t : ℕ). NamesMethod (type_of builtin t) (codes "hit") hit) (sym avatar)
          (record { has = omega arith; named = refl })

      spells_args : SpellsArgs (method_of (type_of builtin 0) hit) (codes "1" ∷ []) (Number (pos 1) ∷ [])
      spells_args = record {
        takes = (fit-Decides (type.Int32 ∷ []) (Number (pos 1) ∷ [])).0 refl;
        spelled = ap (λ (v : Word). v ∷ []) one_text;
      }

      args_spelled : SpellsArgs (method_of (type_of builtin made.ty) hit) (codes "1" ∷ []) (Number (pos 1) ∷ [])
      args_spelled = subst (λ (t : ℕ). SpellsArgs (method_of (type_of builtin t) hit) (codes "1" ∷ []) (Number (pos 1) ∷ [])) (sym avatar)
          spells_args

      none_against_call : (k : Cause) → ¬ (HoldsAgainst header b the_call k)
      none_against_call cause.BadNumber none = none e number
      none_against_call cause.NoSender none = none (sender.Base 1) base_named
      none_against_call cause.Dead (m, spells, none) = not_dead m spells none
      none_against_call cause.UnknownMethod (other, names, none) =
          none (sender.Base 1) hit base_named
          (subst (λ (c : CreateData). NamesMethod (type_of builtin c.ty) (codes "hit") hit) (live_is_one b w made other live names)
          hit_named)
          tt
      none_against_call cause.IllTyped (other, m, names, named, none) =
          let same = live_is_one b w other made names live in
          let of_made = subst (λ (c : CreateData). NamesMethod (type_of builtin c.ty) (codes "hit") m) same named in
          let is_hit = method_is_one builtin made.ty (codes "hit") m hit builtin-are-defs of_made hit_named in
          subst (λ (c : CreateData). (args : List Value) → ¬ (SpellsArgs (method_of (type_of builtin c.ty) m) (codes "1" ∷ []) args)) same
          none (Number (pos 1) ∷ [])
          (subst (λ (k : ℕ). SpellsArgs (method_of (type_of builtin made.ty) k) (codes "1" ∷ []) (Number (pos 1) ∷ [])) (sym is_hit)
          args_spelled)
      none_against_call k holds = absurd holds

      abbrev called : CallData
      called = record {
        entity = e;
        part = part.Cell;
        sender = sender.Base 1;
        number = n;
        deed = deed.Method hit (Number (pos 1) ∷ []);
      }

      pub call_taken : Taken b (entry.Called called)
      call_taken = taken header b the_call (entry.Called called) said none_against_call (
        called,
        record {
          sender = base_named;
          made = made;
          live = live;
          entity_ = sym is;
          deed_ = (hit, Number (pos 1) ∷ [], hit_named, args_spelled, refl);
          part_ = subst (λ (t : ℕ). part.Cell ≡ part_of_deed (type_of builtin t) (deed.Method hit (Number (pos 1) ∷ []))) (sym avatar) refl;
          next = next;
        },
        refl,
      )
