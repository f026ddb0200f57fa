-- Books with the same entries and the same tree judge alike.
use Rattle.std.proofs.Common.{◌≡◌, ℕ, ◌+◌, ◌≤◌, Bool, true, ◌&&◌, cond, List, length, Option, None, sym, ◌∙◌, ap, subst}
use Rattle.std.specs.Prelude.{find, filter, ◌==◌, is_some}
use Rattle.std.specs.List.{list_any, count_by}
use Rattle.seam_io.specs.Lines.{Line}
use Rattle.seam_tree.specs.Division.{Division}
use Rattle.seam_tree.specs.Change.{with_cut, with_place}
use Rattle.seam_defs.specs.declared.flags.Part.{Part}
use Rattle.seam_defs.specs.declared.types.TypeDef.{TypeDef}
use Rattle.seam_defs.specs.declared.states.Deed.{Deed}
use Rattle.seam_call.specs.Calls.{is_from}
use Rattle.seam_call.specs.declared.call.Call.{Call}
use Rattle.seam_call.specs.declared.create.Create.{Create}
use Rattle.seam_call.specs.declared.sender.Sender.{Sender}
use Rattle.seam_call.specs.declared.sender.Sender.TheVariants as sender
use Rattle.seam_toml.specs.declared.header.Header.{Header}
use Rattle.seam_rule_lines.specs.Language as language
use Rattle.seam_rule_lines.specs.Book.{Book, entries, creates_of, calls_of, created_as, live_as, accepted, has_client, count_of_clients}
use Rattle.seam_rule_lines.specs.Book.{tree_of}
use Rattle.seam_rule_lines.specs.Book.{destroys, joins}
use Rattle.seam_rule_lines.specs.Judging.{SenderExists, NamesSender, NamesLive, NamesCall, RefusesCut, RefusesShift, Adds, IsDead}
use Rattle.seam_rule_lines.specs.Judging.{HoldsAgainst, HoldsAgainstWords, Holds, Judges}
use Rattle.seam_rule_lines.specs.declared.limits.TheConstants.{MOST_CLIENTS, MOST_ENTITIES}
use Rattle.seam_rule_lines.specs.declared.verdict.Entry.{Entry}
use Rattle.seam_rule_lines.specs.declared.verdict.Entry.TheVariants as entry
use Rattle.seam_rule_lines.specs.declared.verdict.Cause.{Cause}
use Rattle.seam_rule_lines.specs.declared.verdict.Cause.TheVariants as cause
use Rattle.seam_rule_lines.specs.declared.verdict.Verdict.{Verdict}
use Rattle.seam_rule_lines.specs.declared.verdict.Verdict.TheVariants as verdict

-- ---- what follows from entries

abbrev created_among : List Entry → ℕ → Option Create
created_among xs e = find (λ (d : Create). d.entity == e) (creates_of xs)

abbrev live_among : List Entry → ℕ → Option Create
live_among xs e = cond (list_any (destroys e) xs) None (created_among xs e)

abbrev client_among : List Entry → ℕ → Bool
client_among xs e = is_some (live_among xs e) && list_any (joins e) xs

module _ (b c : Book) (same : entries b ≡ entries c) where
  created_same : (e : ℕ) → created_as b e ≡ created_as c e
  created_same e = ap (λ (xs : List Entry). created_among xs e) same

  live_same : (e : ℕ) → live_as b e ≡ live_as c e
  live_same e = ap (λ (xs : List Entry). live_among xs e) same

  client_same : (e : ℕ) → has_client b e ≡ has_client c e
  client_same e = ap (λ (xs : List Entry). client_among xs e) same

  accepted_same : (p : Part) (e : ℕ) (s : Sender) → accepted b p e s ≡ accepted c p e s
  accepted_same p e s = ap (λ (xs : List Entry). filter (is_from p e s) (calls_of xs)) same

  count_same : count_of_clients b ≡ count_of_clients c
  count_same = ap (λ (xs : List Entry). count_by (λ (d : Create). client_among xs d.entity) (creates_of xs)) same

  creates_same : length (creates_of (entries b)) ≡ length (creates_of (entries c))
  creates_same = ap (λ (xs : List Entry). length (creates_of xs)) same

  module _ (h : Header) where
    there_too : (s : Sender) → SenderExists h b s → SenderExists h c s
    there_too (sender.Base n) there = there
    there_too (sender.Client e) there = sym (client_same e) ∙ there

    sender_too : (word : language.Word) (s : Sender) → NamesSender h b word s → NamesSender h c word s
    sender_too word s names = record { there = there_too s names.there; spelled = names.spelled }

  live_too : (word : language.Word) (made : Create) → NamesLive b word made → NamesLive c word made
  live_too word made names = record { number = names.number; lives = sym (live_same made.entity) ∙ names.lives }

  dead_too : (word : language.Word) → IsDead b word → IsDead c word
  dead_too word (e, spells, none) = (e, spells, sym (live_same e) ∙ none)

-- ---- commands

module _ (h : Header) (b c : Book) (same : entries b ≡ entries c) (tree : tree_of b ≡ tree_of c) where
  call_too : (name entity : language.Word) (Asks : TypeDef → Deed → Type 0) (x : Call) → NamesCall h b name entity Asks x →
      NamesCall h c name entity Asks x
  call_too name entity Asks x names = record {
    sender = sender_too b c same h name x.sender names.sender;
    made = names.made;
    live = live_too b c same entity names.made names.live;
    entity_ = names.entity_;
    deed_ = names.deed_;
    part_ = names.part_;
    next = names.next ∙ ap (λ (xs : List Call). length xs + 1) (accepted_same b c same x.part x.entity x.sender);
  }

  adds_too : (command : language.Command) (x : Entry) → Adds h b command x → Adds h c command x
  adds_too (language.Create e t x z) y adds = adds
  adds_too (language.Call s e m args) y (call, names, is) = (call, call_too s e _ call names, is)
  adds_too (language.Move s e x z) y (call, names, is) = (call, call_too s e _ call names, is)
  adds_too language.Sync y adds = adds
  adds_too (language.Client e) y adds = adds
  adds_too language.Tick y adds = adds
  adds_too (language.Cut cell a at) y (k, by, spells, bound, is) =
      (k, by, spells, bound, is ∙ ap (λ (t : Division). entry.Divided (with_cut t k by)) tree)
  adds_too (language.Shift k at) y (n, place, spells, spelled, is) =
      (n, place, spells, spelled, is ∙ ap (λ (t : Division). entry.Divided (with_place t n place)) tree)
  adds_too language.Balance y adds = adds
  adds_too (language.Destroy e) y adds = adds

  against_too : (command : language.Command) (k : Cause) → HoldsAgainst h b command k → HoldsAgainst h c command k
  against_too (language.Create e t x z) cause.BadNumber holds = holds
  against_too (language.Create e t x z) cause.Exists (n, spells, some) =
      (n, spells, subst (λ (o : Option Create). is_some o ≡ true) (created_same b c same n) some)
  against_too (language.Create e t x z) cause.NoType holds = holds
  against_too (language.Create e t x z) cause.Outside holds = holds
  against_too (language.Create e t x z) cause.Full holds = subst (λ (n : ℕ). MOST_ENTITIES ≤ n) (creates_same b c same) holds
  against_too (language.Call s e m args) cause.BadNumber holds = holds
  against_too (language.Call s e m args) cause.NoSender none = λ x names. none x (sender_too c b (sym same) h s x names)
  against_too (language.Call s e m args) cause.Dead holds = dead_too b c same e holds
  against_too (language.Call s e m args) cause.UnknownMethod (made, live, none) =
      (made, live_too b c same e made live, λ x n names method. none x n (sender_too c b (sym same) h s x names) method)
  against_too (language.Call s e m args) cause.IllTyped (made, n, live, method, none) =
      (made, n, live_too b c same e made live, method, none)
  against_too (language.Move s e x z) cause.BadNumber holds = holds
  against_too (language.Move s e x z) cause.NoSender none = λ y names. none y (sender_too c b (sym same) h s y names)
  against_too (language.Move s e x z) cause.Dead holds = dead_too b c same e holds
  against_too (language.Move s e x z) cause.UnknownMethod (made, live, none) =
      (made, live_too b c same e made live, λ y names. none y (sender_too c b (sym same) h s y names))
  against_too (language.Move s e x z) cause.IllTyped holds = holds
  against_too (language.Client e) cause.BadNumber holds = holds
  against_too (language.Client e) cause.Exists (n, spells, has) = (n, spells, sym (client_same b c same n) ∙ has)
  against_too (language.Client e) cause.Full (made, live, alone, full) = (
    made,
    live_too b c same e made live,
    sym (client_same b c same made.entity) ∙ alone,
    subst (λ (n : ℕ). MOST_CLIENTS ≤ n) (count_same b c same) full,
  )
  against_too (language.Client e) cause.Dead holds = dead_too b c same e holds
  against_too (language.Cut cell a at) cause.BadNumber holds = holds
  against_too (language.Cut cell a at) (cause.CutRefused error) (k, by, spells, bound, refuses) =
      (k, by, spells, bound, subst (λ (t : Division). RefusesCut t k by error) tree refuses)
  against_too (language.Shift k at) cause.BadNumber holds = holds
  against_too (language.Shift k at) (cause.ShiftRefused error) (n, place, spells, spelled, refuses) =
      (n, place, spells, spelled, subst (λ (t : Division). RefusesShift t n place error) tree refuses)
  against_too (language.Destroy e) cause.BadNumber holds = holds
  against_too (language.Destroy e) cause.Dead holds = dead_too b c same e holds
  against_too command k holds = absurd holds

  -- ---- lines

  words_too : (words : List language.Word) (k : Cause) → HoldsAgainstWords h b words k → HoldsAgainstWords h c words k
  words_too words cause.NoCommand holds = holds
  words_too words cause.WrongCount holds = holds
  words_too words k (command, is, holds) = (command, is, against_too command k holds)

  holds_too : (line : Line) (k : Cause) → Holds h b line k → Holds h c line k
  holds_too line cause.TooLong holds = holds
  holds_too line (cause.BadWords error) holds = holds
  holds_too line k (content, words, is, has, holds) = (content, words, is, has, words_too words k holds)

pub judged_too : (h : Header) (b c : Book) → entries b ≡ entries c → tree_of b ≡ tree_of c → (line : Line) (v : Verdict) →
    Judges h b line v → Judges h c line v
judged_too h b c same tree line verdict.Skipped judged = judged
judged_too h b c same tree line (verdict.Refused k) (some, is) = (
  some,
  record {
    here = holds_too h b c same tree line k is.here;
    first = λ d holds. is.first d (holds_too h c b (sym same) (sym tree) line d holds);
  },
)
judged_too h b c same tree line (verdict.Accepted x) (some, none, command, spells, adds) = (
  some,
  (λ k holds. none k (holds_too h c b (sym same) (sym tree) line k holds)),
  command,
  spells,
  adds_too h b c same tree command x adds,
)
judged_too h b c same tree line verdict.Synced judged = judged
