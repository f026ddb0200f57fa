-- Lines of which each call names its entity's one sender, and none asks for a tick or a balance.
use Rattle.std.proofs.Common.{◌≡◌, ◌≢◌, ◌+◌, ◌≤◌, ℕ, Bool, true, false, cond, List, [], ◌∷◌, ◌++◌, length, drop, get_or, sym, ap, ◌∙◌}
use Rattle.std.proofs.Common.{subst}
use Rattle.std.specs.Prelude.{All, codes, nat_lt}
use Rattle.std.specs.List.{list_all, AllByRecursion}
use Rattle.std.specs.Str.Lines.{strip_carriage_return}
use Rattle.std.proofs.lemmas.List.Elements.{All-cons}
use Rattle.seam_rule_rounds.specs.Prelude.{Line, Content, Long, lines_of, decimal_of, Sender, Word, sender_text, Spells, CallIsFrom}
use Rattle.seam_rule_rounds.specs.Prelude.{AsksForNeither}
use Rattle.seam_io.specs.Lines.{line_of}
use Rattle.seam_io.specs.declared.lines.TheConstants.{LONGEST_LINE}
use Rattle.seam_io.proofs.LineLemmas.{lines_of-fed}
use Rattle.seam_value.specs.NumberWords.{SpellsPositive}
use Rattle.seam_value.proofs.Decimals.{decimal_of-injective}
use Rattle.seam_words.specs.SplitWords.{HasWords}
use Rattle.seam_words.specs.declared.words.TheConstants.{MOST_WORDS}
use Rattle.seam_words.proofs.WordTexts.{words_are_one_list}
use Rattle.seam_rule_lines.specs.Language as language
use Rattle.seam_rule_lines.specs.Language.{words_of}
use Rattle.seam_rule_lines.specs.Senders.{AsksFor}
use Rattle.seam_rule_rounds.proofs.Plain.{is_seen, IsClearWord, after_first, has_no_feed, stays_whole, all_seen, has_words}

-- words that differ in a byte
pub differs : (i : ℕ) (w v : List ℕ) → ¬ (get_or w i 0 ≡ get_or v i 0) → w ≢ v
differs i w v not is = not (ap (λ (bytes : List ℕ). get_or bytes i 0) is)

module _ (one : ℕ → Sender) where
  abbrev pub IsFine : Line → Type 0
  IsFine line = CallIsFrom one line × AsksForNeither line

  -- ---- a line by its words

  -- one that names an entity's sender and the entity
  module _ (text : List ℕ) (k : Word) (e : ℕ) (rest : List Word) (has : HasWords text (k ∷ sender_text (one e) ∷ decimal_of e ∷ rest)) where
    same_words : (c : language.Command) → Spells (Content text) c → words_of c ≡ k ∷ sender_text (one e) ∷ decimal_of e ∷ rest
    same_words c spells = words_are_one_list text (words_of c) (k ∷ sender_text (one e) ∷ decimal_of e ∷ rest) spells has

    named : (s w : Word) (n : ℕ) → s ≡ sender_text (one e) → w ≡ decimal_of e → SpellsPositive w n → s ≡ sender_text (one n)
    named s w n sender entity number =
        let is : n ≡ e = decimal_of-injective n e (number.number.spelled ∙ entity) in
        sender ∙ ap (λ (m : ℕ). sender_text (one m)) (sym is)

    from_its_sender : (c : language.Command) (s w : Word) (n : ℕ) → words_of c ≡ k ∷ sender_text (one e) ∷ decimal_of e ∷ rest →
        AsksFor c s w → SpellsPositive w n → s ≡ sender_text (one n)
    from_its_sender (language.Call s0 e0 m args) s w n same (s-is, w-is) number =
        named s w n (sym s-is ∙ ap (λ (ws : List Word). get_or ws 1 []) same) (sym w-is ∙ ap (λ (ws : List Word). get_or ws 2 []) same)
        number
    from_its_sender (language.Move s0 e0 x z) s w n same (s-is, w-is) number =
        named s w n (sym s-is ∙ ap (λ (ws : List Word). get_or ws 1 []) same) (sym w-is ∙ ap (λ (ws : List Word). get_or ws 2 []) same)
        number
    from_its_sender c s w n same asks number = absurd asks

    no_single : (v : Word) → v ∷ [] ≡ k ∷ sender_text (one e) ∷ decimal_of e ∷ rest → ⊥
    no_single v same = let none : [] ≡ sender_text (one e) ∷ decimal_of e ∷ rest = ap (drop 1) same in cc

    pub fine_call : IsFine (Content text)
    fine_call = (
      λ c s w n spells asks number. from_its_sender c s w n (same_words c spells) asks number,
      (
        λ spells. no_single (codes "tick") (same_words language.Tick spells),
        λ spells. no_single (codes "balance") (same_words language.Balance spells),
      ),
    )

  -- one whose first word is that of another command
  module _ (text : List ℕ) (k : Word) (rest : List Word) (has : HasWords text (k ∷ rest)) (call : codes "call" ≢ k)
      (move : codes "move" ≢ k)
      (tick : codes "tick" ≢ k) (balance : codes "balance" ≢ k) where
    first_is : (c : language.Command) → Spells (Content text) c → get_or (words_of c) 0 [] ≡ k
    first_is c spells = ap (λ (ws : List Word). get_or ws 0 []) (words_are_one_list text (words_of c) (k ∷ rest) spells has)

    no_call : (c : language.Command) (s w : Word) (n : ℕ) → get_or (words_of c) 0 [] ≡ k → AsksFor c s w → SpellsPositive w n →
        s ≡ sender_text (one n)
    no_call (language.Call s0 e0 m args) s w n is asks number = absurd (call is)
    no_call (language.Move s0 e0 x z) s w n is asks number = absurd (move is)
    no_call c s w n is asks number = absurd asks

    pub fine_other : IsFine (Content text)
    fine_other = (
      λ c s w n spells asks number. no_call c s w n (first_is c spells) asks number,
      (λ spells. tick (first_is language.Tick spells), λ spells. balance (first_is language.Balance spells)),
    )

  -- ---- texts of lines

  fine_line : (text : List ℕ) → list_all is_seen text ≡ true → IsFine (Content text) → IsFine (line_of text)
  fine_line text seen fine = by (nat_lt LONGEST_LINE (length text))
    where
      by : (b : Bool) → IsFine (cond b Long (Content (strip_carriage_return text)))
      by true = (λ c s w n spells asks number. absurd spells, (λ spells. spells, λ spells. spells))
      by false = subst (λ (xs : List ℕ). IsFine (Content xs)) (sym (stays_whole text seen)) fine

  abbrev pub AreFine : List ℕ → Type 0
  AreFine text = All IsFine (lines_of text)

  -- a line of clear words before such a text
  pub line_before : (w : Word) (ws : List Word) (more : List ℕ) → IsClearWord w → AllByRecursion IsClearWord ws →
      length ws + 1 ≤ MOST_WORDS →
      (HasWords (w ++ after_first ws) (w ∷ ws) → IsFine (Content (w ++ after_first ws))) → AreFine more →
      AreFine ((w ++ after_first ws) ++ 10 ∷ more)
  line_before w ws more clear all few fine rest =
      let text = w ++ after_first ws in
      let seen = all_seen w ws clear all in
      subst (All IsFine) (sym (lines_of-fed text more (has_no_feed text seen)))
      (All-cons IsFine (line_of text) (lines_of more) (fine_line text seen (fine (has_words w ws clear all few))) rest)
