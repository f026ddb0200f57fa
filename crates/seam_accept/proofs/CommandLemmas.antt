-- Words that spell no command.
use Rattle.std.proofs.Common.{◌≡◌, ◌↔◌, ◌++◌, ℕ, Bool, false, List, sym, ◌∙◌, ◌⊎◌, inl, inr}
use Rattle.std.specs.Prelude.{Contains, IsTrue}
use Rattle.std.proofs.lemmas.Bool.{false≢true}
use Rattle.std.proofs.lemmas.List.Elements.{Contains-append_right, Contains-append_cases}
use Rattle.seam_io.specs.Lines.{Content}
use Rattle.seam_words.specs.SplitWords.{HasWords}
use Rattle.seam_rule_lines.specs.Language.{IsSkipped}
use Rattle.seam_rule_lines.specs.Book.{Book}
use Rattle.seam_rule_lines.specs.Judging.{Judges}
use Rattle.seam_toml.specs.declared.header.Header.{Header}
use Rattle.seam_rule_lines.specs.declared.verdict.Cause.{Cause}
use Rattle.seam_rule_lines.specs.declared.verdict.Cause.TheVariants as cause
use Rattle.seam_rule_lines.specs.declared.verdict.Verdict.TheVariants.{Refused}
use Rattle.seam_rule_lines.proofs.Refusals.{no_command_is_refused, wrong_count_is_refused}
use Rattle.seam_accept.specs.Commands.{IsFaultOfWords}

-- each book refuses them for their fault
pub words_are_refused : (line : List ℕ) (words : List (List ℕ)) → ¬ (IsSkipped line) → HasWords line words →
    (k : Cause) → IsFaultOfWords words k
    → (h : Header) (b : Book) → Judges h b (Content line) (Refused k)
words_are_refused line words not has cause.NoCommand none h b = no_command_is_refused h b line words not has none
words_are_refused line words not has cause.WrongCount (named, none) h b =
    wrong_count_is_refused h b line words not has named none
words_are_refused line words not has k fault h b = absurd fault

-- a word that is none of the first ones is one of all exactly where it is one of the others
pub one_of_others : {X : Type 0} (xs ys : List X) (x : X) (first other : Bool) → first ≡ false → (IsTrue first ↔ Contains xs x) →
    (IsTrue other ↔ Contains ys x) → IsTrue other ↔ Contains (xs ++ ys) x
one_of_others {X} xs ys x first other none is_first is_other =
    ((λ is. Contains-append_right xs ys x (is_other.0 is)), (λ has. split (Contains-append_cases xs ys x has)))
  where
    split : Contains xs x ⊎ Contains ys x → IsTrue other
    split (inl has) = absurd (false≢true (sym none ∙ is_first.1 has))
    split (inr has) = is_other.1 has
