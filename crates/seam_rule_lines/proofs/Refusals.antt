-- Lines that are refused for what they are, whatever the book holds.
use Rattle.std.proofs.Common.{◌≡◌, ◌≤◌, ℕ, List, refl, ap, subst, arith}
use Rattle.seam_io.specs.Lines.{Content, Long}
use Rattle.seam_words.specs.Faults.{Refuses}
use Rattle.seam_words.specs.SplitWords.{HasWords}
use Rattle.seam_words.specs.declared.words.WordsError.{WordsError}
use Rattle.seam_toml.specs.declared.header.Header.{Header}
use Rattle.seam_rule_lines.specs.Language as language
use Rattle.seam_rule_lines.specs.Book.{Book}
use Rattle.seam_rule_lines.specs.Judging.{rank, Holds, Judges}
use Rattle.seam_rule_lines.specs.declared.verdict.Cause.{Cause}
use Rattle.seam_rule_lines.specs.declared.verdict.Cause.TheVariants as cause
use Rattle.seam_rule_lines.specs.declared.verdict.Verdict.{Verdict}
use Rattle.seam_rule_lines.specs.declared.verdict.Verdict.TheVariants as verdict
use Rattle.seam_rule_lines.proofs.Verdicts.{same_words, content_is_not_long, no_fault_of, cause_is_one, sync_is_not_refused}

module _ (h : Header) (b : Book) where
  -- a line that is too long is refused for that
  pub long_is_refused : Judges h b Long (verdict.Refused cause.TooLong)
  long_is_refused = ((λ empty. empty), record { here = refl; first = λ d holds. omega arith })

  -- and has no other verdict
  pub long_only : (v : Verdict) → Judges h b Long v → v ≡ verdict.Refused cause.TooLong
  long_only verdict.Skipped judged = absurd judged
  long_only (verdict.Refused k) judged =
      ap verdict.Refused (cause_is_one h b Long k cause.TooLong judged.1 long_is_refused.1)
  long_only (verdict.Accepted x) judged = absurd (judged.1 cause.TooLong refl)
  long_only verdict.Synced judged = absurd judged.1

  -- bad words are refused for their fault
  pub bad_words_are_refused : (line : List ℕ) (e : WordsError) → ¬ (language.IsSkipped line) → Refuses line e →
      Judges h b (Content line) (verdict.Refused (cause.BadWords e))
  bad_words_are_refused line e not bad = (not, record { here = (line, refl, bad); first = first })
    where
      first : (d : Cause) → Holds h b (Content line) d → 1 ≤ rank d
      first cause.TooLong holds = absurd (content_is_not_long line holds)
      first _ holds = omega arith

  module _ (line : List ℕ) (words : List (List ℕ)) (not : ¬ (language.IsSkipped line)) (has : HasWords line words) where
    -- words of which the first is that of no command are refused for that
    pub no_command_is_refused : ¬ (language.NamesCommand words) → Judges h b (Content line) (verdict.Refused cause.NoCommand)
    no_command_is_refused none = (not, record { here = (line, words, refl, has, none); first = first })
      where
        first : (d : Cause) → Holds h b (Content line) d → 2 ≤ rank d
        first cause.TooLong holds = absurd (content_is_not_long line holds)
        first (cause.BadWords f) (content, same, bad) = absurd (no_fault_of line content words f same has bad)
        first _ holds = omega arith

    -- and have no other verdict
    pub no_command_only : (v : Verdict) → ¬ (language.NamesCommand words) → Judges h b (Content line) v →
        v ≡ verdict.Refused cause.NoCommand
    no_command_only verdict.Skipped none judged = absurd (not judged)
    no_command_only (verdict.Refused k) none judged =
        ap verdict.Refused (cause_is_one h b (Content line) k cause.NoCommand judged.1 (no_command_is_refused none).1)
    no_command_only (verdict.Accepted x) none judged = absurd (judged.1 cause.NoCommand (no_command_is_refused none).1.here)
    no_command_only verdict.Synced none judged =
        absurd (sync_is_not_refused h b (Content line) cause.NoCommand judged.1 (no_command_is_refused none).1.here)

    -- a command's words that are too many or too few are refused for that
    pub wrong_count_is_refused : language.NamesCommand words → ((c : language.Command) → ¬ (words ≡ language.words_of c)) →
        Judges h b (Content line) (verdict.Refused cause.WrongCount)
    wrong_count_is_refused named none = (not, record { here = (line, words, refl, has, none); first = first })
      where
        first : (d : Cause) → Holds h b (Content line) d → 3 ≤ rank d
        first cause.TooLong holds = absurd (content_is_not_long line holds)
        first (cause.BadWords f) (content, same, bad) = absurd (no_fault_of line content words f same has bad)
        first cause.NoCommand (content, others, same, has', nothing) =
            absurd (nothing (subst language.NamesCommand (same_words line content words others same has has') named))
        first _ holds = omega arith
