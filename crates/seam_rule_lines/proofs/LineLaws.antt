-- Lines with one verdict, whatever the book.
use Rattle.std.proofs.Common.{◌≡◌, ◌↔◌, ℕ, List, sym, subst}
use Rattle.seam_io.specs.Lines.{Content, Long}
use Rattle.seam_words.specs.SplitWords.{HasWords}
use Rattle.seam_toml.specs.declared.header.Header.{Header}
use Rattle.seam_rule_lines.specs.Language.{IsSkipped, NamesCommand}
use Rattle.seam_rule_lines.specs.Book.{Book}
use Rattle.seam_rule_lines.specs.Judging.{Judges}
use Rattle.seam_rule_lines.specs.declared.verdict.Cause.TheVariants as cause
use Rattle.seam_rule_lines.specs.declared.verdict.Verdict.{Verdict}
use Rattle.seam_rule_lines.specs.declared.verdict.Verdict.TheVariants as verdict
use Rattle.seam_rule_lines.proofs.Refusals.{long_is_refused, long_only, no_command_is_refused, no_command_only}

pub long_line : (h : Header) (b : Book) (v : Verdict) → Judges h b Long v ↔ (v ≡ verdict.Refused cause.TooLong)
long_line h b v = (long_only h b v, λ is. subst (Judges h b Long) (sym is) (long_is_refused h b))

pub unknown_command : (h : Header) (b : Book) (line : List ℕ) (words : List (List ℕ)) (v : Verdict) →
    ¬ (IsSkipped line) → HasWords line words → ¬ (NamesCommand words)
    → Judges h b (Content line) v ↔ (v ≡ verdict.Refused cause.NoCommand)
unknown_command h b line words v not has none = (
  no_command_only h b line words not has v none,
  λ is. subst (Judges h b (Content line)) (sym is) (no_command_is_refused h b line words not has none),
)
