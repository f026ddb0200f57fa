-- The texts of a line's words: there is one list of them, and none where the words are at fault.
use Rattle.std.proofs.Common.{◌≡◌, ℕ, List, map, sym, ap, ◌∙◌}
use Rattle.seam_words.specs.Words.{Span, bytes_of}
use Rattle.seam_words.specs.SplitWords.{HasWords}
use Rattle.seam_words.specs.Faults.{Refuses}
use Rattle.seam_words.specs.declared.words.WordsError.{WordsError}
use Rattle.seam_words.proofs.Scan.{same_words, same_refusal, no_words}

pub words_are_one_list : (line : List ℕ) (xs ys : List (List ℕ)) → HasWords line xs → HasWords line ys → xs ≡ ys
words_are_one_list line xs ys one other =
    one.texts ∙ ap (λ (spans : List Span). map (bytes_of line) spans) (same_words line one.spans other.spans one.are other.are)
    ∙ sym other.texts

pub no_words_at_fault : (line : List ℕ) (e : WordsError) (words : List (List ℕ)) → Refuses line e → HasWords line words → ⊥
no_words_at_fault line e words bad has = no_words line e bad has.spans has.text has.are has.most

pub fault_is_first : (line : List ℕ) (e f : WordsError) → Refuses line e → Refuses line f → e ≡ f
fault_is_first line e f one other = same_refusal line e f one other
