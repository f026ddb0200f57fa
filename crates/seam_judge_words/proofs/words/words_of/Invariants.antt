use Rattle.std.proofs.Common.{◌≡◌, ◌++◌, ◌∷◌, ℕ, List, length, map}
use Rattle.seam_law_texts.specs.Words.{IsWord, AreWords, spaced}
use Rattle.seam_judge_words.proofs.WordSteps.{ToCome}
use Rattle.seam_judge_words.proofs.words.words_of.Given as goal

abbrev pub invariant-loop-words : goal.invariant-loop-words
invariant-loop-words l = (first : List ℕ) (others : List (List ℕ)) → IsWord first → AreWords others → l.line ≡ first ++ spaced others →
    ToCome l.rest (map (λ w. w.now) l.words.items) (first ∷ others)

abbrev pub decreases-loop-words : goal.decreases-loop-words
decreases-loop-words l = length l.rest
