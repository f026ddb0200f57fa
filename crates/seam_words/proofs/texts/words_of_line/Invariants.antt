use Rattle.std.proofs.Common.{◌≡◌, List, take, map, length}
use Rattle.seam_words.specs.declared.words.TheConstants.{MOST_WORDS}
use Rattle.seam_words.specs.Words.{Span, bytes_of}
use Rattle.seam_words.proofs.Reading.{HasRead}
use Rattle.seam_words.proofs.texts.words_of_line.Given as goal

abbrev pub invariant-loop-rest : goal.invariant-loop-rest
invariant-loop-rest l =
    (spans : List Span) × HasRead l.line spans l.rest × (length spans ≡ l.count)
    × (map (λ w. w.now) (take l.count l.table) ≡ map (bytes_of l.line) spans) × (length l.table ≡ MOST_WORDS)

abbrev pub decreases-loop-rest : goal.decreases-loop-rest
decreases-loop-rest l = length l.rest
