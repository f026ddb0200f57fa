-- A flow through other eyes: less of each slot and of each letter, or the links to one node alone.
use Rattle.std.specs.Prelude.{ℕ, ◌==◌, [], Option, None, Some, if◌then◌else◌}
use Rattle.seam_law_flow.specs.Flows.{Flow, letters_of, given_from}

-- the flow with f of each slot, and of the letters those that `mine` gives something of
abbrev pub narrow : {S L S' L' : Type 0} → (S → S') → (L → Option L') → Flow S L → Flow S' L'
narrow f mine w = record { slot = λ k. f (w.slot k); mail = λ a b. letters_of mine (w.mail a b) }

-- what comes, as `mine` has it
abbrev pub narrowed : {L L' : Type 0} → (L → Option L') → Option (ℕ × L) → Option (ℕ × L')
narrowed mine None = None
narrowed mine (Some p) = given_from p.0 (mine p.1)

-- the flow with the links to one node alone
abbrev pub toward : {S L : Type 0} → ℕ → Flow S L → Flow S L
toward home w = record { slot = w.slot; mail = λ x y. if y == home then w.mail x y else [] }
