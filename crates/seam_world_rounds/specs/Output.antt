-- What a run gives of its rounds: their text, or what is summed up of them.
use Rattle.std.specs.Prelude.{◌≡◌, ℕ, true, false, Bool, List, [], ◌∷◌, ◌++◌, Option, None, Some}
use Rattle.std.specs.List.{flat_map}
use Rattle.seam_node_steps.specs.Prelude.{TypeDef}
use Rattle.seam_rule_rounds.specs.Prelude.{Journal, refusal, Cause, RoundData, Piece, played_text, sums_of, all_sums, totals_of}
use Rattle.seam_rule_rounds.specs.declared.totals.Sums.{Sums}
use Rattle.seam_rule_rounds.specs.declared.totals.Totals.{Totals}
use Rattle.seam_rule_rounds.specs.Transcript.{piece_text}
use Rattle.seam_world_rounds.specs.declared.round.Output.{Output}
use Rattle.seam_world_rounds.specs.declared.round.Output.TheVariants as output

-- what is given of rounds where they are printed
abbrev pub text_output : (traced : Bool) → Output
text_output true = output.TracedRounds
text_output false = output.Rounds

-- the text that is given of a round and its steps
abbrev pub round_output : Output → List TypeDef → RoundData → Journal → List ℕ
round_output output.Rounds = played_text false
round_output output.TracedRounds = played_text true
round_output output.Sums = λ defs r j. []

-- the text that is given of a line that is refused
abbrev pub refusal_output : Output → (line : ℕ) → Cause → List ℕ
refusal_output output.Rounds = refusal
refusal_output output.TracedRounds = refusal
refusal_output output.Sums = λ line c. []

-- the text that is given of pieces
abbrev pub piece_output : Output → List TypeDef → Piece → List ℕ
piece_output output.Rounds = piece_text false
piece_output output.TracedRounds = piece_text true
piece_output output.Sums = λ defs piece. []

abbrev pub output_of : Output → List TypeDef → List Piece → List ℕ
output_of o defs pieces = flat_map (piece_output o defs) pieces

-- what is summed up of a round, where that is asked for
abbrev pub sums_if : Output → RoundData → Option Sums
sums_if output.Rounds r = None
sums_if output.TracedRounds r = None
sums_if output.Sums r = Some (sums_of r)

-- and of pieces
abbrev pub sums_for : Output → List Piece → List Sums
sums_for output.Rounds pieces = []
sums_for output.TracedRounds pieces = []
sums_for output.Sums pieces = all_sums pieces

-- the totals count these pieces too
abbrev pub Counts : Output → (old new : Totals) → List Piece → Type 0
Counts o old new pieces = (before : List Sums) → old ≡ totals_of before → new ≡ totals_of (before ++ sums_for o pieces)

-- what is summed up of a round is added to the totals, where it was
abbrev pub AddsSums : (old : Totals) → Option Sums → (new : Totals) → Type 0
AddsSums old None new = new ≡ old
AddsSums old (Some s) new = (before : List Sums) → old ≡ totals_of before → new ≡ totals_of (before ++ s ∷ [])
