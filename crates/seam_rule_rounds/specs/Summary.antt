-- The summary of a run: one line in place of all that is printed.
use Rattle.std.specs.Prelude.{◌≡◌, ℕ, ℤ, pos, ◌+ℤ◌, List, [], ◌∷◌, ◌++◌, length, map, fold, filter_map, codes, Option, None, Some}
use Rattle.std.specs.List.{sum_by}
use Rattle.seam_io.specs.Lines.{Line}
use Rattle.seam_value.specs.Values.{text_of}
use Rattle.seam_value.specs.declared.values.Value.TheVariants.{Number}
use Rattle.seam_defs.specs.Builtin.{avatar_properties}
use Rattle.seam_defs.specs.Deeds.{number_of, place_of, value_at}
use Rattle.seam_defs.specs.declared.flags.Group.TheVariants as group
use Rattle.seam_toml.specs.declared.header.Header.{Header}
use Rattle.seam_rule_lines.specs.Language.{Tick, Balance}
use Rattle.seam_rule_lines.specs.Judging.{Spells}
use Rattle.seam_rule_lines.specs.Round.{HomeLine}
use Rattle.seam_rule_lines.specs.LineTexts.{field}
use Rattle.seam_rule_rounds.specs.Standing.{Standing}
use Rattle.seam_rule_rounds.specs.Lines.{RoundData}
use Rattle.seam_rule_rounds.specs.Transcript.{Piece, Refusal, Ended}
use Rattle.seam_rule_rounds.specs.declared.totals.Sums.{Sums}
use Rattle.seam_rule_rounds.specs.declared.totals.Totals.{Totals}

-- the number of the property `hp` of an avatar
abbrev pub hp : ℕ
hp = 1

-- the hp of an avatar's home
abbrev pub hp_of : HomeLine → ℤ
hp_of l = number_of (value_at l.state.props (place_of avatar_properties group.Real hp))

-- what is summed up of a round
abbrev pub sums_of : RoundData → Sums
sums_of r = record { did = length r.did; shown = length r.shown; hp = fold (λ n l. n +ℤ hp_of l) (pos 0) r.homes }

abbrev pub round_of : Piece → Option RoundData
round_of (Refusal line c) = None
round_of (Ended s r j t) = Some r

-- of each round that ended, in order
abbrev pub all_sums : List Piece → List Sums
all_sums pieces = map sums_of (filter_map round_of pieces)

-- what is summed up of rounds: the hp is that of the homes of the last one
abbrev pub totals_of : List Sums → Totals
totals_of sums = record {
  rounds = length sums;
  did = sum_by (λ s. s.did) sums;
  shown = sum_by (λ s. s.shown) sums;
  hp = fold (λ earlier s. s.hp) (pos 0) sums;
}

-- the summary of so many lines
abbrev pub totals_text : (n : ℕ) → Totals → List ℕ
totals_text n t =
    codes "storm" ++ field n ++ codes " rounds" ++ field t.rounds ++ codes " did" ++ field t.did ++ codes " shown" ++ field t.shown
    ++ codes " hp " ++ text_of (Number t.hp) ++ 10 ∷ []

abbrev pub summary_text : (n : ℕ) → List Piece → List ℕ
summary_text n pieces = totals_text n (totals_of (all_sums pieces))

-- the line asks neither for a tick nor for a balance
abbrev pub AsksForNeither : Line → Type 0
AsksForNeither line = ¬ (Spells line Tick) × ¬ (Spells line Balance)
