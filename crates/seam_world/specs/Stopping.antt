-- How what was asked for has ended but for the fault line: no clause of a public call cites it.
use Rattle.std.specs.Prelude.{◌≡◌, ℕ, List}
use Rattle.seam_rule_rounds.specs.Prelude.{SourceState, SinkState, Told}
use Rattle.seam_rule_rounds.specs.declared.totals.Totals.{Totals}
use Rattle.seam_args.specs.declared.TheConstants.{USAGE_TEXT, VERSION_TEXT}
use Rattle.seam_world_ends.specs.Printing.{StopsBy}
use Rattle.seam_world_ends.specs.declared.status.Status.{Status}
use Rattle.seam_world_ends.specs.declared.status.Status.TheVariants as status
use Rattle.seam_world_rounds.specs.Output.{text_output}
use Rattle.seam_world_rounds.specs.Histories.{Stopped}
use Rattle.seam_world_rounds.specs.Storm.{StormStopped}
use Rattle.seam_world.specs.Requests.{Request, Usage, Version, Storm, Script, Nothing}

-- a text was written, or a proper prefix of it, and nothing else was done
abbrev pub StopsShown : List ℕ → Status → SourceState → SourceState → SinkState → SinkState → Told → Told → Type 0
StopsShown shown ended before after old mid told told' =
    (after ≡ before) × (told' ≡ told) × StopsBy status.Done old mid shown ended

abbrev pub StopsAs : Request → Status → SourceState → SourceState → SinkState → SinkState → Told → Told → Type 0
StopsAs Usage = StopsShown USAGE_TEXT.now
StopsAs Version = StopsShown VERSION_TEXT.now
StopsAs (Storm lines) = λ ended before after old mid told told'. (after ≡ before) × StormStopped lines ended old mid told told'
StopsAs (Script traced) = λ ended before after old mid told told'.
    (totals : Totals) × Stopped (text_output traced) totals ended before after old mid told told'
StopsAs Nothing = λ ended before after old mid told told'. ⊥

-- the text that is asked for
abbrev pub IsTextFor : Request → List ℕ → Type 0
IsTextFor Usage text = text ≡ USAGE_TEXT.now
IsTextFor Version text = text ≡ VERSION_TEXT.now
IsTextFor other text = ⊥
