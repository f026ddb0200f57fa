-- Lists of values some of which are left out.
use Rattle.std.specs.Prelude.{ℕ, ◌/◌, ◌%◌, ◌==◌, if◌then◌else◌, List, [], ◌∷◌}
use Rattle.seam_value.specs.declared.values.Value.{Value}

-- the values that are kept: a binary digit 1 leaves a value out, and the lowest digit is the first value's
abbrev pub kept : ℕ → List Value → List Value
kept left_out [] = []
kept left_out (v ∷ values) = if left_out % 2 == 1 then kept (left_out / 2) values else v ∷ kept (left_out / 2) values
