-- What a source of the generated input keeps.
use Rattle.std.specs.Prelude.{ℕ, ◌+◌, ◌<◌, ◌≤◌, ◌^◌, List, ◌++◌, length, drop}
use Rattle.seam_storm.specs.Storm.{lines_text}
use Rattle.seam_storm.specs.declared.lines.Lines.{Lines}

-- what is left of the line that was made last, and of the lines after it
abbrev pub rest_of : Lines → List ℕ
rest_of s = drop s.at s.line.items ++ lines_text s.left s.number s.seed

-- a place in the line, and numbers that a u64 has
pub record IsLines (s : Lines) : Type 0 where
  pub within : s.at ≤ length s.line.items
  pub few : s.number + s.left < 2 ^ 33
