-- What a round prints, as data.
use Rattle.std.specs.Prelude.{ℕ, List, filter, map, Option, ◌==◌}
use Rattle.seam_tree.specs.Division.{Division}
use Rattle.seam_call.specs.declared.shown.Line.{Line}
use Rattle.seam_rule_lines.specs.Round.{DoneLine, HomeLine, BaseLine}

-- a ghost of an entity in a cell, at the entity's public version
pub record GhostLine : Type 0 where
  pub entity : ℕ
  pub cell : ℕ
  pub version : ℕ

-- a line that the client of an entity of a type is shown
pub record ClientLine : Type 0 where
  pub entity : ℕ
  pub ty : ℕ
  pub line : Line

-- a round: its number, its lines of each kind, and the tree where its boundaries were balanced
pub record RoundData : Type 0 where
  pub number : ℕ
  pub did : List DoneLine
  pub dob : List DoneLine
  pub homes : List HomeLine
  pub bases : List BaseLine
  pub ghosts : List GhostLine
  pub shown : List ClientLine
  pub bounds : Option Division

-- the lines of an entity's client
abbrev pub lines_to : RoundData → ℕ → List ClientLine
lines_to r e = filter (λ l. l.entity == e) r.shown

abbrev pub told_in : RoundData → ℕ → List Line
told_in r e = map (λ l. l.line) (lines_to r e)
