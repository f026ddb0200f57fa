-- A round of one entity, and what its text does not show.
use Rattle.std.specs.Prelude.{ℕ, List, [], ◌∷◌, codes, None}
use Rattle.seam_defs.specs.declared.types.TypeDef.{TypeDef}
use Rattle.seam_rule_lines.specs.Book.{Book, one_cell}
use Rattle.seam_rule_lines.specs.declared.verdict.Entry.TheVariants.{Created}
use Rattle.seam_rule_lines.specs.Round.{HomeLine}
use Rattle.seam_rule_rounds.specs.Lines.{RoundData}

-- a type without properties and methods
abbrev pub stone : TypeDef
stone = record { name = codes "Stone"; properties = []; methods = [] }

abbrev pub one_type : List TypeDef
one_type = stone ∷ []

-- an entity of it was created
abbrev pub one_stone : Book
one_stone = record {
  past = [];
  tree = one_cell 1000;
  current = Created (record { entity = 1; ty = 0; pos = record { x = 5; z = 6 } }) ∷ [];
}

-- the entity's line, as one of a type of this number
abbrev pub home_of : (ty : ℕ) → HomeLine
home_of ty = record { entity = 1; ty = ty; cell = 0; version = 0; state = record { pos = record { x = 5; z = 6 }; props = [] } }

-- a round that shows the entity so
abbrev pub round_of : (ty : ℕ) → RoundData
round_of ty = record {
  number = 1;
  did = [];
  dob = [];
  homes = home_of ty ∷ [];
  bases = [];
  ghosts = [];
  shown = [];
  bounds = None;
}
