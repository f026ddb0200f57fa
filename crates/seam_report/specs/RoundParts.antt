-- Parts of the text of a round.
use Rattle.std.specs.Prelude.{ℕ, List, ◌++◌, codes}
use Rattle.std.specs.List.{flat_map}
use Rattle.seam_rule_rounds.specs.Prelude.{TypeDef, number_text, done_text, home_text, base_text, RoundData, ghost_text, client_text}
use Rattle.seam_rule_rounds.specs.Prelude.{bounds_text}

-- all lines but the first
abbrev pub lines_text : List TypeDef → RoundData → List ℕ
lines_text defs r =
    flat_map (done_text (codes "did ") defs) r.did ++ flat_map (done_text (codes "dob ") defs) r.dob ++ flat_map (home_text defs) r.homes
    ++ flat_map (base_text defs) r.bases ++ flat_map ghost_text r.ghosts ++ flat_map (client_text defs) r.shown ++ bounds_text r.bounds
    ++ number_text (codes "end ") r.number
