-- What is summed up of pieces.
use Rattle.std.proofs.Common.{◌≡◌, List, ◌++◌, map, ap, ◌∙◌}
use Rattle.std.specs.Prelude.{filter_map}
use Rattle.std.proofs.lemmas.List.Elements.{filter_map-append}
use Rattle.std.proofs.lemmas.List.{map-append}
use Rattle.seam_rule_rounds.specs.Transcript.{Piece}
use Rattle.seam_rule_rounds.specs.Summary.{sums_of, round_of, all_sums}

-- of pieces and others after them
pub sums_of_append : (ps qs : List Piece) → all_sums (ps ++ qs) ≡ all_sums ps ++ all_sums qs
sums_of_append ps qs = ap (map sums_of) (filter_map-append round_of ps qs)
    ∙ map-append sums_of (filter_map round_of ps) (filter_map round_of qs)
