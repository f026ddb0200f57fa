-- Lines that come in parts.
use Rattle.std.proofs.Common.{◌≡◌, List, ◌++◌, ap, ◌∙◌}
use Rattle.std.proofs.lemmas.List.Elements.{filter_map-append}
use Rattle.std.proofs.lemmas.List.Sums.{fold-append}
use Rattle.seam_call.specs.declared.shown.Line.{Line}
use Rattle.seam_rule_clients.specs.Clients.{ClientReplica, after_shown, after_all_shown, shown_by, shown_by_lines, after_lines}

pub lines_in_parts : (c : ClientReplica) (lines more : List Line) → after_lines c (lines ++ more) ≡ after_lines (after_lines c lines) more
lines_in_parts c lines more =
    ap (after_all_shown c) (filter_map-append (λ l. shown_by l.text) lines more)
    ∙ fold-append after_shown c (shown_by_lines lines) (shown_by_lines more)
