use Rattle.std.proofs.Common.{ap}
use Rattle.seam_rule_rounds.specs.Prelude.{lines_of, text_of_storm, totals_of, totals_text}
use Rattle.seam_rule_rounds.proofs.Inputs.{sums_are_one}
use Rattle.seam_rule_rounds.proofs.Storm.{sender_of, storm_is_fine}
use Rattle.seam_rule_rounds.proofs.summaries.storm_has_one_summary.Goals as goal

pub returns : goal.returns
returns c = λ n h k ps qs x y.
    let fine = storm_is_fine n in
    ap (λ sums. totals_text n (totals_of sums))
    (sums_are_one sender_of (lines_of (text_of_storm n)) h k ps qs (λ i d within. (fine i d within).0) (λ i d within. (fine i d within).1) x
    y)
