use Rattle.std.proofs.Common.{◌≡◌, ◌++◌, ℕ, ◌<◌, get_or, map}
use Rattle.seam_rule_rounds.specs.Prelude.{Create, one_look, replica_of, texts_to, base_texts}
use Rattle.seam_call.specs.declared.shown.ClientText.TheVariants as text
use Rattle.seam_judge_data.specs.Standings.{standing_of}
use Rattle.seam_judge_rounds.proofs.looked.are_shown_one_look.Given as goal

abbrev pub invariant-loop-create : goal.invariant-loop-create
invariant-loop-create l =
    (k : ℕ) (d : Create) → k < l.create-index →
    texts_to l.case.round.now (get_or l.clients k d).entity ≡ base_texts l.case.round.now (get_or l.clients k d).entity
    ++ map text.Shown (one_look (replica_of l.case.header.now (standing_of l.case.before.now) (get_or l.clients k d).entity)
    (get_or l.clients k d).entity l.rows)
