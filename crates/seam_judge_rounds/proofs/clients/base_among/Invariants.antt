use Rattle.std.proofs.Common.{◌≡◌, take}
use Rattle.std.specs.Prelude.{filter}
use Rattle.seam_rule_rounds.specs.ClientLines.{is_base}
use Rattle.seam_judge_rounds.proofs.clients.base_among.Given as goal

abbrev pub invariant-loop-text : goal.invariant-loop-text
invariant-loop-text l = l.bases.items ≡ filter is_base (take l.text-index l.texts)
