use Rattle.std.proofs.Common.{refl, arith}
use Rattle.std.proofs.lemmas.Grind.{common_steps}
use Rattle.seam_rule_lines.proofs.SkipLemmas.{first_decides}
use Rattle.seam_accept.proofs.command.is_skipped.Goals as goal

pub returns-then-byte-ne9 : goal.returns-then-byte-ne9
returns-then-byte-ne9 c =
    first_decides c.args.line.now c.loop-byte.byte-index (omega arith) c.loop-byte.invariant (grind (arith, common_steps)) _ refl
