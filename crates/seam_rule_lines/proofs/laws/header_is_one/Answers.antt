use Rattle.seam_rule_lines.proofs.HeaderLemmas.{header_of_append, header_is_one}
use Rattle.seam_toml.proofs.HeaderLaws.{reads_defs}
use Rattle.seam_rule_lines.proofs.laws.header_is_one.Goals as goal

pub returns : goal.returns
returns c = record {
  one = λ lines rest more h k m n x y. header_is_one lines h k m n rest more x y;
  stays = λ lines rest more h count begins. header_of_append lines h count rest more begins;
  defs = reads_defs;
}
