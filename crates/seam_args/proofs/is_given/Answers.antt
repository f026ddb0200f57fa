use Rattle.std.proofs.Common.{◌∙◌, sym, refl}
use Rattle.clap.specs.Words.{found_of}
use Rattle.seam_args.proofs.Numbers.{source_is_of_row, words_are_tested}
use Rattle.seam_args.proofs.is_given.Goals as goal

pub returns : goal.returns
returns c =
    let source = source_is_of_row (found_of c.args.matches.now) c.args.name.now ∙ sym c.value_source.ensures in
    let tested = words_are_tested _ refl refl c.value_source.result c.eq.result c.eq.ensures in
    (λ given. tested.0 (sym source ∙ given), λ yes. source ∙ tested.1 yes)
