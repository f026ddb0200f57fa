use Rattle.std.proofs.Common.{◌≡◌, true, false, sym, ◌∙◌}
use Rattle.seam_cell_parts.proofs.SettleLemmas.{equal_test}
use Rattle.seam_cell_parts.proofs.settle.brought_by.Goals as goal

pub returns-then-t : goal.returns-then-t
returns-then-t c goes =
    let no : true ≡ false = sym (equal_test c.args.t.now.home c.args.t.now.me c.if-t.true) ∙ goes in
    absurd cc
