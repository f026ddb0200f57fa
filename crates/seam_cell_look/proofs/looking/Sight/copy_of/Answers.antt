use Rattle.std.proofs.Common.{Some, sym, ap, subst, ◌∙◌}
use Rattle.seam_node_steps.specs.Cells.{CellView}
use Rattle.seam_cell_parts.specs.Kept.{here_in}
use Rattle.seam_cell_look.specs.Looking.{seeing}
use Rattle.seam_cell_seen.specs.Known.{known_with}
use Rattle.seam_cell_told.specs.Told.{AreAsKnownBut}
use Rattle.seam_cell_look.proofs.LookLemmas.{self_unknown, known_here}
use Rattle.seam_cell_told.proofs.ToldAgain.{still_told}
use Rattle.seam_cell_look.proofs.looking.Sight.copy_of.Goals as goal

pub returns-then-e-self-clause-copy : goal.returns-then-e-self-clause-copy
returns-then-e-self-clause-copy c = λ k.
    let d : CellView = seeing k (here_in c.args.self.now.known.now) c.args.self.now.reals.now.items c.args.self.now.copies.now.ghosts in
    self_unknown d c.args.self.now.own c.args.e c.if-e-self.true

pub returns-in-Some-clause-copy : goal.returns-in-Some-clause-copy
returns-in-Some-clause-copy c = λ k.
    let d : CellView = seeing k (here_in c.args.self.now.known.now) c.args.self.now.reals.now.items c.args.self.now.copies.now.ghosts in
    sym (c.requires.told c.args.e c.in-Some.copy c.if-e-self.false (sym c.in_ok-copy.ensures.copy ∙ c.in-Some.is))
    ∙ sym (known_here d c.args.self.now.own c.args.e c.if-e-self.false)

pub returns-in_default-2-clause-copy : goal.returns-in_default-2-clause-copy
returns-in_default-2-clause-copy c = λ k.
    let d : CellView = seeing k (here_in c.args.self.now.known.now) c.args.self.now.reals.now.items c.args.self.now.copies.now.ghosts in
    sym c.in_default-2.is ∙ (c.in_ok-copy-2.ensures ∙ sym (known_here d c.args.self.now.own c.args.e c.if-e-self.false))

pub returns-clause-copy : goal.returns-clause-copy
returns-clause-copy c = λ k.
    let d : CellView = seeing k (here_in c.args.self.now.known.now) c.args.self.now.reals.now.items c.args.self.now.copies.now.ghosts in
    ap Some c.in_ok-copy-3.ensures
    ∙ (sym c.in-Some-2.is ∙ (c.in_ok-copy-2.ensures ∙ sym (known_here d c.args.self.now.own c.args.e c.if-e-self.false)))

pub returns-clause-told : goal.returns-clause-told
returns-clause-told c =
    let own = c.args.self.now.own in
    let known = known_with (here_in c.args.self.now.known.now) c.args.self.now.reals.now.items c.args.self.now.copies.now.ghosts in
    let same = c.copy_of.ensures.same in
    still_told own known c.args.told.now c.copy_of.new.self c.keep.new.self same
    (c.keep.ensures.told own known c.if-e-self.false (sym c.in_ok-copy-2.ensures ∙ (c.in-Some-2.is ∙ ap Some (sym c.in_ok-copy-3.ensures)))
    (subst (AreAsKnownBut own known) (sym same) c.requires.told))

pub returns-in_err-keep-clause-told : goal.returns-in_err-keep-clause-told
returns-in_err-keep-clause-told c =
    let own = c.args.self.now.own in
    let known = known_with (here_in c.args.self.now.known.now) c.args.self.now.reals.now.items c.args.self.now.copies.now.ghosts in
    let same = c.copy_of.ensures.same in
    still_told own known c.args.told.now c.copy_of.new.self c.keep.new.self same
    (c.keep.ensures.told own known c.if-e-self.false (sym c.in_ok-copy-2.ensures ∙ (c.in-Some-2.is ∙ ap Some (sym c.in_ok-copy-3.ensures)))
    (subst (AreAsKnownBut own known) (sym same) c.requires.told))
