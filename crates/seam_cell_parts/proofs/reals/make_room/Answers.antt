use Rattle.std.proofs.Common.{ap, ◌∙◌}
use Rattle.seam_node_steps.specs.Cells.{without}
use Rattle.seam_cell_parts.proofs.RealLemmas.{same_kept, mark_undone}
use Rattle.seam_cell_parts.proofs.reals.make_room.Goals as goal

pub returns-in-Err-clause-err_kept : goal.returns-in-Err-clause-err_kept
returns-in-Err-clause-err_kept c =
    same_kept c.args.reals.now
    (record { items = c.reserve.new.self; ready = c.remove.new.self; witnesses = c.insert-then-has_witness.new.self }) c.requires.kept
    c.reserve.ensures.same
    (c.remove.ensures
    ∙ (ap (without c.args.e) c.in_ok-insert.ensures.ok ∙ mark_undone c.args.reals.now c.args.e c.requires.kept c.requires.gone))
    c.in-Err.ensures.err
