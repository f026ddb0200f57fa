use Rattle.std.proofs.Common.{◌≡◌, take}
use Rattle.std.specs.List.{flat_map}
use Rattle.seam_judge_data.specs.Standings.{standing_of}
use Rattle.seam_judge_plain.specs.Plain.{lines_of}
use Rattle.seam_judge_plain.proofs.clients.lines_of.Given as goal

abbrev pub invariant-loop-create : goal.invariant-loop-create
invariant-loop-create l =
    l.lines.items
    ≡ flat_map (lines_of l.turn.header.now (standing_of l.turn.before.now) (standing_of l.turn.after.now) l.rows)
    (take l.create-index l.clients)
