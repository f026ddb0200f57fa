use Rattle.std.proofs.Common.{◌≡◌, take, map}
use Rattle.seam_judge_data.specs.Standings.{standing_of}
use Rattle.seam_judge_plain.proofs.Lists.{held_of}
use Rattle.seam_judge_plain.proofs.places.places_of.Given as goal

abbrev pub invariant-loop-create : goal.invariant-loop-create
invariant-loop-create l =
    l.places.items ≡ map (held_of l.header (standing_of l.before) (standing_of l.after).orders) (take l.create-index l.live)
