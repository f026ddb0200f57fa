use Rattle.std.proofs.Common.{◌≡◌, length}
use Rattle.seam_machine.specs.Sends.{first_target}
use Rattle.seam_machine.specs.Inside.{AreCounted, Delivers, Lowers}
use Rattle.seam_machine.proofs.links.deliver.Given as goal

abbrev pub invariant-loop-next : goal.invariant-loop-next
invariant-loop-next g l = record {
  delivered : Delivers l.fn.row l.fn.out.items l.fn.kept.busy.items l.row l.out.items l.kept.busy.items;
  lowered : Lowers l.sender l.fn.kept.starts.items l.kept.starts.items l.row;
  waiting : AreCounted l.kept.waiting.words l.kept.busy.items;
  next : l.next ≡ first_target l.out.items;
}

abbrev pub decreases-loop-next : goal.decreases-loop-next
decreases-loop-next g l = length l.out.items
