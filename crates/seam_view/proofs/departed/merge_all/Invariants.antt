use Rattle.std.proofs.Common.{◌≡◌, ◌<◌, ◌-◌, ◌++◌, ℕ, eqb, get_or, length, take}
use Rattle.std.specs.List.{zip}
use Rattle.std.specs.Map.{keys_of, lookup}
use Rattle.seam_view.specs.Departed.{pairs_of, entities_in, versions_in, IsMerging}
use Rattle.seam_view.proofs.departed.merge_all.Given as goal

abbrev pub invariant-loop-i : goal.invariant-loop-i
invariant-loop-i l = record {
  merging : IsMerging l.settled l.merging;
  last : l.i < length l.latest.entries → 0 < length l.merging.made.entities.items →
      get_or l.merging.made.entities.items (length l.merging.made.entities.items - 1) 0 < get_or (keys_of l.latest.entries) l.i 0;
  found : (q : ℕ) → lookup (eqb q) (zip (entities_in l.settled l.merging) (versions_in l.settled l.merging))
      ≡ lookup (eqb q) (take l.i l.latest.entries ++ pairs_of l.settled);
}
