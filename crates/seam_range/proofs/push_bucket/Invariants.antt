use Rattle.std.proofs.Common.{◌≡◌, ◌++◌, drop}
use Rattle.seam_range.specs.Found.{hits}
use Rattle.seam_range.proofs.push_bucket.Given as goal

abbrev pub invariant-loop-key : goal.invariant-loop-key
invariant-loop-key l =
    l.found.items ++ hits l.search.p l.search.d l.spots (drop l.key-index l.keys)
    ≡ l.initial.found.items ++ hits l.search.p l.search.d l.spots l.keys
