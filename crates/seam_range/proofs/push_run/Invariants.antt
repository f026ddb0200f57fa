use Rattle.std.proofs.Common.{◌≡◌, ◌++◌}
use Rattle.seam_range.specs.Found.{hits_of, run_of}
use Rattle.seam_range.proofs.push_run.Given as goal

abbrev pub invariant-loop-keys : goal.invariant-loop-keys
invariant-loop-keys l =
    goal.iterator-loop-keys.can_next l.keys-iterator ×
    goal.iterator-loop-keys.is_finite l.keys-iterator ×
    (l.found.items ++ hits_of l.search.p l.search.d l.spots l.keys-iterator
    ≡ l.initial.found.items ++ hits_of l.search.p l.search.d l.spots (run_of l.strip l.search.p l.search.d l.buckets.entries))
