use Rattle.seam_law_calls.proofs.Counting.{counted_one, one_counts, counted_none, none_counts}
use Rattle.seam_law_calls.proofs.ones.holders_are_at_one_place.Goals as goal

pub returns-clause-one : goal.returns-clause-one
returns-clause-one c = counted_one

pub returns-clause-counts : goal.returns-clause-counts
returns-clause-counts c = one_counts

pub returns-clause-none : goal.returns-clause-none
returns-clause-none c = counted_none

pub returns-clause-nobody : goal.returns-clause-nobody
returns-clause-nobody c = none_counts
