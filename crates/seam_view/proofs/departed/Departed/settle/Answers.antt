use Rattle.std.proofs.Common.{ap, sym, ◌∙◌, ◌++◌, eqb}
use Rattle.std.specs.Map.{keys_of, lookup}
use Rattle.std.specs.Option.{option_or}
use Rattle.seam_view.specs.Departed.{pairs_of}
use Rattle.seam_view.proofs.Shown.{sought}
use Rattle.seam_view.proofs.Leaving.{rising_from_sort}
use Rattle.seam_view.proofs.departed.Departed.settle.Goals as goal

pub merged-requires-clause-rising : goal.merged-requires-clause-rising
merged-requires-clause-rising c =
    rising_from_sort (keys_of c.sort_unstable_keys.new.self.entries) c.in_ok-sort_unstable_keys.ensures.sorted
    c.sort_unstable_keys.ensures.unique

pub returns-in_err-settled : goal.returns-in_err-settled
returns-in_err-settled c =
    let es = c.self.inside.latest.entries in
    let fs = c.sort_unstable_keys.new.self.entries in
    let ls = pairs_of c.self.inside.settled in
    record {
      same = λ q.
          sought q fs ls
          ∙ (ap (λ o. option_or o (lookup (eqb q) ls)) (c.sort_unstable_keys.ensures.reordered.2 q)
          ∙ (sym (sought q es ls) ∙ ap (λ v. lookup (eqb q) v.entries) c.self.view_is));
    }

pub returns : goal.returns
returns c =
    let es = c.self.inside.latest.entries in
    let fs = c.sort_unstable_keys.new.self.entries in
    let ls = pairs_of c.self.inside.settled in
    record {
      same = λ q.
          ap (λ l. lookup (eqb q) (l ++ pairs_of c.in_ok-settled.settled)) c.with_hasher-latest.ensures.empty
          ∙ (c.in_ok-settled.ensures.same q
          ∙ (sought q fs ls
          ∙ (ap (λ o. option_or o (lookup (eqb q) ls)) (c.sort_unstable_keys.ensures.reordered.2 q)
          ∙ (sym (sought q es ls) ∙ ap (λ v. lookup (eqb q) v.entries) c.self.view_is))));
    }
