use Rattle.std.proofs.Common.{◌++◌, ◌∙◌, map, ℕ}
use Rattle.std.specs.Prelude.{filter}
use Rattle.std.specs.List.{range_with_len}
use Rattle.std.specs.FinSet as set
use Rattle.seam_tree.specs.Division.{cells_of}
use Rattle.seam_judge_expected.proofs.ListedLemmas.{on_ok}
use Rattle.seam_judge_expected.proofs.lines.push_ghosts_of.Goals as goal

pub returns : goal.returns
returns c =
    let place = c.place.view_is ∙ c.place_of-place.ensures in
    on_ok c.push_ghosts.result (λ is. is ∙ (λ i. c.args.ghosts.now.items
    ++ map (λ (x : ℕ). record { entity = c.args.create.entity; cell = x; version = c.in_ok-version.ensures i })
    (filter (λ (x : ℕ). set.contains (place i).ghosts x) (range_with_len 0 (cells_of c.args.tree.now))))) c.push_ghosts.ensures
