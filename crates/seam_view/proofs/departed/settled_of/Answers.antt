use Rattle.std.proofs.Common.{ap, map, ◌∙◌}
use Rattle.std.specs.List.{zip}
use Rattle.std.specs.Map.{keys_of}
use Rattle.std.proofs.lemmas.List.{take_all}
use Rattle.seam_view.proofs.Placing.{zipped}
use Rattle.seam_view.proofs.departed.settled_of.Goals as goal

pub returns-clause-pairs : goal.returns-clause-pairs
returns-clause-pairs c =
    let ps = c.args.pairs.now in
    let all = take_all c.loop-e.e-index ps c.loop-e-test.false in
    (λ j. zip ((c.loop-e.invariant.entities ∙ ap keys_of all) j) ((c.loop-e.invariant.versions ∙ ap (map (λ p. p.1)) all) j)) ∙ zipped ps
