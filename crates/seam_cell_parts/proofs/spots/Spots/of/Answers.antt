use Rattle.std.proofs.Common.{ℕ, Some, ap, ◌∙◌}
use Rattle.std.specs.Ordering.{nat_cmp}
use Rattle.std.specs.FinMap as map
use Rattle.std.proofs.lemmas.List.{take_all}
use Rattle.seam_range.specs.declared.Location.{Location}
use Rattle.seam_cell_parts.proofs.SpotLemmas.{listed_more, all_listed}
use Rattle.seam_cell_parts.proofs.spots.Spots.of.Goals as goal

pub loop-e-init : goal.loop-e-init
loop-e-init c = λ q. ap (λ l. map.get l q) c.new-list.ensures ∙ map.get-empty nat_cmp q

pub loop-e-preserved : goal.loop-e-preserved
loop-e-preserved c =
    let none : ℕ × Location = (0, record { version = 0; pos = record { x = 0; z = 0 } }) in
    listed_more c.args.locations.now c.loop-e.e-index none c.loop-e.list c.put.new.self c.requires c.loop-e-test.true
    c.in_ok-put.ensures.after
    c.loop-e.invariant

pub returns-clause-list : goal.returns-clause-list
returns-clause-list c =
    ap (λ l. Some l) (all_listed c.args.locations.now c.loop-e.list c.requires (λ q.
    c.loop-e.invariant q ∙ ap (map.find nat_cmp q) (take_all c.loop-e.e-index c.args.locations.now c.loop-e-test.false)))
