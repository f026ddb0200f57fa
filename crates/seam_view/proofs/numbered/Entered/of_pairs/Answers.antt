use Rattle.std.proofs.Common.{◌≤◌, ◌∙◌, Bool, true, false, cond, eqb, get_or, ap, arith}
use Rattle.std.specs.List.{list_any}
use Rattle.seam_view.specs.Replica.{placed}
use Rattle.seam_view.proofs.EnterOrder.{placed_next}
use Rattle.seam_view.proofs.numbered.Entered.of_pairs.Goals as goal

at_most_one : (b : Bool) → cond b 0 1 ≤ 1
at_most_one true = omega arith
at_most_one false = omega arith

pub show-requires : goal.show-requires
show-requires c =
    let room = c.loop-e.invariant.room in
    let lt = c.loop-e-test.true in
    record { room = λ none. omega (arith, room, lt) }

pub loop-e-preserved : goal.loop-e-preserved
loop-e-preserved c =
    let pairs = c.args.pairs.now in
    let i = c.loop-e.e-index in
    let p = get_or pairs i (0, 0) in
    let room = c.loop-e.invariant.room in
    let used = c.show.ensures.room in
    let one = at_most_one (list_any (λ q. eqb p.0 q.0) c.loop-e.made.entries) in
    record {
      entries =
          c.show.ensures.entries
          ∙ (ap (placed p.0 p.1) c.loop-e.invariant.entries ∙ placed_next pairs i (0, 0) c.requires c.loop-e-test.true);
      room = omega (arith, room, used, one);
    }
