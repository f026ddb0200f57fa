use Rattle.std.proofs.Common.{◌≡◌, ℕ, ◌-◌, ◌/◌, ◌<◌, sym, subst, arith}
use Rattle.seam_tree.specs.Division.{NoneEmpty, SomeEmpty}
use Rattle.seam_tree.specs.Change.{with_place}
use Rattle.seam_balance.proofs.Search.{IsSearched, search_begins, search_refuses, least_stepped, most_stepped, none_above, none_below}
use Rattle.seam_balance.proofs.allowed.farthest_allowed.Goals as goal

pub loop-farthest-init : goal.loop-farthest-init
loop-farthest-init c =
    search_begins c.args.tree.now c.args.b c.args.from c.args.end c.abs_diff-most.result c.requires.allowed c.abs_diff-most.ensures

pub stepped-requires : goal.stepped-requires
stepped-requires c = omega (arith, c.loop-farthest.invariant.within)

pub loop-farthest-preserved-then-is_allowed : goal.loop-farthest-preserved-then-is_allowed
loop-farthest-preserved-then-is_allowed c =
    let past : c.loop-farthest.farthest < c.loop-farthest.most = c.loop-farthest-test.true in
    record {
      range = omega arith;
      within = c.loop-farthest.invariant.within;
      allowed = subst (λ (at : ℕ). NoneEmpty (with_place c.args.tree.now c.args.b at)) c.stepped.ensures c.if-is_allowed.ensures;
      refused = c.loop-farthest.invariant.refused;
    }

pub loop-farthest-preserved : goal.loop-farthest-preserved
loop-farthest-preserved c =
    let middle : ℕ = c.loop-farthest.most - (c.loop-farthest.most - c.loop-farthest.farthest) / 2 in
    let past : c.loop-farthest.farthest < c.loop-farthest.most = c.loop-farthest-test.true in
    search_refuses c.args.tree.now c.args.b c.args.from c.args.end c.loop-farthest.farthest c.loop-farthest.most middle c.requires.tree
    c.requires.there c.loop-farthest.invariant (omega arith) (omega arith)
    (subst (λ (at : ℕ). SomeEmpty (with_place c.args.tree.now c.args.b at)) c.stepped.ensures c.if-is_allowed.ensures)

pub stepped-requires-2 : goal.stepped-requires-2
stepped-requires-2 c = omega (arith, c.loop-farthest.invariant.range, c.loop-farthest.invariant.within)

ended : (c : goal.After-stepped-2) → IsSearched c.args.tree.now c.args.b c.args.from c.args.end c.loop-farthest.farthest
    c.loop-farthest.farthest
ended c =
    let all : c.loop-farthest.most ≡ c.loop-farthest.farthest =
    omega (arith, c.loop-farthest.invariant.range, c.loop-farthest-test.false) in
    subst (IsSearched c.args.tree.now c.args.b c.args.from c.args.end c.loop-farthest.farthest) all c.loop-farthest.invariant

pub returns-clause-least : goal.returns-clause-least
returns-clause-least c = rw c.stepped-2.ensures (least_stepped c.args.from c.args.end c.loop-farthest.farthest (ended c).within)

pub returns-clause-most : goal.returns-clause-most
returns-clause-most c = rw c.stepped-2.ensures (most_stepped c.args.from c.args.end c.loop-farthest.farthest (ended c).within)

pub returns-clause-allowed : goal.returns-clause-allowed
returns-clause-allowed c =
    subst (λ (at : ℕ). NoneEmpty (with_place c.args.tree.now c.args.b at)) (sym c.stepped-2.ensures) (ended c).allowed

pub returns-clause-above : goal.returns-clause-above
returns-clause-above c =
    rw c.stepped-2.ensures (none_above c.args.tree.now c.args.b c.args.from c.args.end c.loop-farthest.farthest (ended c))

pub returns-clause-below : goal.returns-clause-below
returns-clause-below c =
    rw c.stepped-2.ensures (none_below c.args.tree.now c.args.b c.args.from c.args.end c.loop-farthest.farthest (ended c))
