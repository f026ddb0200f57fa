use Rattle.std.proofs.Common.{◌<◌, sym, arith, eq-eqb, eqb-true}
use Rattle.std.proofs.lemmas.Bool.{le-leb}
use Rattle.seam_tree.proofs.Sets.{marked_small, below_by_shifted, shifted_by_below}
use Rattle.seam_tree.proofs.cell_set.CellSet.are_below.Goals as goal

pub returns-then-count-ge16-clause-small : goal.returns-then-count-ge16-clause-small
returns-then-count-ge16-clause-small c = rw (sym c.self.view_is) (marked_small c.self.inside.digits c.self.invariant)

pub returns-then-count-ge16-clause-below : goal.returns-then-count-ge16-clause-below
returns-then-count-ge16-clause-below c = (
  λ _ k there.
      let small : k < 16 = returns-then-count-ge16-clause-small c k there in
      omega (arith, small, c.if-count-ge16.true),
  λ _. le-leb 16 c.args.count c.if-count-ge16.true,
)

pub returns-else-count-ge16-clause-below : goal.returns-else-count-ge16-clause-below
returns-else-count-ge16-clause-below c =
    let digits = c.self.inside.digits in
    rw (sym c.self.view_is) (
      λ none. below_by_shifted digits c.self.invariant c.args.count (eqb-true _ 0 none),
      λ below. eq-eqb _ 0 (shifted_by_below digits c.self.invariant c.args.count below),
    )

pub returns-else-count-ge16-clause-small : goal.returns-else-count-ge16-clause-small
returns-else-count-ge16-clause-small c = rw (sym c.self.view_is) (marked_small c.self.inside.digits c.self.invariant)
