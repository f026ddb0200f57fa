use Rattle.std.proofs.Common.{◌≡◌, ◌≤◌, suc, ◌+◌, true, false, refl, ap, subst, ◌∙◌, arith, get_or}
use Rattle.seam_geo.specs.Rect.{Area, IsProper}
use Rattle.seam_tree.specs.declared.cut.Cut.{Cut}
use Rattle.seam_tree.specs.Boundary.{LeavesPartEmpty, RunsThrough, below, above}
use Rattle.seam_tree.specs.Division.{Division, area_after, cut_after, whole}
use Rattle.seam_tree.specs.Table.{table_after}
use Rattle.seam_tree.proofs.Filled.{empty_whole, empty_stays, empty_by_cut, filled_at, filled_step}
use Rattle.seam_tree.proofs.area_table.areas_after.Goals as goal

pub returns-in_err-whole-clause-empty : goal.returns-in_err-whole-clause-empty
returns-in_err-whole-clause-empty c =
    let t : Division = record { size = c.args.size; cuts = c.args.cuts.now } in
    let empty : IsProper (whole t) → ⊥ = λ p. let e : false ≡ true = c.in_err-whole.ensures.proper.1 p in absurd (cc) in
    rw c.from_residual.ensures (empty_stays t 0 c.args.made (omega arith) c.requires.there (empty_whole t empty))

pub returns-in_err-lower-clause-empty : goal.returns-in_err-lower-clause-empty
returns-in_err-lower-clause-empty c =
    let t : Division = record { size = c.args.size; cuts = c.args.cuts.now } in
    let cut : Cut = cut_after t c.loop-n.n in
    let there : cut.cell ≤ c.loop-n.n = c.requires.there c.loop-n.n (omega arith) in
    let read : get_or c.loop-n.areas c.from.result c.index-areas-from.result ≡ area_after t c.loop-n.n cut.cell =
    filled_at t c.loop-n.n c.loop-n.areas c.from.result cut.cell c.index-areas-from.result c.loop-n.invariant (omega arith) c.from.ensures
    there in
    let empty : LeavesPartEmpty cut.boundary (area_after t c.loop-n.n cut.cell) =
    subst (LeavesPartEmpty cut.boundary) read c.in_err-lower.ensures.empty in
    rw c.from_residual-in_err-lower.ensures
    (empty_stays t (suc c.loop-n.n) c.args.made (omega arith) c.requires.there (empty_by_cut t c.loop-n.n there empty))

pub loop-n-preserved : goal.loop-n-preserved
loop-n-preserved c =
    let t : Division = record { size = c.args.size; cuts = c.args.cuts.now } in
    let cut : Cut = cut_after t c.loop-n.n in
    let there : cut.cell ≤ c.loop-n.n = c.requires.there c.loop-n.n (omega arith) in
    let read : get_or c.loop-n.areas c.from.result c.index-areas-from.result ≡ area_after t c.loop-n.n cut.cell =
    filled_at t c.loop-n.n c.loop-n.areas c.from.result cut.cell c.index-areas-from.result c.loop-n.invariant (omega arith) c.from.ensures
    there in
    filled_step t c.loop-n.n c.loop-n.areas c.from-in-loop-n.result (c.loop-n.n + 1) c.in_ok-lower.lower c.in_ok-lower.upper
    c.loop-n.invariant (omega arith) there c.from-in-loop-n.ensures refl
    (subst (RunsThrough cut.boundary) read c.in_ok-lower.ensures.runs)
    (c.in_ok-lower.ensures.lower ∙ ap (λ (a : Area). below a cut.boundary) read)
    (c.in_ok-lower.ensures.upper ∙ ap (λ (a : Area). above a cut.boundary) read)

pub returns-clause-areas : goal.returns-clause-areas
returns-clause-areas c =
    let t : Division = record { size = c.args.size; cuts = c.args.cuts.now } in
    let all : c.loop-n.n ≡ c.args.made = omega arith in
    c.loop-n.invariant.table ∙ ap (table_after t) all
