use Rattle.std.proofs.Common.{◌≡◌, ◌-◌, ℕ, List, set, get_or, length, take, ◌∙◌, ap, subst, arith}
use Rattle.std.specs.Option.{IfSome, IfNone}
use Rattle.std.proofs.lemmas.Option.{IfSome_then}
use Rattle.seam_tree.specs.declared.cut.Cut.{Cut}
use Rattle.seam_tree.specs.Division.{Division, IsTree, SomeEmpty, NoneEmpty, no_cut}
use Rattle.seam_tree.specs.Change.{cut_moved, with_place}
use Rattle.seam_tree.specs.Table.{area_table}
use Rattle.seam_tree.proofs.Padded.{holds_with_place}
use Rattle.seam_tree.proofs.Areas.{ProperAfter}
use Rattle.seam_tree.proofs.Changes.{with_place_tree}
use Rattle.seam_tree.proofs.Filled.{some_empty_unless_given}
use Rattle.seam_tree.proofs.tree.Tree.areas_with.Goals as goal

-- the division whose cuts the table was made of
abbrev planned : goal.After-areas_after → Division
planned c = record {
  size = c.self.inside.size;
  cuts = take c.from-2.result
      (set c.self.inside.cuts (c.from.result - 1) (cut_moved (get_or c.self.inside.cuts (c.from.result - 1) no_cut) c.args.at));
}

planned_is : (c : goal.After-areas_after) → planned c ≡ with_place c.args.self.now c.args.b c.args.at
planned_is c =
    let moved : List Cut =
    set c.self.inside.cuts (c.from.result - 1) (cut_moved (get_or c.self.inside.cuts (c.from.result - 1) no_cut) c.args.at) in
    let after =
    holds_with_place c.self.inside.size c.self.inside.count c.self.inside.cuts c.args.self.now (c.from.result - 1) c.args.b c.args.at
    (record { most = c.self.invariant.0; table = c.self.invariant.1; view = c.self.view_is }) (ap (λ (n : ℕ). n - 1) c.from.ensures)
    c.requires in
    let plan : ℕ → Division = λ n. record { size = c.self.inside.size; cuts = take n moved } in
    ap plan c.from-2.ensures ∙ after.view

pub returns-clause-areas : goal.returns-clause-areas
returns-clause-areas c =
    subst (λ (u : Division). IfSome c.areas_after.result (λ areas. areas ≡ area_table u)) (planned_is c) c.areas_after.ensures.areas

proper_planned : (c : goal.After-areas_after)
    → IfSome c.areas_after.result (λ areas. NoneEmpty (with_place c.args.self.now c.args.b c.args.at))
proper_planned c =
    let proper : IfSome c.areas_after.result (λ areas. ProperAfter (planned c) (length (planned c).cuts)) =
    c.areas_after.ensures.proper in
    subst (λ (u : Division). IfSome c.areas_after.result (λ areas. NoneEmpty u)) (planned_is c)
    (IfSome_then c.areas_after.result proper (λ areas after k within. after k (omega arith)))

pub returns-clause-proper : goal.returns-clause-proper
returns-clause-proper c = proper_planned c

pub returns-clause-tree : goal.returns-clause-tree
returns-clause-tree c =
    IfSome_then c.areas_after.result (proper_planned c)
    (λ areas. with_place_tree c.args.self.now c.args.b c.args.at (subst IsTree c.self.view_is c.self.invariant.2))

pub returns-clause-empty : goal.returns-clause-empty
returns-clause-empty c =
    subst (λ (u : Division). IfNone c.areas_after.result (SomeEmpty u)) (planned_is c)
    (some_empty_unless_given (planned c) c.areas_after.result c.areas_after.ensures.empty)
