use Rattle.std.proofs.Common.{◌≡◌, ◌≤◌, subst, None, ◌↔◌, arith}
use Rattle.seam_rule_rounds.specs.Prelude.{MOST_CELLS, Division, cells_of, Standing, IsRound}
use Rattle.seam_judge_data.specs.Standings.{standing_of}
use Rattle.seam_judge_expected.proofs.ListedLemmas.{if_ok}
use Rattle.seam_judge_rounds.specs.Points.{Holds, IsFirstBroken, points}
use Rattle.seam_judge_rounds.proofs.AllPoints.{legal, never_left, right_number}
use Rattle.seam_judge_rounds.proofs.verdict.judge.Goals as goal

pub returns-clause-legal : goal.returns-clause-legal
returns-clause-legal c =
    let h = c.args.header.now in
    let s = standing_of c.args.before.now in
    let r = c.args.round.now in
    let t = standing_of c.in_ok-after.after in
    if_ok c.judge_case.result
    (λ o first.
    subst (λ (x : Standing). (o ≡ None) ↔ IsRound h s r x) c.in_ok-after.ensures
    (legal h s r t c.in_ok-live.live.items c.in_ok-live.ensures c.in_ok-after.ensures
    (c.is_numbered.ensures.0 (first_of (cc, grind arith))) o first))
    c.judge_case.ensures

pub returns-clause-first : goal.returns-clause-first
returns-clause-first c =
    let h = c.args.header.now in
    let s = standing_of c.args.before.now in
    let r = c.args.round.now in
    if_ok c.judge_case.result
    (λ o first.
    subst (λ (x : Standing). IsFirstBroken (Holds h s r x) points o) c.in_ok-after.ensures
    (right_number h s r (standing_of c.in_ok-after.after) o (c.is_numbered.ensures.0 (first_of (cc, grind arith))) first))
    c.judge_case.ensures

pub returns-clause-refused : goal.returns-clause-refused
returns-clause-refused c =
    let h = c.args.header.now in
    let s = standing_of c.args.before.now in
    let r = c.args.round.now in
    let few = subst (λ (t : Division). cells_of t ≤ MOST_CELLS) c.tree_in.ensures c.cells-cells.ensures.tree.cells_to in
    if_ok c.judge_case.result
    (λ o first p is made t.
    never_left h s r o
    (subst (λ (x : Standing). (o ≡ None) ↔ IsRound h s r x) c.in_ok-after.ensures
    (legal h s r (standing_of c.in_ok-after.after) c.in_ok-live.live.items c.in_ok-live.ensures c.in_ok-after.ensures
    (c.is_numbered.ensures.0 (first_of (cc, grind arith))) o first)) few p is made t)
    c.judge_case.ensures
