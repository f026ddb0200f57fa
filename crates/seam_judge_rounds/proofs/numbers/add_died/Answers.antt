use Rattle.std.proofs.Common.{◌∙◌, ap, sym, ◌||◌, Bool, ℕ}
use Rattle.std.specs.Ordering.{nat_cmp}
use Rattle.std.specs.BTreeSet as set
use Rattle.seam_rule_rounds.specs.Prelude.{Entry, destroys}
use Rattle.seam_judge_rounds.proofs.Members.{one_more, none_more, not_destroys}
use Rattle.seam_judge_rounds.proofs.numbers.add_died.Goals as goal

pub returns-in_ok-insert-in-Destroyed : goal.returns-in_ok-insert-in-Destroyed
returns-in_ok-insert-in-Destroyed c = λ (e : ℕ).
    let was : Bool = set.contains nat_cmp c.args.found.now e in
    one_more c.in-Destroyed.entity e was (set.contains nat_cmp c.insert.new.self e) (c.in_ok-insert-in-Destroyed.ensures.updates.0 e)
    ∙ ap (λ (x : Entry). was || destroys e x) (sym c.in-Destroyed.is)

pub returns-in_default : goal.returns-in_default
returns-in_default c = λ (e : ℕ).
    none_more (set.contains nat_cmp c.args.found.now e) (destroys e c.args.entry.now)
    (not_destroys e c.args.entry.now c.in_default.not-Destroyed)
