use Rattle.std.proofs.Common.{◌∙◌, ap, sym, ◌||◌, Bool, ℕ}
use Rattle.std.specs.Ordering.{nat_cmp}
use Rattle.std.specs.BTreeSet as set
use Rattle.seam_rule_rounds.specs.Prelude.{Entry, joins}
use Rattle.seam_judge_rounds.proofs.Members.{one_more, none_more, not_joins}
use Rattle.seam_judge_rounds.proofs.numbers.add_joined.Goals as goal

pub returns-in_ok-insert-in-Joined : goal.returns-in_ok-insert-in-Joined
returns-in_ok-insert-in-Joined c = λ (e : ℕ).
    let was : Bool = set.contains nat_cmp c.args.found.now e in
    one_more c.in-Joined.entity e was (set.contains nat_cmp c.insert.new.self e) (c.in_ok-insert-in-Joined.ensures.updates.0 e)
    ∙ ap (λ (x : Entry). was || joins e x) (sym c.in-Joined.is)

pub returns-in_default : goal.returns-in_default
returns-in_default c = λ (e : ℕ).
    none_more (set.contains nat_cmp c.args.found.now e) (joins e c.args.entry.now)
    (not_joins e c.args.entry.now c.in_default.not-Joined)
