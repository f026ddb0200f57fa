use Rattle.std.proofs.Common.{◌∙◌, ap, ◌||◌, Bool, ℕ}
use Rattle.std.specs.Ordering.{nat_cmp}
use Rattle.std.specs.BTreeSet as set
use Rattle.seam_rule_rounds.specs.Prelude.{Entry, destroys}
use Rattle.seam_judge_rounds.proofs.Members.{any_more}
use Rattle.seam_judge_rounds.proofs.numbers.died_in.Goals as goal

pub loop-entry-preserved : goal.loop-entry-preserved
loop-entry-preserved c = λ (e : ℕ).
    let was : Bool = set.contains nat_cmp c.loop-entry.found e in
    any_more (destroys e) c.args.entries.now c.loop-entry.entry-index c.entry-item.result c.loop-entry-test.true was
    (set.contains nat_cmp c.add_died.new.found e) (c.loop-entry.invariant e)
    (c.in_ok-add_died.ensures e ∙ ap (λ (x : Entry). was || destroys e x) c.entry-item.is)
