use Rattle.std.proofs.Common.{◌∙◌, refl, subst, List, ℕ}
use Rattle.seam_judge_looks.specs.Replicas.{IsNotAmong, IsIndexOf}
use Rattle.seam_judge_looks.proofs.Entries.{without_none, without_there}
use Rattle.seam_judge_looks.proofs.replica.remove.Goals as goal

pub returns-in-Some : goal.returns-in-Some
returns-in-Some c =
    c.remove.ensures.items
    ∙ without_there c.args.entity c.args.entries.now.items c.in-Some.i
    (subst (λ (es : List (ℕ × ℕ)). IsIndexOf c.args.entity es c.in-Some.i) c.deref.ensures.value c.in-Some.ensures.some)

pub returns-in-None : goal.returns-in-None
returns-in-None c =
    without_none c.args.entity c.args.entries.now.items
    (subst (λ (es : List (ℕ × ℕ)). IsNotAmong c.args.entity es) c.deref.ensures.value (c.in-None.ensures.none refl))
