use Rattle.std.proofs.Common.{◌∙◌, refl, subst, List, ℕ}
use Rattle.seam_judge_looks.specs.Replicas.{IsNotAmong, IsIndexOf}
use Rattle.seam_judge_looks.proofs.Entries.{placed_last, placed_there}
use Rattle.seam_judge_looks.proofs.replica.place.Goals as goal

pub returns-in-Some : goal.returns-in-Some
returns-in-Some c =
    placed_there c.args.entity c.args.version c.args.entries.now.items c.in-Some.i
    (subst (λ (es : List (ℕ × ℕ)). IsIndexOf c.args.entity es c.in-Some.i) c.deref.ensures.value c.in-Some.ensures.some)

pub returns-in_ok-push-in-None : goal.returns-in_ok-push-in-None
returns-in_ok-push-in-None c =
    c.in_ok-push-in-None.ensures.items
    ∙ placed_last c.args.entity c.args.version c.args.entries.now.items
    (subst (λ (es : List (ℕ × ℕ)). IsNotAmong c.args.entity es) c.deref.ensures.value (c.in-None.ensures.none refl))
