use Rattle.std.proofs.Common.{Some, cond, ap, sym, subst, ◌∙◌, ◌++◌, eqb}
use Rattle.std.specs.Map.{lookup}
use Rattle.seam_view.specs.Departed.{pairs_of, AreApart}
use Rattle.seam_view.proofs.Leaving.{found_when_set, apart_when_set, found_when_put}
use Rattle.seam_view.proofs.departed.Departed.put.Goals as goal

pub invariant_of-self : goal.invariant_of-self
invariant_of-self c =
    let es = c.self.inside.latest.entries in
    let ls = pairs_of c.self.inside.settled in (
      c.set.ensures.settled,
      subst (AreApart es) (sym c.if-set.ensures.set)
          (apart_when_set es ls c.args.e c.args.version c.self.invariant.1 c.if-set.ensures.there),
    )

pub returns-then-set-clause-put : goal.returns-then-set-clause-put
returns-then-set-clause-put c q =
    let e = c.args.e in
    let es = c.self.inside.latest.entries in
    let ls = pairs_of c.self.inside.settled in
    ap (λ ps. lookup (eqb q) (es ++ ps)) c.if-set.ensures.set
    ∙ (found_when_set es ls e c.args.version c.self.invariant.1 c.if-set.ensures.there q
    ∙ ap (λ v. cond (eqb e q) (Some c.args.version) (lookup (eqb q) v.entries)) c.self.view_is)

pub returns-clause-put : goal.returns-clause-put
returns-clause-put c q =
    let e = c.args.e in
    let es = c.self.inside.latest.entries in
    let new = c.insert.new.self.entries in
    let ls = pairs_of c.self.inside.settled in
    ap (λ s. lookup (eqb q) (new ++ pairs_of s)) c.if-set.ensures.same
    ∙ (found_when_put es new ls e c.args.version c.self.invariant.1 c.if-set.ensures.none c.in-Ok.ensures.updates.0 q
    ∙ ap (λ v. cond (eqb e q) (Some c.args.version) (lookup (eqb q) v.entries)) c.self.view_is)
