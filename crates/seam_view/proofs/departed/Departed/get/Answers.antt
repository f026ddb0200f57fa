use Rattle.std.proofs.Common.{ap, sym, ◌∙◌, eqb}
use Rattle.std.specs.Map.{lookup}
use Rattle.std.specs.Option.{option_or}
use Rattle.seam_view.specs.Departed.{pairs_of}
use Rattle.seam_view.proofs.Shown.{sought}
use Rattle.seam_view.proofs.departed.Departed.get.Goals as goal

pub returns-in-Some : goal.returns-in-Some
returns-in-Some c =
    let e = c.args.e in
    let es = c.self.inside.latest.entries in
    let ls = pairs_of c.self.inside.settled in
    ap (λ o. option_or o (lookup (eqb e) ls)) c.in-Some.ensures.value
    ∙ (sym (sought e es ls) ∙ ap (λ v. lookup (eqb e) v.entries) c.self.view_is)

pub returns-in-None : goal.returns-in-None
returns-in-None c =
    let e = c.args.e in
    let es = c.self.inside.latest.entries in
    let ls = pairs_of c.self.inside.settled in
    c.get-in-None.ensures
    ∙ (ap (λ o. option_or o (lookup (eqb e) ls)) c.in-None.ensures.value
    ∙ (sym (sought e es ls) ∙ ap (λ v. lookup (eqb e) v.entries) c.self.view_is))
