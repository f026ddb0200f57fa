use Rattle.std.proofs.Common.{◌++◌, sym, subst, ap, ◌∙◌}
use Rattle.std.proofs.lemmas.Result.{on_ok_weaker}
use Rattle.seam_rule_rounds.specs.Prelude.{ClientText, client_text}
use Rattle.seam_report.specs.Spelled.{ShowsOf}
use Rattle.seam_report.proofs.told.push_client.Goals as goal

pub returns-in-Shown-clause-text : goal.returns-in-Shown-clause-text
returns-in-Shown-clause-text c vs go known =
    let n = c.args.line.now.number in
    on_ok_weaker c.push_shown.result
    (λ pushed.
    pushed
    ∙ ap (λ (x : ClientText). c.args.out.now.items
    ++ client_text c.args.spellings.now.defs (record { entity = c.args.entity; ty = c.args.ty; line = record { number = n; text = x } }))
    (sym c.in-Shown.is))
    (c.push_shown.ensures.text vs go (subst (ShowsOf vs) c.in-Shown.is known))

pub returns-in-Shown-clause-kept : goal.returns-in-Shown-clause-kept
returns-in-Shown-clause-kept c vs go known = c.push_shown.ensures.kept vs go (subst (ShowsOf vs) c.in-Shown.is known)
