use Rattle.std.proofs.Common.{◌++◌, sym, subst, ap, ◌∙◌}
use Rattle.std.proofs.lemmas.Result.{on_ok_weaker}
use Rattle.seam_rule_rounds.specs.RoundTexts.{client_text}
use Rattle.seam_report.specs.Spelled.{SpellingsView, GoesBy}
use Rattle.seam_report.proofs.Spelled.{alone}
use Rattle.seam_report.proofs.told.push_line.Goals as goal

pub returns : goal.returns
returns c =
    let line = c.args.line.now in
    let own = alone line.text in
    let new = c.new-spellings.ensures in
    on_ok_weaker c.push_client.result
    (λ pushed.
    pushed
    ∙ ap (λ (s : SpellingsView). c.args.out.now.items
    ++ client_text s.defs (record { entity = c.args.entity; ty = c.args.ty; line = line }))
    new)
    (c.push_client.ensures.text own.0 (subst (GoesBy own.0) (sym new) tt) own.1)
