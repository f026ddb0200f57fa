use Rattle.std.proofs.Common.{◌≡◌, ◌++◌, get_or, subst, sym, ap, ◌∙◌}
use Rattle.seam_call.specs.declared.shown.Line.{Line}
use Rattle.seam_rule_rounds.specs.RoundTexts.{client_text}
use Rattle.seam_report.specs.Spelled.{ShowsOf}
use Rattle.seam_world_text.proofs.Told.{line_to, one_more_line}
use Rattle.seam_world_text.proofs.ends.push_each.Goals as goal

pub loop-line-preserved : goal.loop-line-preserved
loop-line-preserved c =
    let l : Line = c.line-item.result in
    let ls = c.args.lines.now in
    let i = c.loop-line.line-index in
    let here : get_or ls i l ≡ l = sym c.line-item.is in
    let pushed = c.in_ok-push_client.ensures in
    record {
      defs = pushed.defs ∙ c.loop-line.invariant.defs;
      told = λ vs go all.
          let before = c.loop-line.invariant.told vs go all in
          let shows = subst (λ x. ShowsOf vs x.text) here (all i l c.loop-line-test.true) in (
            pushed.kept vs before.0 shows,
            one_more_line c.args.spellings.now.defs c.args.made.now c.args.out.now.items c.loop-line.out.items c.push_client.new.out.items
                ls i l c.loop-line-test.true here before.1
                (pushed.text vs before.0 shows
                ∙ ap (λ defs. c.loop-line.out.items ++ client_text defs (line_to c.args.made.now l)) c.loop-line.invariant.defs),
          );
    }
