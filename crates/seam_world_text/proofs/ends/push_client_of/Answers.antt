use Rattle.std.proofs.Common.{◌≡◌, ◌++◌, subst, sym, ap, ◌∙◌, rules}
use Rattle.std.proofs.lemmas.Result.{on_ok_weaker}
use Rattle.seam_world_text.specs.Finding.{lines_found}
use Rattle.seam_world_text.specs.RoundParts.{shown_so_far, shown_of}
use Rattle.seam_world_text.specs.Told.{ShowOf, told_by}
use Rattle.seam_world_text.proofs.ends.push_client_of.Goals as goal

pub returns-in-None-clause-shown : goal.returns-in-None-clause-shown
returns-in-None-clause-shown c vs go all =
    let r = c.args.resident.now in
    let kept = c.args.kept.now in
    let w = c.args.world.now in
    let defs = c.args.spellings.now.defs in
    let told : told_by kept w r ≡ lines_found w r.made.entity = search rules in
    let shown : shown_of defs kept w r ≡ shown_so_far defs w r.made = search rules in
    on_ok_weaker c.push_lines.result (λ pushed. pushed ∙ ap (λ l. c.args.out.now.items ++ l) (sym shown))
    (c.push_lines.ensures.lines vs go (subst (ShowOf vs) told all))
