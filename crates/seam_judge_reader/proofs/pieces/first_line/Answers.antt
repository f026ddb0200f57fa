use Rattle.std.proofs.Common.{◌≡◌, ◌∙◌}
use Rattle.seam_judge_reader.proofs.Feeds.{line_before}
use Rattle.seam_judge_reader.proofs.pieces.first_line.Goals as goal

pub returns-clause-told : goal.returns-clause-told
returns-clause-told c = λ line after none e.
    let same = c.after_line-after.ensures.told line after none e in
    (c.without_feed.ensures line (line_before c.args.text.now line after c.after_line-after.result.now e same), same)
