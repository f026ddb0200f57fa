use Rattle.std.proofs.Common.{◌≤◌, ◌++◌, length, arith, ap, ◌∙◌}
use Rattle.seam_storm.specs.Storm.{sync_after}
use Rattle.seam_storm.proofs.StormLemmas.{made_same}
use Rattle.seam_storm.proofs.lines.make_ready.Goals as goal

pub returns-clause-same : goal.returns-clause-same
returns-clause-same c =
    let past : length c.args.lines.now.line.items ≤ c.args.lines.now.at = omega (arith, c.if-lines-len.false, c.len.ensures.value) in
    made_same c.args.lines.now.line.items c.write_sync.new.line.items c.args.lines.now.at c.args.lines.now.left c.args.lines.now.number
    c.args.lines.now.seed c.write_drawn-lines.result past c.if-lines-eq0.false (c.write_sync.ensures
    ∙ ap (λ l. l ++ sync_after c.args.lines.now.number) c.write_drawn-lines.ensures.items) c.write_drawn-lines.ensures.seed
