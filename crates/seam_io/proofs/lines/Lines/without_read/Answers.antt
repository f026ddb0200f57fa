use Rattle.std.proofs.Common.{arith}
use Rattle.seam_io.proofs.StepLemmas.{feed_given, answers_after, plain_after}
use Rattle.seam_io.proofs.lines.Lines.without_read.Goals as goal

pub returns-in-Some-clause-some : goal.returns-in-Some-clause-some
returns-in-Some-clause-some c =
    let skips = c.skip.ensures in
    let feed = c.in-Some.ensures in
    let plain = plain_after _ _ skips (let within = feed.within in omega arith) in
    answers_after c.give.result c.args.self.now c.skip.new.self c.give.new.self skips
    (feed_given c.give.result c.skip.new.self c.give.new.self c.in-Some.len plain feed c.give.ensures.rest c.give.ensures.gave
    c.give.ensures.line)
