use Rattle.seam_io.proofs.StepLemmas.{last_given}
use Rattle.seam_io.proofs.lines.Lines.finish.Goals as goal

pub returns-then-len-gt0 : goal.returns-then-len-gt0
returns-then-len-gt0 c =
    last_given c.give.result c.args.self.now c.give.new.self _ c.requires.plain c.held_len-len.ensures c.requires.whole c.requires.ended
    c.if-len-gt0.true c.give.ensures.rest c.give.ensures.gave c.give.ensures.line
