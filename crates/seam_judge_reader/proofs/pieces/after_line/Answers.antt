use Rattle.std.proofs.Common.{◌≡◌, arith}
use Rattle.seam_judge_reader.proofs.Feeds.{at_feed, no_end, none_left, one_more, some_long}
use Rattle.seam_judge_reader.proofs.pieces.after_line.Goals as goal

pub loop-byte-init : goal.loop-byte-init
loop-byte-init c = record { within = omega arith; told = λ line after none e. record { more = line; none = none; is = e } }

pub loop-byte-preserved : goal.loop-byte-preserved
loop-byte-preserved c = record {
  within = omega (arith, c.loop-byte.invariant.within, c.in-Some.ensures.cases.1);
  told = λ line after none e.
      one_more c.loop-byte.rest.now c.in-Some.others.now after c.in-Some.byte.now c.in-Some.ensures.cases.0 c.if-byte-eq10.false
      (c.loop-byte.invariant.told line after none e);
}

pub returns-then-byte-eq10-clause-told : goal.returns-then-byte-eq10-clause-told
returns-then-byte-eq10-clause-told c = λ line after none e.
    at_feed c.loop-byte.rest.now c.in-Some.others.now after c.in-Some.byte.now c.in-Some.ensures.cases.0 c.if-byte-eq10.true
    (c.loop-byte.invariant.told line after none e)

pub returns-clause-shorter : goal.returns-clause-shorter
returns-clause-shorter c = λ some. omega (arith, some_long c.args.text.now some, c.in_default.ensures.cases)

pub returns-clause-told : goal.returns-clause-told
returns-clause-told c = λ line after none e.
    no_end c.loop-byte.rest.now after (none_left c.loop-byte.rest.now c.in_default.ensures.cases)
    (c.loop-byte.invariant.told line after none e)
