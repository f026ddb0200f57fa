use Rattle.std.proofs.Common.{refl}
use Rattle.seam_io.specs.Lines.{Content, Long}
use Rattle.seam_world_rounds.proofs.RunLemmas.{with_printed, failed_before, line_printed, done, last_printed, read_fault, limit_reached}
use Rattle.seam_world_rounds.proofs.run.Runner.turn.Goals as goal

pub returns-in-Line-clause-history : goal.returns-in-Line-clause-history
returns-in-Line-clause-history g c = λ began sink told was.
    let law = c.a_round_may_break_off.ensures in
    let h = with_printed _ began sink told _ _ _ _ _ _ _ was law _ (c.in-Ok.ensures.prints sink _ was.printed) in
    let r = c.in-Line.ensures.reads began h.given h.read h.reading in
    rw c.print_line.ensures.lines (line_printed _ began sink told _ _ _ _ _ _ _ h law _ _ c.next.ensures.limit _ _
    (Content c.next.new.self.line) r.0
    c.print_line.new.self.pending c.print_line.new.self.script c.print_line.result r.1
    (c.print_line.ensures.prints h.header h.standing sink _ h.refines h.printed))

pub returns-in-Long-clause-history : goal.returns-in-Long-clause-history
returns-in-Long-clause-history g c = λ began sink told was.
    let law = c.a_round_may_break_off.ensures in
    let h = with_printed _ began sink told _ _ _ _ _ _ _ was law _ (c.in-Ok.ensures.prints sink _ was.printed) in
    let r = c.in-Long.ensures.reads began h.given h.read h.reading in
    rw c.print_long.ensures.lines (line_printed _ began sink told _ _ _ _ _ _ _ h law _ _ c.next.ensures.limit _ _ Long r.0
    c.print_long.new.self.pending c.print_long.new.self.script c.print_long.result r.1
    (c.print_long.ensures.prints h.header h.standing sink _ _ h.refines h.printed))

pub returns-in-None-clause-history : goal.returns-in-None-clause-history
returns-in-None-clause-history g c = λ began sink told was.
    let law = c.a_round_may_break_off.ensures in
    let h = with_printed _ began sink told _ _ _ _ _ _ _ was law _ (c.in-Ok.ensures.prints sink _ was.printed) in
    let r = c.in-End.ensures.reads began h.given h.read h.reading in
    done _ began sink told _ _ _ _ _ _ _ h law _ _ c.next.ensures.limit _ _ c.print_last.new.self.script.world r.0 r.1 r.2
    (c.in-None.ensures h.header h.standing sink _ h.refines h.printed)

pub returns-in-Some-clause-history : goal.returns-in-Some-clause-history
returns-in-Some-clause-history g c = λ began sink told was.
    let law = c.a_round_may_break_off.ensures in
    let h = with_printed _ began sink told _ _ _ _ _ _ _ was law _ (c.in-Ok.ensures.prints sink _ was.printed) in
    let r = c.in-End.ensures.reads began h.given h.read h.reading in
    last_printed _ began sink told _ _ _ _ _ _ _ h law _ _ c.next.ensures.limit _ _ c.print_last.new.self.script.world r.0
    c.in-Some.status r.1 r.2
    (c.in-Some.ensures h.header h.standing sink _ h.refines h.printed)

pub returns-in-ReadFault-clause-history : goal.returns-in-ReadFault-clause-history
returns-in-ReadFault-clause-history g c = λ began sink told was.
    let law = c.a_round_may_break_off.ensures in
    let h = with_printed _ began sink told _ _ _ _ _ _ _ was law _ (c.in-Ok.ensures.prints sink _ was.printed) in
    let r = c.in-ReadFault.ensures.reads began h.given h.read h.reading in
    read_fault _ began sink told _ _ _ _ _ _ _ h law _ _ c.next.ensures.limit _ _ r.0 c.stop.result refl r.1 r.2
    (c.in-ReadFault.ensures.fault refl)
    (c.stop.ensures sink _ h.printed)

pub returns-in-Limit-clause-history : goal.returns-in-Limit-clause-history
returns-in-Limit-clause-history g c = λ began sink told was.
    let law = c.a_round_may_break_off.ensures in
    let h = with_printed _ began sink told _ _ _ _ _ _ _ was law _ (c.in-Ok.ensures.prints sink _ was.printed) in
    let r = c.in-Limit.ensures.reads began h.given h.read h.reading in
    limit_reached _ began sink told _ _ _ _ _ _ _ h law _ _ c.next.ensures.limit _ _ r.0 c.stop-in-Limit.result refl r.1 r.2
    (c.stop-in-Limit.ensures sink _ h.printed)

pub returns-in-Err-clause-history : goal.returns-in-Err-clause-history
returns-in-Err-clause-history g c = λ began sink told h.
    failed_before _ began sink told _ _ _ _ _ _ _ h c.a_round_may_break_off.ensures _ (c.in-Err.ensures.prints sink _ h.printed)
