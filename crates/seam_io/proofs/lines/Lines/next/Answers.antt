use Rattle.std.proofs.Common.{[], ◌++◌, arith, refl, ap, ◌∙◌, sym, subst, inl, append_assoc, append-nil}
use Rattle.seam_io.specs.Reading.{Reader, Reading, NeedsMore, IsDone, IsOpen, held_on}
use Rattle.seam_io.specs.Steps.{IsWaiting}
use Rattle.seam_io.proofs.ReadLemmas.{answered, faulted, kept, done_by_answer, again_by_answer, not_needed, sparing_more}
use Rattle.seam_io.proofs.ReadLemmas.{takes_none, takes_more}
use Rattle.seam_io.proofs.lines.Lines.next.Goals as goal

pub loop-next-init : goal.loop-next-init
loop-next-init g c = record {
  reads = λ start given read r. (
    [],
    subst (λ taken. Reading start (g.S.Source.state c.args.source.now) c.args.self.now taken read) (sym (append-nil given)) r,
    inl refl,
    takes_none c.args.self.now,
  );
  later = omega arith;
  quiet = λ not. (refl, refl);
  budget = omega arith;
  limit = refl;
}

pub returns-in-Some-clause-reads : goal.returns-in-Some-clause-reads
returns-in-Some-clause-reads g c = λ start given read r.
    let before = c.loop-next.invariant.reads start given read r in
    let answer = answered c.in-Some.next start _ c.loop-next.self _ (given ++ before.0) read before.1 c.in-Some.ensures.some in
    (before.0, answer.0, answer.1, before.2)

pub returns-in-Some-clause-quiet : goal.returns-in-Some-clause-quiet
returns-in-Some-clause-quiet g c = λ not.
    let same = c.loop-next.invariant.quiet not in
    let moves = c.in-Some.ensures.some.moves in
    (same.0, moves.taken ∙ ap (λ (r : Reader). r.taken) same.1, moves.ended ∙ ap (λ (r : Reader). r.ended) same.1)

pub returns-in-Some-clause-done : goal.returns-in-Some-clause-done
returns-in-Some-clause-done g c = λ e. done_by_answer c.in-Some.next c.loop-next.self _ c.in-Some.ensures.some e

pub returns-in-Some-clause-again : goal.returns-in-Some-clause-again
returns-in-Some-clause-again g c = λ done.
    let same = (c.loop-next.invariant.quiet (not_needed _ done)).1 in
    again_by_answer c.in-Some.next c.loop-next.self _ c.in-Some.ensures.some (subst IsDone (sym same) done)

pub returns-in-Some-clause-whole : goal.returns-in-Some-clause-whole
returns-in-Some-clause-whole g c = λ some.
    let same = (c.loop-next.invariant.quiet (λ (needs : NeedsMore c.args.self.now). some needs.text)).1 in
    c.in-Some.ensures.some.whole (subst (λ (r : Reader). ¬ (IsOpen (held_on r))) (sym same) some)

pub returns-in-Err-clause-reads : goal.returns-in-Err-clause-reads
returns-in-Err-clause-reads g c = λ start given read r.
    let before = c.loop-next.invariant.reads start given read r in
    let waits = c.in-None.ensures.none in
    let filled =
    c.fill.ensures.reads start (given ++ before.0) read (kept start _ _ _ (given ++ before.0) read before.1 waits.skips.moves) in
    let needs : IsWaiting c.fill.new.self = subst IsWaiting (sym c.in-Err.ensures.same) waits.after in
    let both = rw append_assoc at filled.1 in
    let answer = faulted start _ c.fill.new.self (given ++ (before.0 ++ filled.0)) read both needs in (
      before.0 ++ filled.0,
      answer.0,
      answer.1,
      sparing_more c.args.self.now c.loop-next.self before.0 filled.0 before.3 waits.before filled.3,
    )

pub returns-in-Err-clause-quiet : goal.returns-in-Err-clause-quiet
returns-in-Err-clause-quiet g c = λ not.
    absurd (not (subst NeedsMore (c.loop-next.invariant.quiet not).1 c.in-None.ensures.none.before))

pub returns-in-Err-clause-again : goal.returns-in-Err-clause-again
returns-in-Err-clause-again g c = λ done.
    let not = not_needed _ done in
    absurd (not (subst NeedsMore (c.loop-next.invariant.quiet not).1 c.in-None.ensures.none.before))

pub loop-next-preserved : goal.loop-next-preserved
loop-next-preserved g c =
    let waits = c.in-None.ensures.none in
    record {
      reads = λ start given read r.
          let before = c.loop-next.invariant.reads start given read r in
          let filled =
          c.fill.ensures.reads start (given ++ before.0) read (kept start _ _ _ (given ++ before.0) read before.1 waits.skips.moves) in (
            before.0 ++ filled.0,
            rw append_assoc at filled.1,
            sparing_more c.args.self.now c.loop-next.self before.0 filled.0 before.3 waits.before filled.3,
            takes_more c.args.self.now c.loop-next.self _ c.fill.new.self before.0 filled.0 before.3 waits.skips
                waits.after.going filled.2 c.fill.ensures.passing,
          );
      later = omega (arith, c.fill.ensures.cause.later);
      quiet = λ not. absurd (not (subst NeedsMore (c.loop-next.invariant.quiet not).1 waits.before));
      budget = let a = c.fill.ensures.budget in let b = waits.skips.moves.spent in let d = c.loop-next.invariant.budget in omega arith;
      limit = c.fill.ensures.limit ∙ waits.skips.moves.limit ∙ c.loop-next.invariant.limit;
    }
