use Rattle.std.proofs.Common.{◌≡◌, ◌-◌, true, false, refl, arith}
use Rattle.seam_judge_rounds.proofs.Told.{rises, rises_more}
use Rattle.seam_judge_rounds.proofs.clients.do_rise.Goals as goal

pub loop-i-preserved : goal.loop-i-preserved
loop-i-preserved c =
    let no : c.falls_at-falls.result ≡ false = first_of (cc, grind arith) in
    rises_more c.args.numbers.now c.loop-i.i (omega arith)
    (λ falls. let yes = c.falls_at-falls.ensures.1 falls in absurd (cc)) c.loop-i.invariant

pub returns-then-falls : goal.returns-then-falls
returns-then-falls c = (
  (λ never. absurd (cc)),
  (λ rise.
      let up = rise (c.loop-i.i - 1) c.loop-i.i 0 (omega arith) c.loop-i-test.true in
      let yes : c.falls_at-falls.result ≡ true = first_of (cc, grind arith) in
      let down = c.falls_at-falls.ensures.0 yes in
      absurd (omega (arith, up, down))),
)

pub returns : goal.returns
returns c = (
  (λ _. rises c.args.numbers.now (λ k within. c.loop-i.invariant k (omega (arith, within, c.loop-i-test.false)))),
  (λ _. refl),
)
