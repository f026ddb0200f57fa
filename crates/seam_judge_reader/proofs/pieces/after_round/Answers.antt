use Rattle.std.proofs.Common.{◌≡◌, ◌≢◌, ◌∷◌, ℕ, List, Bool, true, false, arith, subst, MatchBool, length}
use Rattle.seam_judge_reader.proofs.PieceSteps.{to_begin, to_end, to_go_on, some_left}
use Rattle.seam_judge_reader.proofs.Feeds.{empty_is}
use Rattle.seam_judge_reader.proofs.pieces.after_round.Goals as goal

pub loop-ends-init : goal.loop-ends-init
loop-ends-init c = record { within = omega arith; round = λ defs are r after e. to_begin defs c.args.text.now r after e }

abbrev EndsHere : List ℕ → Type 0
EndsHere text = (rest : List ℕ) × (text ≡ 101 ∷ 110 ∷ 100 ∷ 32 ∷ rest)

abbrev GoesOn : List ℕ → Type 0
GoesOn text = (rest : List ℕ) → text ≢ 101 ∷ 110 ∷ 100 ∷ 32 ∷ rest

ends_here : (text : List ℕ) (b : Bool) → b ≡ true → MatchBool b (EndsHere text) (GoesOn text) → EndsHere text
ends_here text true is here = here
ends_here text false is on = absurd (cc)

goes_on : (text : List ℕ) (b : Bool) → b ≡ false → MatchBool b (EndsHere text) (GoesOn text) → GoesOn text
goes_on text true is here = absurd (cc)
goes_on text false is on = on

pub returns-then-ends-clause-round : goal.returns-then-ends-clause-round
returns-then-ends-clause-round c = λ defs are r after e.
    let rest = c.loop-ends.rest.now in
    let ends = ends_here rest c.ends_a_round-ends.result c.if-ends.true c.ends_a_round-ends.ensures in
    to_end defs are rest after c.after_line-rest.result.now c.after_line-rest.ensures.told ends.0 ends.1
    (c.loop-ends.invariant.round defs are r after e)

pub loop-ends-preserved : goal.loop-ends-preserved
loop-ends-preserved c = record {
  within = omega (arith, c.loop-ends.invariant.within, c.after_line-rest.ensures.within);
  round = λ defs are r after e.
      let rest = c.loop-ends.rest.now in
      to_go_on defs are rest after c.after_line-rest.result.now c.after_line-rest.ensures.told
      (goes_on rest c.ends_a_round-ends.result c.if-ends.false c.ends_a_round-ends.ensures)
      (c.loop-ends.invariant.round defs are r after e);
}

pub returns-clause-round : goal.returns-clause-round
returns-clause-round c = λ defs are r after e.
    let none = empty_is c.loop-ends.rest.now c.is_empty.result c.is_empty.ensures c.loop-ends-test.false in
    absurd (some_left defs c.loop-ends.rest.now after none (c.loop-ends.invariant.round defs are r after e))
