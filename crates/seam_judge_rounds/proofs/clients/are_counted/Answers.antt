use Rattle.std.proofs.Common.{◌≡◌, ◌+◌, ◌<◌, ℕ, Bool, true, false, nat_lt, get_or, refl, subst, arith}
use Rattle.std.proofs.lemmas.Bool.Decides.{nat_tests}
use Rattle.seam_judge_rounds.proofs.Told.{counted_to, counted_from}
use Rattle.seam_judge_rounds.proofs.clients.are_counted.Goals as goal

pub loop-i-preserved : goal.loop-i-preserved
loop-i-preserved c = λ k within. by k within (nat_lt k c.loop-i.i) refl
  where
    by : (k : ℕ) → k < c.loop-i.i + 1 → (b : Bool) → nat_lt k c.loop-i.i ≡ b → get_or c.args.numbers.now k 0 ≡ c.args.former + 1 + k
    by k within true is = c.loop-i.invariant k (grind (arith, nat_tests, is))
    by k within false is =
        let last : c.loop-i.i ≡ k = grind (arith, nat_tests, is, within) in
        let yes : c.is_counted-counted.result ≡ true = first_of (cc, grind arith) in
        subst (λ (n : ℕ). get_or c.args.numbers.now n 0 ≡ c.args.former + 1 + n) last (c.is_counted-counted.ensures.0 yes)

pub returns-then-not-counted : goal.returns-then-not-counted
returns-then-not-counted c = (
  (λ never. absurd (cc)),
  (λ is.
      let yes = c.is_counted-counted.ensures.1 (counted_from c.args.numbers.now (c.args.former + 1) is c.loop-i.i c.loop-i-test.true) in
      let no : c.is_counted-counted.result ≡ false = first_of (cc, grind arith) in
      absurd (cc)),
)

pub returns : goal.returns
returns c = (
  (λ _. counted_to c.args.numbers.now (c.args.former + 1) (λ k within. c.loop-i.invariant k (omega (arith, within, c.loop-i-test.false)))),
  (λ _. refl),
)
