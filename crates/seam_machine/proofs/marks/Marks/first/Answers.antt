use Rattle.std.proofs.Common.{◌≡◌, ◌<◌, ◌≤◌, ◌*◌, ◌/◌, ◌^◌, get_or, length, arith, rules, refl, inl, inr}
use Rattle.std.proofs.lemmas.Bool.{cases_lt}
use Rattle.std.proofs.lemmas.List.{get_or_past}
use Rattle.seam_machine.proofs.Digits.{none_marked, none_marked_more, first_there, none_before}
use Rattle.seam_machine.proofs.marks.Marks.first.Goals as goal

pub loop-i-preserved : goal.loop-i-preserved
loop-i-preserved c = none_marked_more c.args.self.now.words c.loop-i.i c.if-word-ne0.false c.loop-i.invariant

pub returns-then-word-ne0-clause-some : goal.returns-then-word-ne0-clause-some
returns-then-word-ne0-clause-some c =
    let words = c.args.self.now.words in
    let i = c.loop-i.i in
    let some : 0 < get_or words i 0 = omega (arith, c.if-word-ne0.true) in
    let fits : get_or words i 0 < 2 ^ 64 = search rules in
    first_there words i some fits c.loop-i.invariant _ refl

pub returns-then-word-ne0-clause-first : goal.returns-then-word-ne0-clause-first
returns-then-word-ne0-clause-first c =
    let words = c.args.self.now.words in
    let i = c.loop-i.i in
    let some : 0 < get_or words i 0 = omega (arith, c.if-word-ne0.true) in
    let fits : get_or words i 0 < 2 ^ 64 = search rules in
    none_before words i some fits c.loop-i.invariant _ refl

pub returns-clause-none : goal.returns-clause-none
returns-clause-none c = λ j.
    let words = c.args.self.now.words in
    let long : length words ≡ 4 = search rules in
    elim (cases_lt j (64 * c.loop-i.i)) [
      | inl lt ↦ c.loop-i.invariant j lt
      | inr past ↦
          let beyond : length words ≤ j / 64 = omega (arith, long, past, c.loop-i-test.false) in
          none_marked words (j / 64) (get_or_past words (j / 64) 0 beyond) j refl
    ]
