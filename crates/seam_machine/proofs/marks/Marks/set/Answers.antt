use Rattle.std.proofs.Common.{◌≡◌, ◌<◌, ◌/◌, ◌%◌, get_or, length, arith, rules}
use Rattle.std.specs.Int.{w64}
use Rattle.std.proofs.lemmas.Nat.Bits.{bit_at_set_same, bit_at_set_other, bit_at_clear_same, bit_at_clear_other}
use Rattle.seam_machine.proofs.Digits.{marked_there, marked_others}
use Rattle.seam_machine.proofs.marks.Marks.set.Goals as goal

pub returns-then-is-clause-there : goal.returns-then-is-clause-there
returns-then-is-clause-there c =
    let n = c.args.number in
    let words = c.args.self.now.words in
    let long : length words ≡ 4 = search rules in
    let within : n / 64 < length words = omega (arith, c.ranges.number, long) in
    let low : n % 64 < 64 = omega arith in
    rw (c.from-at.ensures, c.if-is.true)
    (marked_there words n _ within 1 (bit_at_set_same w64 (get_or words (n / 64) 0) (n % 64) low))

pub returns-then-is-clause-others : goal.returns-then-is-clause-others
returns-then-is-clause-others c =
    let n = c.args.number in
    let words = c.args.self.now.words in
    let long : length words ≡ 4 = search rules in
    let within : n / 64 < length words = omega (arith, c.ranges.number, long) in
    let low : n % 64 < 64 = omega arith in
    rw c.from-at.ensures
    (marked_others words n _ within (λ i less apart. bit_at_set_other w64 (get_or words (n / 64) 0) (n % 64) low i apart))

pub returns-else-is-clause-there : goal.returns-else-is-clause-there
returns-else-is-clause-there c =
    let n = c.args.number in
    let words = c.args.self.now.words in
    let long : length words ≡ 4 = search rules in
    let within : n / 64 < length words = omega (arith, c.ranges.number, long) in
    let low : n % 64 < 64 = omega arith in
    rw (c.from-at.ensures, c.if-is.false)
    (marked_there words n _ within 0 (bit_at_clear_same w64 (get_or words (n / 64) 0) (n % 64) low))

pub returns-else-is-clause-others : goal.returns-else-is-clause-others
returns-else-is-clause-others c =
    let n = c.args.number in
    let words = c.args.self.now.words in
    let long : length words ≡ 4 = search rules in
    let within : n / 64 < length words = omega (arith, c.ranges.number, long) in
    let low : n % 64 < 64 = omega arith in
    rw c.from-at.ensures
    (marked_others words n _ within (λ i less apart. bit_at_clear_other w64 (get_or words (n / 64) 0) (n % 64) low i less apart))
