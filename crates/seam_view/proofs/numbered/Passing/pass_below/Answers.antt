use Rattle.std.proofs.Common.{rules, ◌≡◌, ◌<◌, ◌+◌, ◌∙◌, ◌++◌, ℕ, drop, get_or, length, sym, ap, subst, arith}
use Rattle.std.specs.List.{AllWithin}
use Rattle.std.specs.Map.{keys_of}
use Rattle.seam_view.specs.ByNumber.{entries_of}
use Rattle.seam_view.proofs.Passing.{parted, one_passed, passed_below}
use Rattle.seam_view.proofs.numbered.Passing.pass_below.Goals as goal

pub loop-i-preserved : goal.loop-i-preserved
loop-i-preserved c =
    let f : ℕ → ℕ = λ i. get_or (keys_of (entries_of c.args.slots.now)) i 0 in
    let was = c.loop-i.invariant in
    let i = c.loop-i.i in
    let xs = c.loop-i.self.passed.items in
    let ys = c.loop-i.self.all.items in
    let lt : i < length ys = search rules in
    let x = c.index-place.result.now in
    let at : x ≡ get_or ys i x = search rules in
    let less : f x < c.args.e = omega arith in
    let next : xs ++ drop c.loop-i.self.next ys ≡ xs ++ drop i ys = ap (λ n. xs ++ drop n ys) was.next in
    record {
      next = search rules;
      within = search rules;
      all = was.all;
      same = ap (λ n. n ++ drop (i + 1) ys) c.push_reserved.ensures.items ∙ (one_passed xs ys i x lt at ∙ (sym next ∙ was.same));
      below = λ h. passed_below xs ys i x lt at f c.args.e c.push_reserved.new.self.items c.push_reserved.ensures.items less
          (subst (λ zs. AllWithin (λ y. f y < c.args.e) zs 0 (length xs)) next (was.below h));
      len =
          (let before = ap (λ n. length (drop n ys)) was.next in
          let one = ap length (parted xs ys i x lt at) in
          let sum = was.len in
          let more = c.push_reserved.ensures.len in
          omega (arith, before, one, sum, more));
      capacity = search rules;
    }
