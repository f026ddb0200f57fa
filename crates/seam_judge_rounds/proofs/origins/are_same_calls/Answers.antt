use Rattle.std.proofs.Common.{◌≡◌, ◌∙◌, false, sym, ap, arith, Bor}
use Rattle.seam_call.specs.declared.call.Call.{Call}
use Rattle.seam_judge_rounds.proofs.Grouping.{same_items}
use Rattle.seam_judge_rounds.proofs.origins.are_same_calls.Goals as goal

pub returns-then-not-same : goal.returns-then-not-same
returns-then-not-same c = (
  (λ so. absurd (cc)),
  (λ same.
      let here = same_items c.args.a.now c.args.b.now c.loop-i.i c.index-a-i.result c.index-b-i.result same c.loop-i-test.true in
      let now : Bor Call → Call = λ (x : Bor Call). x.now in
      let yes = c.is-same.ensures.1 (ap now c.index-a-i.is ∙ here ∙ sym (ap now c.index-b-i.is)) in
      let no : c.is-same.result ≡ false = first_of (cc, grind arith) in
      absurd (cc)),
)
