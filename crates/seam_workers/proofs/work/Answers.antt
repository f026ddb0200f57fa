use Rattle.std.proofs.Common.{◌≡◌, ◌∙◌, ◌+◌, ap, inl, inr}
use Rattle.seam_workers.proofs.Counts.{visits_counted}
use Rattle.seam_workers.specs.Shifts.{ShiftView}
use Rattle.seam_workers.proofs.work.Goals as goal

pub returns-then-is_over : goal.returns-then-is_over
returns-then-is_over g c = inr (c.is_over.ensures.over c.if-is_over.true)

pub loop-turn-preserved : goal.loop-turn-preserved
loop-turn-preserved g c = elim c.visit.ensures [
  | inl missed ↦ ap (λ (x : ShiftView). x.visits) missed ∙ ap (λ k. k + 1) (c.heed.ensures.visits ∙ c.loop-turn.invariant)
  | inr tried ↦ (let one = tried.2 in
      ap (λ (x : ShiftView). x.visits) one.counted ∙ (visits_counted _ one.found
      ∙ ap (λ k. k + 1) (c.heed.ensures.visits ∙ c.loop-turn.invariant)))
]
