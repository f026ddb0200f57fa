use Rattle.seam_world_text.proofs.ends.told_texts.Goals as goal

pub returns : goal.returns
returns c = λ vs all. (
  rw c.new-first.ensures.items at c.in_ok-push_bases.ensures,
  rw c.new-second.ensures.items at (c.in_ok-push_clients.ensures vs all),
)
