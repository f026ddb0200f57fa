-- The two worlds off which a played round is read: where its calls have ended, and where it has ended.
use Rattle.std.specs.Prelude.{◌≡◌, true, []}
use Rattle.seam_node_steps.specs.Prelude.{Division, Part, Create, World}
use Rattle.seam_rule_rounds.specs.Prelude.{Header, was_dead, tree_of, with_round_ended, Standing}
use Rattle.seam_law_rounds.specs.Prelude.{IsBetweenRounds}
use Rattle.seam_law_ghosts.specs.Prelude.{AreCopiesBetweenRounds}
use Rattle.seam_law_book.specs.Prelude.{frame_of, GoesWith, done_in}
use Rattle.seam_law_transcript.specs.Prelude.{IsPlayed}

-- what is true of them
pub record AreAtRest (h : Header) (s : Standing) (tree : Division) (w v : World) (p : IsPlayed h s tree w v) : Type 0 where
  -- both keep the record between rounds, so that each real is where the routes go
  pub called : IsBetweenRounds (frame_of h (tree_of s.book)) p.round.called
  pub ended : IsBetweenRounds (frame_of h (tree_of s.book)) v
  -- who was dead before executed nothing
  pub idle : (q : Part) (c : Create) → was_dead s.book c.entity ≡ true → done_in h p.round.called q c.entity ≡ []
  -- at the end cells have the copies that reals want, and those are there that live in the book
  pub copies : AreCopiesBetweenRounds (frame_of h (tree_of s.book)) v
  pub goes : GoesWith h (with_round_ended s.book) (tree_of s.book) v
