-- A standing beside a world, from the header to the last line.
use Rattle.std.specs.Prelude.{ℕ}
use Rattle.seam_node_steps.specs.Prelude.{Division, AreLegal, World}
use Rattle.seam_rule_rounds.specs.Prelude.{Header, Standing, replica_of}
use Rattle.seam_law_bounds.specs.Prelude.{IsBounded}
use Rattle.seam_law_book.specs.Prelude.{IsOfLines}
use Rattle.seam_law_transcript.specs.Beside.{GoesBetween}
use Rattle.seam_law_transcript.specs.Counts.{IsCounted, HasFewNumbers}
use Rattle.seam_law_transcript.specs.Truly.{ShowsTruly}

-- The standing, with whatever lines its open round has so far, goes with the world w between two rounds, whose nodes have the tree `tree`;
-- and each round that may end from there may be run.
pub record GoesOn (h : Header) (s : Standing) (tree : Division) (w : World) : Type 0 where
  -- lines made the book, after a header with legal settings
  pub legal : AreLegal h.settings
  pub of_lines : IsOfLines h s.book
  -- it goes with the world
  pub between : GoesBetween h s tree w
  -- what each client shows is true
  pub truly : (e : ℕ) → ShowsTruly h s.book s.orders e (replica_of h s e)
  -- what bounds the phases of a round holds
  pub bounded : IsBounded w
  -- lines were counted
  pub counted : IsCounted s
  -- and the numbers of the world are few
  pub few : HasFewNumbers s w
