-- A round of a book's open lines, played in a world that the book goes with.
use Rattle.std.specs.Prelude.{◌≡◌, ℕ, is_some, Some}
use Rattle.std.specs.List.{list_any}
use Rattle.seam_node_steps.specs.Prelude.{Division, AreLegal, Part, IsQuiet, RealView, PartView, loaded, World, node_has_work}
use Rattle.seam_rule_rounds.specs.Prelude.{Header, Book, entries, joins, accepted, Orders, IsFull, ClientReplica}
use Rattle.seam_law_calls.specs.Prelude.{entity_flow, real_at}
use Rattle.seam_law_ghosts.specs.Prelude.{GoesThroughRound}
use Rattle.seam_law_all.specs.Prelude.{KeepsRecords}
use Rattle.seam_accept.specs.Batches.{batch_of}
use Rattle.seam_law_book.specs.Books.{IsOfLines, as_begun}
use Rattle.seam_law_book.specs.Going.{frame_of, base_node, GoesWith, HasRoomForCalls, HasRoomForRound}
use Rattle.seam_law_book.specs.ExecutedRound.{AreInTable, ArePartsInTable}

-- The open round of the book may be played in the world w, whose nodes have the tree t and in which each entity e's client shows `clients
-- e`.
pub record MayPlay (h : Header) (b : Book) (t : Division) (clients : ℕ → ClientReplica) (w : World) : Type 0 where
  -- lines made the book, after a header with legal settings
  pub legal : AreLegal h.settings
  pub of_lines : IsOfLines h b
  -- the world keeps the records between rounds
  pub keeps : KeepsRecords (frame_of h t) clients w
  -- the book goes with it as the round began
  pub goes : GoesWith h (as_begun b) t w
  -- and both have room for the round
  pub few : HasRoomForCalls b
  pub room : HasRoomForRound h w

-- The orders of the rounds before: by them each part executed all that was accepted for it, and is what the flat table has of it.
pub record AreOrdersBefore (h : Header) (b : Book) (orders : Orders) (w : World) : Type 0 where
  pub full : (p : Part) (e : ℕ) → IsFull (accepted (as_begun b) p e) (orders p e)
  pub reals : AreInTable h (as_begun b) orders w
  pub parts : ArePartsInTable h (as_begun b) orders w

-- The round has ended in v: what its lines destroyed was reaped in it, and v is quiet.
pub record HasEnded (h : Header) (b : Book) (w v : World) (round : GoesThroughRound w (batch_of h b) v) : Type 0 where
  pub gone : round.gone ≡ (batch_of h b).destroys
  pub quiet : IsQuiet node_has_work v

-- Entity e as the batch is loaded: its real, in a cell, and its base part, which has a client where the entity was ever given one.
pub record IsLoaded (h : Header) (b : Book) (w : World) (e : ℕ) : Type 0 where
  pub cell : ℕ
  pub real : RealView
  pub here : real_at e (loaded w (batch_of h b)) cell ≡ Some real
  pub base : PartView
  pub base_here : ((entity_flow e (loaded w (batch_of h b))).slot (base_node h e)).base.part ≡ Some base
  pub client : is_some base.proxy ≡ list_any (joins e) (entries b)
