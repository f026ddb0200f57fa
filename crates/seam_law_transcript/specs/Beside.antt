-- A standing beside a world, from round to round.
use Rattle.std.specs.Prelude.{◌≡◌, ℕ, false, length, [], Some}
use Rattle.std.specs.List.{list_any}
use Rattle.seam_node_steps.specs.Prelude.{Division, AreLegal, PartView, ProxyView, World}
use Rattle.seam_rule_rounds.specs.Prelude.{Header, joins, Standing, replica_of}
use Rattle.seam_law_calls.specs.Prelude.{entity_flow}
use Rattle.seam_law_all.specs.Prelude.{KeepsRecords}
use Rattle.seam_law_book.specs.Prelude.{IsOfLines, as_begun, frame_of, base_node, GoesWith, HasRoomForCalls, HasRoomForRound, MayPlay}
use Rattle.seam_law_book.specs.Prelude.{AreOrdersBefore, AreInPlace}

-- The standing, with whatever lines its open round has so far, goes with the world w between two rounds, whose nodes have the tree `tree`.
pub record GoesBetween (h : Header) (s : Standing) (tree : Division) (w : World) : Type 0 where
  -- the world keeps the records, of clients that show what they were told in all
  pub keeps : KeepsRecords (frame_of h tree) (replica_of h s) w
  -- the book goes with it as the open round began
  pub goes : GoesWith h (as_begun s.book) tree w
  -- so does what was executed before, and where each entity is held
  pub before : AreOrdersBefore h s.book s.orders w
  pub places : AreInPlace s.places w
  -- the number of a client's last line is how many it was told, and who never had a client was told none
  pub numbers : (e : ℕ) (p : PartView) (x : ProxyView) → ((entity_flow e w).slot (base_node h e)).base.part ≡ Some p → p.proxy ≡ Some x →
      x.last ≡ length (s.told e)
  pub untold : (e : ℕ) → list_any (joins e) s.book.past ≡ false → s.told e ≡ []

-- It goes with it, and the book has all lines of the open round, which may be played.
pub record HasPlayableRound (h : Header) (s : Standing) (tree : Division) (w : World) : Type 0 where
  pub between : GoesBetween h s tree w
  pub legal : AreLegal h.settings
  pub of_lines : IsOfLines h s.book
  pub few : HasRoomForCalls s.book
  pub room : HasRoomForRound h w

abbrev pub may_play : (h : Header) (s : Standing) (tree : Division) (w : World) → HasPlayableRound h s tree w →
    MayPlay h s.book tree (replica_of h s) w
may_play h s tree w b = record {
  legal = b.legal;
  of_lines = b.of_lines;
  keeps = b.between.keeps;
  goes = b.between.goes;
  few = b.few;
  room = b.room;
}
