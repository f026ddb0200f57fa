-- A round played by steps that are given: what the laws of rounds ask, and what they then say.
use Rattle.std.specs.Prelude.{List, [], ◌∷◌, fold, None}
use Rattle.seam_node_steps.specs.Prelude.{Create, Event, loaded, reaps_loaded, look_loaded, World}
use Rattle.seam_rule_rounds.specs.Prelude.{Header, created_as, live_as, tree_of, with_entry, with_round_ended, Lists, Entry, Standing}
use Rattle.seam_rule_rounds.specs.Prelude.{with_line, with_book, RoundData, IsRound}
use Rattle.seam_law_book.specs.Prelude.{IsAccepted}
use Rattle.seam_accept.specs.Batches.{batch_of}
use Rattle.seam_law_transcript.specs.Phases.{dying, Ends}
use Rattle.seam_law_transcript.specs.Reading.{round_read, standing_read}
use Rattle.seam_law_transcript.specs.Course.{GoesOn}
use Rattle.seam_law_transcript.specs.OneReal.{HasOneReal}
use Rattle.seam_law_transcript.specs.Turns.{ExecutesInTurn}
use Rattle.seam_law_transcript.specs.Radius.{ClientsSeeAll}

-- ---- lines

-- one more line was read, and accepted as this entry
abbrev pub with_accepted : Standing → Entry → Standing
with_accepted s x = with_book (with_line s) (with_entry s.book x)

abbrev pub with_all_accepted : Standing → List Entry → Standing
with_all_accepted s xs = fold with_accepted s xs

-- there are lines that are accepted as these entries, one after another
abbrev pub AreAccepted : Header → Standing → List Entry → Type 0
AreAccepted h s [] = Unit {0}
AreAccepted h s (x ∷ xs) = IsAccepted h s.book x × AreAccepted h (with_accepted s x) xs

-- ---- steps

-- the steps of a round's three phases, and the worlds in which they end
pub record RoundSteps : Type 0 where
  pub calls : List Event
  pub called : World
  pub reaps : List Event
  pub reaped : World
  pub looks : List Event
  pub left : World

-- what such a round without a balance prints, and the standing that it leaves
abbrev pub printed_by : Header → Standing → RoundSteps → (made live : List Create) → RoundData
printed_by h s x made live = round_read h s made live x.called x.left None

abbrev pub left_by : Header → Standing → RoundSteps → (made live : List Create) → Standing
left_by h s x made live = standing_read h s x.called x.left (printed_by h s x made live) (with_round_ended s.book)

-- The steps play the round of the standing s from the world w: its batch is loaded, and each phase ends; these entities were created, and
-- these live.
pub record PlayedBy (h : Header) (s : Standing) (w : World) (x : RoundSteps) (made live : List Create) : Type 0 where
  pub calls : Ends (loaded w (batch_of h s.book)) x.calls x.called
  pub reaps : Ends (reaps_loaded x.called (dying h s)) x.reaps x.reaped
  pub looks : Ends (look_loaded x.reaped) x.looks x.left
  pub made_listed : Lists (created_as s.book) made
  pub live_listed : Lists (live_as s.book) live

-- What the round prints is legal, with one real at each step, calls in turn, and clients that see all; and the next round goes on from it.
pub record GoesRight (h : Header) (s : Standing) (w : World) (x : RoundSteps) (made live : List Create) : Type 0 where
  pub legal : IsRound h s (printed_by h s x made live) (left_by h s x made live)
  pub one_real : HasOneReal h s w
  pub in_turn : ExecutesInTurn h s w
  pub sees_all : ClientsSeeAll h s (printed_by h s x made live) (left_by h s x made live)
  pub goes_on : GoesOn h (left_by h s x made live) (tree_of s.book) x.left
