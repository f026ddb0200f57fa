-- How far a script was read, beside the standing of a transcript.
use Rattle.std.specs.Prelude.{◌≡◌, ◌<◌, ◌≤◌, ◌+◌, List, Option, Some}
use Rattle.seam_node_steps.specs.Prelude.{Division, World}
use Rattle.seam_rule_rounds.specs.Prelude.{Line, Header, open_lines, MOST_LINES, Standing, Piece}
use Rattle.seam_law_book.specs.Prelude.{as_begun}
use Rattle.seam_law_transcript.specs.Prelude.{MayEnd, most_lines, GoesOn}
use Rattle.seam_accept.specs.Refines.{Refines as HoldsBook, LineAccepted}
use Rattle.seam_accept.specs.declared.answers.Accepted.{Accepted}
use Rattle.seam_world_text.specs.Residents.{AreResidents}
use Rattle.seam_world_rounds.specs.Transcripts.{PlayRounds}
use Rattle.seam_world_rounds.specs.Output.{Counts}
use Rattle.seam_world_rounds.specs.declared.round.Output.{Output}
use Rattle.seam_world_rounds.specs.declared.script.Script.{Script}

-- the script has a world that goes on with the standing, and the entities that live in it; and the standing's count of rounds
pub record HasWorld (h : Header) (t : Standing) (s : Script) : Type 0 where
  pub header : s.header ≡ h
  pub world : World
  pub is : s.world ≡ Some world
  pub tree : Division
  pub goes_on : GoesOn h t tree world
  pub residents : AreResidents (as_begun t.book) s.residents
  pub round : s.round ≡ t.rounds

-- the script refines the standing
pub record ScriptRefines (h : Header) (t : Standing) (s : Script) : Type 0 where
  pub has : HasWorld h t s
  pub book : HoldsBook h t.book s.book
  pub line : s.line ≡ t.lines
  pub most : t.lines ≤ most_lines
  pub below_most : open_lines t.book < MOST_LINES

-- the one world has played the rounds of the pieces, and is the other after them
abbrev pub PlaysOn : Header → (old new : Option World) → List Piece → Type 0
PlaysOn h old new pieces = (w : World) → old ≡ Some w → (v : World) × (new ≡ Some v) × PlayRounds h w pieces v

-- it has counted pieces, and its world has played their rounds
abbrev pub Gives : Output → Header → (old new : Script) → List Piece → Type 0
Gives output h old new pieces = Counts output old.totals new.totals pieces × PlaysOn h old.world new.world pieces

-- and after them it refines the standing
abbrev pub Refines : Output → Header → (old new : Script) → List Piece → Standing → Type 0
Refines output h old new pieces t =
    ScriptRefines h t new × Counts output old.totals new.totals pieces × PlaysOn h old.world new.world pieces

-- it refines a standing whose open round is to end
pub record IsReady (h : Header) (t : Standing) (s : Script) : Type 0 where
  pub has : HasWorld h t s
  pub book : HoldsBook h t.book s.book
  pub line : s.line ≡ t.lines
  pub may : MayEnd t

-- the script has counted a line and the book has answered it, and nothing has followed
pub record HasAccepted (h : Header) (t : Standing) (line : Line) (answer : Accepted) (s : Script) : Type 0 where
  pub has : HasWorld h t s
  pub answered : LineAccepted h t.book line answer s.book
  pub line_ : s.line ≡ t.lines + 1
  pub most : t.lines + 1 ≤ most_lines
  pub below_most : open_lines t.book < MOST_LINES
