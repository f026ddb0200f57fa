-- What a program gives for a line, with the steps of a round that it ends, beside the standing of a transcript: `refines` says which
-- standings the program holds after the pieces that it printed.
use Rattle.std.specs.Prelude.{◌≡◌, ℕ, List, [], ◌∷◌}
use Rattle.seam_rule_rounds.specs.Prelude.{Line, Journal, Header, Judges, Verdict, Standing, RoundData, IsRound, Piece, Ended, journals_of}
use Rattle.seam_rule_rounds.specs.Prelude.{Follows, Step, EndsInput}
use Rattle.seam_world_rounds.specs.Output.{round_output, output_of}
use Rattle.seam_world_rounds.specs.declared.round.Output.{Output}

module _ (output : Output) (h : Header) (t : Standing) where
  -- the open round ended with this text, by these steps
  pub record RoundEnds (refines : List Piece → Standing → Type 0) (text : List ℕ) (steps : Journal) : Type 0 where
    pub round : RoundData
    pub next : Standing
    pub legal : IsRound h t round next
    pub whole : text ≡ round_output output h.defs round steps
    pub after : refines (Ended t round steps next ∷ []) next

  -- what a line that the standing has counted asks for was done, with this text and these steps
  pub record LineFollowed (line : Line) (refines : List Piece → Standing → Type 0) (text : List ℕ) (steps : List Journal) : Type 0 where
    pub verdict : Verdict
    pub judges : Judges h t.book line verdict
    pub pieces : List Piece
    pub next : Standing
    pub follows : Follows h t verdict pieces next
    pub whole : text ≡ output_of output h.defs pieces
    pub stepped : steps ≡ journals_of pieces
    pub after : refines pieces next

  -- a line was read, with this text and these steps
  pub record LineRead (line : Line) (refines : List Piece → Standing → Type 0) (text : List ℕ) (steps : List Journal) : Type 0 where
    pub pieces : List Piece
    pub next : Standing
    pub step : Step h t line pieces next
    pub whole : text ≡ output_of output h.defs pieces
    pub stepped : steps ≡ journals_of pieces
    pub after : refines pieces next

  -- the input ended, with this text and these steps, and the program counts what was printed
  pub record InputEnded (counts : List Piece → Type 0) (text : List ℕ) (steps : List Journal) : Type 0 where
    pub pieces : List Piece
    pub ends : EndsInput h t pieces
    pub whole : text ≡ output_of output h.defs pieces
    pub stepped : steps ≡ journals_of pieces
    pub counted : counts pieces
