-- What a transcript of the server is: each of its rounds is legal, and one world of cells printed them all, which played one after another
-- with one real for each live entity at every step.
use Rattle.std.specs.Prelude.{◌≡◌, ◌⊎◌, ℕ, Bool, List, [], ◌∷◌}
use Rattle.seam_node_steps.specs.Prelude.{Create, loaded, reaps_loaded, look_loaded, opened, World}
use Rattle.seam_rule_rounds.specs.Prelude.{Line, Journal, Header, AwaitHeader, created_as, live_as, Lists, Standing, RoundData, Piece}
use Rattle.seam_rule_rounds.specs.Prelude.{Refusal, Ended, PrintLines, PrintAll, journals_of}
use Rattle.seam_law_transcript.specs.Prelude.{Ends, dying, round_read, standing_read, HasOneReal, ExecutesInTurn, MayBreakOff}
use Rattle.seam_law_transcript.specs.Prelude.{ClientsSeeAll}
use Rattle.seam_accept.specs.Batches.{batch_of}
use Rattle.seam_rule_rounds.specs.Transcript.{text_of}
use Rattle.seam_quiet.specs.RoundRuns.{IsWithinTable}

-- The world w played the round of the standing s by the steps of the journal j, no more than the table of a round allows, and is v after
-- it: the batch of the round's lines was loaded, and the steps led on, until the calls had ended, the dead were reaped and the witnesses
-- had looked. What it printed, r, and the standing that it left, t, are read off the world where the calls had ended, and off v; but the
-- boundaries of r and the book of t are what they are here, and what they have to be is a point of a legal round (*IsRound*). At each step
-- each live entity had one real, and its parts had executed the first ones of the calls accepted from each sender, in order and once; and
-- after the round each client shows all that is within its radius.
pub record Plays (h : Header) (s : Standing) (w : World) (r : RoundData) (j : Journal) (t : Standing) (v : World) : Type 0 where
  pub settled : World
  pub calls : Ends (loaded w (batch_of h s.book)) j.calls settled
  pub reaped : World
  pub reaps : Ends (reaps_loaded settled (dying h s)) j.reaps reaped
  pub looks : Ends (look_loaded reaped) j.looks v
  pub within : IsWithinTable w (batch_of h s.book) j reaped
  pub made : List Create
  pub made_listed : Lists (created_as s.book) made
  pub live : List Create
  pub live_listed : Lists (live_as s.book) live
  pub prints : r ≡ round_read h s made live settled v r.bounds
  pub leaves : t ≡ standing_read h s settled v r t.book
  pub one_real : HasOneReal h s w
  pub in_turn : ExecutesInTurn h s w
  pub sees_all : ClientsSeeAll h s r t

-- one world, w, played the rounds of the pieces, each from what the one before it left, and is v after them
abbrev pub PlayRounds : Header → World → List Piece → World → Type 0
PlayRounds h w [] v = v ≡ w
PlayRounds h w (Refusal line c ∷ pieces) v = PlayRounds h w pieces v
PlayRounds h w (Ended s r j t ∷ pieces) v = (next : World) × Plays h s w r j t next × PlayRounds h next pieces v

-- the world that played them was opened for the header
abbrev pub WerePlayed : Header → List Piece → Type 0
WerePlayed h pieces = (v : World) × PlayRounds h (opened h.defs h.settings) pieces v

-- and the round that is open then, in the standing t, may be cut off wherever it is: it goes as one that ends
abbrev pub WerePlayedSoFar : Header → List Piece → Standing → Type 0
WerePlayedSoFar h pieces t = (v : World) × PlayRounds h (opened h.defs h.settings) pieces v × MayBreakOff h t v

-- an open transcript of the lines read, with the steps of its rounds: nothing where they may yet begin a header, and what the lines
-- after it print where they have one
abbrev pub IsOpen : (traced : Bool) → List Line → List ℕ → List Journal → Type 0
IsOpen traced lines text steps =
    ((text ≡ []) × (steps ≡ []) × AwaitHeader lines)
    ⊎ ((h : Header) × (pieces : List Piece) × (t : Standing) × PrintLines lines h pieces t × WerePlayedSoFar h pieces t
    × (text ≡ text_of traced h.defs pieces) × (steps ≡ journals_of pieces))

-- an ended transcript of all lines
abbrev pub IsEnded : (traced : Bool) → List Line → List ℕ → List Journal → Type 0
IsEnded traced lines text steps =
    (h : Header) × (pieces : List Piece) × PrintAll lines h pieces × WerePlayed h pieces
    × (text ≡ text_of traced h.defs pieces) × (steps ≡ journals_of pieces)
