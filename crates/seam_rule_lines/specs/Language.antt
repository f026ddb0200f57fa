-- What lines say: the words of each command.
use Rattle.std.specs.Prelude.{◌≡◌, ◌⊎◌, ℕ, List, [], ◌∷◌, ◌++◌, codes, Contains}
use Rattle.seam_value.specs.NumberWords.{SpellsNumber}
use Rattle.seam_value.specs.Values.{decimal_of}
use Rattle.seam_words.specs.Words.{IsGap}
use Rattle.seam_words.specs.SplitWords.{HasWords}
use Rattle.seam_tree.specs.declared.boundary.Axis.{Axis}
use Rattle.seam_tree.specs.declared.boundary.Axis.TheVariants as axis
use Rattle.seam_tree.specs.declared.boundary.Boundary.{Boundary}
use Rattle.seam_call.specs.declared.sender.Sender.{Sender}
use Rattle.seam_call.specs.declared.sender.Sender.TheVariants as sender

-- the bytes of a word
abbrev pub Word : Type 0
Word = List ℕ

-- a line without words: it has spaces and tabs alone, or a `#` after them
abbrev pub IsSkipped : List ℕ → Type 0
IsSkipped line = (gap : List ℕ) × IsGap gap × ((line ≡ gap) ⊎ ((note : List ℕ) × (line ≡ gap ++ 35 ∷ note)))

-- A command, by its words: make an entity of a type at a position; let a sender call a method of an entity with arguments; let a
-- sender move an entity; end the round; give an entity a client; let all witnesses look; cut a cell along an axis; move a boundary;
-- balance the boundaries when the round ends; destroy an entity. What the words name is looked up when the command is judged.
pub data Command : Type 0 where
  Create : (entity type_name x z : Word) → Command
  Call : (sender_name entity method_name : Word) (arguments : List Word) → Command
  Move : (sender_name entity x z : Word) → Command
  Sync : Command
  Client : (entity : Word) → Command
  Tick : Command
  Cut : (cell axis_name at : Word) → Command
  Shift : (boundary at : Word) → Command
  Balance : Command
  Destroy : (entity : Word) → Command

-- the words of a command
abbrev pub words_of : Command → List Word
words_of (Create entity type_name x z) = codes "create" ∷ entity ∷ type_name ∷ x ∷ z ∷ []
words_of (Call sender_name entity method_name arguments) = codes "call" ∷ sender_name ∷ entity ∷ method_name ∷ arguments
words_of (Move sender_name entity x z) = codes "move" ∷ sender_name ∷ entity ∷ x ∷ z ∷ []
words_of Sync = codes "sync" ∷ []
words_of (Client entity) = codes "client" ∷ entity ∷ []
words_of Tick = codes "tick" ∷ []
words_of (Cut cell axis_name at) = codes "cut" ∷ cell ∷ axis_name ∷ at ∷ []
words_of (Shift boundary at) = codes "shift" ∷ boundary ∷ at ∷ []
words_of Balance = codes "balance" ∷ []
words_of (Destroy entity) = codes "destroy" ∷ entity ∷ []

-- the first words of the commands
abbrev pub command_names : List Word
command_names =
    codes "create" ∷ codes "call" ∷ codes "move" ∷ codes "sync" ∷ codes "client" ∷ codes "tick" ∷ codes "cut" ∷ codes "shift"
    ∷ codes "balance" ∷ codes "destroy" ∷ []

-- the first of the words is that of a command
abbrev pub NamesCommand : List Word → Type 0
NamesCommand [] = ⊥
NamesCommand (first ∷ rest) = Contains command_names first

-- the words of the line spell the command
abbrev pub SpellsCommand : List ℕ → Command → Type 0
SpellsCommand line c = HasWords line (words_of c)

-- how a sender is spelled
abbrev pub sender_text : Sender → Word
sender_text (sender.Base n) = 98 ∷ decimal_of n
sender_text (sender.Client e) = 99 ∷ decimal_of e

-- how an axis is spelled
abbrev pub axis_text : Axis → Word
axis_text axis.X = codes "x"
axis_text axis.Z = codes "z"

-- the words spell a boundary, by its axis and its place
pub record SpellsBoundary (axis_name at : Word) (b : Boundary) : Type 0 where
  pub axis : axis_text b.axis ≡ axis_name
  pub place : SpellsNumber at b.at
