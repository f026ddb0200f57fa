-- The book of what was accepted, and what follows from it.
use Rattle.std.specs.Prelude.{ℕ, Bool, true, false, not, ◌&&◌, ◌==◌, List, [], ◌∷◌, ◌++◌, length, fold, filter, find, if◌then◌else◌}
use Rattle.std.specs.Prelude.{Option, Some, None, is_some}
use Rattle.std.specs.List.{filter_map, list_any, count_by}
use Rattle.seam_tree.specs.Division.{Division}
use Rattle.seam_defs.specs.declared.flags.Part.{Part}
use Rattle.seam_call.specs.Calls.{is_from}
use Rattle.seam_call.specs.declared.sender.Sender.{Sender}
use Rattle.seam_call.specs.declared.call.Call.{Call}
use Rattle.seam_call.specs.declared.create.Create.{Create}
use Rattle.seam_rule_lines.specs.declared.verdict.Entry.{Entry}
use Rattle.seam_rule_lines.specs.declared.verdict.Entry.TheVariants as entry

-- What was accepted, in the order of the lines, in the rounds that ended and in the open one; and the tree with which this one began.
pub record Book : Type 0 where
  pub past : List Entry
  pub tree : Division
  pub current : List Entry

-- a space of one cell
abbrev pub one_cell : ℕ → Division
one_cell size = record { size = size; cuts = [] }

-- nothing was accepted so far, in a space of this size
abbrev pub empty_book : ℕ → Book
empty_book size = record { past = []; tree = one_cell size; current = [] }

-- all that was accepted
abbrev pub entries : Book → List Entry
entries b = b.past ++ b.current

-- how many accepted lines the open round has
abbrev pub open_lines : Book → ℕ
open_lines b = length b.current

-- one more line was accepted
abbrev pub with_entry : Book → Entry → Book
with_entry b x = record b { current = b.current ++ x ∷ [] }

-- ---- creates and calls

-- what an entry created
abbrev pub created : Entry → Option Create
created (entry.Created c) = Some c
created x = None

-- the call of an entry
abbrev pub called : Entry → Option Call
called (entry.Called c) = Some c
called x = None

abbrev pub creates_of : List Entry → List Create
creates_of xs = filter_map created xs

abbrev pub calls_of : List Entry → List Call
calls_of xs = filter_map called xs

-- what made the entity of a number, dead or live
abbrev pub created_as : Book → ℕ → Option Create
created_as b e = find (λ c. c.entity == e) (creates_of (entries b))

-- the calls accepted from a sender for a part of an entity
abbrev pub accepted : Book → Part → ℕ → Sender → List Call
accepted b p e s = filter (is_from p e s) (calls_of (entries b))

-- ---- who lives, and who has a client

-- whether the entry destroys the entity
abbrev pub destroys : ℕ → Entry → Bool
destroys e (entry.Destroyed d) = d == e
destroys e x = false

-- whether the entry gives the entity a client
abbrev pub joins : ℕ → Entry → Bool
joins e (entry.Joined d) = d == e
joins e x = false

-- whether the entry makes the entity
abbrev pub makes : ℕ → Entry → Bool
makes e (entry.Created c) = c.entity == e
makes e x = false

-- the live entity of a number: one that was created and not destroyed
abbrev pub live_as : Book → ℕ → Option Create
live_as b e = if list_any (destroys e) (entries b) then None else created_as b e

-- whether the entity lives and has a client
abbrev pub has_client : Book → ℕ → Bool
has_client b e = is_some (live_as b e) && list_any (joins e) (entries b)

-- how many live entities have a client
abbrev pub count_of_clients : Book → ℕ
count_of_clients b = count_by (λ c. has_client b c.entity) (creates_of (entries b))

-- whether the entity was destroyed before the open round began
abbrev pub was_dead : Book → ℕ → Bool
was_dead b e = list_any (destroys e) b.past

-- whether the entity was made in the open round
abbrev pub is_new : Book → ℕ → Bool
is_new b e = list_any (makes e) b.current

-- whether the entity's client was made in the open round
abbrev pub is_new_client : Book → ℕ → Bool
is_new_client b e = list_any (joins e) b.current

-- whether the entity has a client at some time of the open round: it was made and given one, and was not dead before
abbrev pub is_shown : Book → ℕ → Bool
is_shown b e = is_some (created_as b e) && list_any (joins e) (entries b) && not (was_dead b e)

-- ---- cells, looks and balances

abbrev pub divided : Division → Entry → Division
divided t (entry.Divided u) = u
divided t x = t

-- the tree after all accepted lines: that of the open round, wherever in the round it was cut
abbrev pub tree_of : Book → Division
tree_of b = fold divided b.tree b.current

abbrev pub is_tick : Entry → Bool
is_tick entry.Ticked = true
is_tick x = false

-- whether witnesses look inside the open round
abbrev pub has_tick : Book → Bool
has_tick b = list_any is_tick b.current

abbrev pub is_balance : Entry → Bool
is_balance entry.Balanced = true
is_balance x = false

-- whether the boundaries are balanced when the open round ends
abbrev pub has_balance : Book → Bool
has_balance b = list_any is_balance b.current

-- ---- the next round

-- the open round ended, and the next one begins with its tree
abbrev pub with_round_ended : Book → Book
with_round_ended b = record { past = entries b; tree = tree_of b; current = [] }

-- the open round began with this tree
abbrev pub with_tree : Book → Division → Book
with_tree b t = record b { tree = t }
