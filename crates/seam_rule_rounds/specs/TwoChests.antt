-- A round in a space of two cells: two chests on both sides of the boundary, each with a ghost in the other's cell; the first has a
-- client, which is shown the second.
use Rattle.std.specs.Prelude.{ℕ, pos, ◌==◌, List, [], ◌∷◌, map, filter, None, if◌then◌else◌, ◌++◌, codes}
use Rattle.std.specs.FinSet as set
use Rattle.seam_geo.specs.declared.pos.Pos.{Pos}
use Rattle.seam_tree.specs.Division.{Division}
use Rattle.seam_tree.specs.Change.{with_cut}
use Rattle.seam_tree.specs.declared.boundary.Axis.TheVariants.{X}
use Rattle.seam_haunt.specs.Places.{Place, settled}
use Rattle.seam_defs.specs.Builtin.{builtin, chest_methods, method_named}
use Rattle.seam_defs.specs.Settings.{standard}
use Rattle.seam_defs.specs.declared.flags.Part.TheVariants as part
use Rattle.seam_defs.specs.declared.states.State.{State}
use Rattle.seam_defs.specs.declared.states.Deed.TheVariants as deed
use Rattle.seam_defs.specs.declared.types.Method.{Method}
use Rattle.seam_defs.specs.Types.{type_of, method_of}
use Rattle.seam_value.specs.declared.values.Value.{Value}
use Rattle.seam_value.specs.declared.values.Value.TheVariants.{Number}
use Rattle.seam_call.specs.declared.sender.Sender.TheVariants.{Base}
use Rattle.seam_call.specs.declared.call.Call.{Call}
use Rattle.seam_call.specs.declared.create.Create.{Create}
use Rattle.seam_call.specs.declared.shown.GhostCopy.{GhostCopy}
use Rattle.seam_call.specs.declared.shown.Shown.TheVariants.{Own, Enter}
use Rattle.seam_call.specs.declared.shown.ClientText.{ClientText}
use Rattle.seam_call.specs.declared.shown.ClientText.TheVariants as text
use Rattle.seam_toml.specs.declared.header.Header.{Header}
use Rattle.seam_rule_lines.specs.declared.verdict.Entry.{Entry}
use Rattle.seam_rule_lines.specs.declared.verdict.Entry.TheVariants.{Created, Called, Joined, Divided, Destroyed}
use Rattle.seam_rule_lines.specs.InOrder.{in_order}
use Rattle.seam_rule_lines.specs.Book.{Book, entries, one_cell, with_round_ended}
use Rattle.seam_rule_rounds.specs.Standing.{Standing, after_header}
use Rattle.seam_rule_rounds.specs.RoundPlaces.{distances, place_before}
use Rattle.seam_rule_rounds.specs.Lines.{ClientLine, RoundData}
use Rattle.seam_rule_rounds.specs.Round.{home_line, base_line}

abbrev pub header : Header
header = record { settings = standard; defs = builtin }

-- two cells, with the boundary at x = 5000
abbrev pub halves : Division
halves = with_cut (one_cell 10000) 0 (record { axis = X; at = 5000 })

abbrev pub at : ℕ → Pos
at x = record { x = x; z = 100 }

-- a chest, type 1 of the built-in types
abbrev pub chest : ℕ → ℕ → Create
chest e x = record { entity = e; ty = 1; pos = at x }

abbrev pub first : Create
first = chest 1 4900

abbrev pub second : Create
second = chest 2 5100

-- base node 1 lifts the lid of the second
abbrev pub lift : Call
lift = record {
  entity = 2;
  part = part.Cell;
  sender = Base 1;
  number = 1;
  deed = deed.Method (method_named (codes "lift") chest_methods) [];
}

-- a chest's state there
abbrev pub lid : ℕ → ℕ → State
lid x n = record { pos = at x; props = Number (pos n) ∷ [] }

-- the standing when the round ends: the client came after the first chest, and before the second
abbrev pub begun : Standing
begun = record (after_header header 1) {
  lines = 6;
  book = record {
    past = [];
    tree = one_cell 10000;
    current = Divided halves ∷ Created first ∷ Joined 1 ∷ Created second ∷ Called lift ∷ [];
  };
}

-- each is settled where it was made, and the second once more after its call
abbrev pub place_of : ℕ → Place
place_of e = if e == 1 then settled (distances standard) halves (place_before begun first) (at 4900)
    else settled (distances standard) halves (settled (distances standard) halves (place_before begun second) (at 5100)) (at 5100)

-- what the client is shown: itself, and the second chest with its lid lifted
abbrev pub own_line : ClientLine
own_line = record { entity = 1; ty = 1; line = record { number = 1; text = text.Shown (Own 0 (lid 4900 0)) } }

abbrev pub other_line : ClientLine
other_line = record {
  entity = 1;
  ty = 1;
  line = record { number = 2; text = text.Shown (Enter 2 (record { ty = 1; version = 1; state = lid 5100 1 })) };
}

abbrev pub shown : List ClientLine
shown = own_line ∷ other_line ∷ []

-- the standing after the round: each call was executed
abbrev pub ended : Standing
ended = record begun {
  rounds = 1;
  book = with_round_ended begun.book;
  orders = in_order (entries begun.book);
  places = place_of;
  told = λ e. map (λ l. l.line) (filter (λ l. l.entity == e) shown);
}

abbrev pub live : List Create
live = first ∷ second ∷ []

abbrev pub round : RoundData
round = record {
  number = 1;
  did = record { ty = 1; call = lift } ∷ [];
  dob = [];
  homes = map (home_line header ended) live;
  bases = map (base_line header ended) live;
  ghosts = record { entity = 1; cell = 1; version = 0 } ∷ record { entity = 2; cell = 0; version = 1 } ∷ [];
  shown = shown;
  bounds = None;
}

-- its text
abbrev pub text_of_round : List ℕ
text_of_round =
    codes "round 1\ndid 2 b1 1 lift\nhome 1 0 0 4900 100 lid=0\nhome 2 1 1 5100 100 lid=1\nbase 1 0\nbase 2 0\n"
    ++ codes "ghost 1 1 0\nghost 2 0 1\nto 1 1 own 0 4900 100 lid=0\nto 1 2 enter 2 Chest 1 5100 100 lid=1\nend 1\n"

-- ---- edges

-- an entity that was held there is settled at x, by the standard settings: 10 for homes, 400 for ghosts, and 20 more for those that are
abbrev pub settled_at : Place → ℕ → Place
settled_at was x = settled (distances standard) halves was (at x)

-- in cell 0, and with a ghost in cell 1
abbrev pub with_ghost : Place
with_ghost = record { home = 0; ghosts = set.insert set.empty 1 }

-- entity 1 was made and given a client, and is destroyed: all in one round, or the round is the next one
abbrev pub lines_of_one : List Entry
lines_of_one = Created first ∷ Joined 1 ∷ Destroyed 1 ∷ []

abbrev pub in_one_round : Book
in_one_round = record { past = []; tree = one_cell 10000; current = lines_of_one }

abbrev pub in_the_next : Book
in_the_next = record { past = lines_of_one; tree = one_cell 10000; current = [] }

-- the second chest as other clients may be shown it, at a version and with this lid
abbrev pub copy_of_second : ℕ → ℕ → GhostCopy
copy_of_second version n = record { ty = 1; version = version; state = lid 5100 n }

-- ---- texts and senders

-- a line that the client of avatar 1, of type 0 of the built-in types, is shown
abbrev pub to_avatar : ℕ → ClientText → ClientLine
to_avatar number told = record { entity = 1; ty = 0; line = record { number = number; text = told } }

abbrev pub numbers : List ℕ → List Value
numbers ns = map (λ n. Number (pos n)) ns

-- avatar 2 as other clients are shown it
abbrev pub avatar_2 : GhostCopy
avatar_2 = record { ty = 0; version = 4; state = record { pos = record { x = 7; z = 8 }; props = numbers (75 ∷ 0 ∷ []) } }

-- avatar 1 as its client is shown it
abbrev pub own_avatar : State
own_avatar = record { pos = record { x = 7; z = 8 }; props = numbers (100 ∷ 50 ∷ 0 ∷ []) }

-- methods of an avatar: exposed or not, of the cell part and of the base part
abbrev pub hit : Method
hit = method_of (type_of builtin 0) 3

abbrev pub mark : Method
mark = method_of (type_of builtin 0) 4

abbrev pub pay : Method
pay = method_of (type_of builtin 0) 5

abbrev pub promote : Method
promote = method_of (type_of builtin 0) 6
