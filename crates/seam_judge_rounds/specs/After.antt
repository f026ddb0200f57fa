-- The standing that a round leaves, by what it prints.
use Rattle.std.specs.Prelude.{ℕ, Bool, List, ◌++◌, ◌+◌, ◌==◌, ◌&&◌, nat_lt, map, filter, find, unwrap_or, is_some, IsTrue}
use Rattle.std.specs.List.{All}
use Rattle.std.specs.Option.{option_map}
use Rattle.std.specs.FinSet as set
use Rattle.seam_rule_rounds.specs.Prelude.{MOST_CELLS, Cells, Place, is_for, HomeLine, Book, entries, calls_of, created_as}
use Rattle.seam_rule_rounds.specs.Prelude.{with_round_ended, Standing, in_first_cell, GhostLine, RoundData, told_in, with_bounds}

-- whether a ghost line is one of this entity, in a cell that a tree can have
abbrev pub is_ghost_of : ℕ → GhostLine → Bool
is_ghost_of e l = (l.entity == e) && nat_lt l.cell MOST_CELLS

-- the cells of these lines with a ghost of an entity
abbrev pub ghosts_among : List GhostLine → ℕ → Cells
ghosts_among lines e = set.from_list (map (λ l. l.cell) (filter (is_ghost_of e) lines))

-- where a home line, and the ghost lines of its entity, show the entity
abbrev pub place_at : RoundData → HomeLine → Place
place_at r l = record { home = l.cell; ghosts = ghosts_among r.ghosts l.entity }

-- where a round shows an entity; in the first cell, where it has no home line
abbrev pub place_in : RoundData → ℕ → Place
place_in r e = unwrap_or (option_map (place_at r) (find (λ l. l.entity == e) r.homes)) in_first_cell

-- The standing after a round: each part executed the calls of its lines, each entity is held where its lines show it, and each client was
-- shown its lines.
abbrev pub after_round : Standing → RoundData → Standing
after_round s r = record {
  lines = s.lines;
  rounds = s.rounds + 1;
  book = with_bounds (with_round_ended s.book) r.bounds;
  orders = λ p e. s.orders p e ++ filter (is_for p e) (map (λ l. l.call) (r.did ++ r.dob));
  places = place_in r;
  told = λ e. s.told e ++ told_in r e;
}

-- each accepted call is for an entity that was created
abbrev pub AreForMade : Book → Type 0
AreForMade b = All (λ x. IsTrue (is_some (created_as b x.entity))) (calls_of (entries b))
