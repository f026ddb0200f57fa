-- The standing that plain lists are.
use Rattle.std.specs.Prelude.{ℕ, List, map, filter, find, unwrap_or, ◌==◌}
use Rattle.std.specs.Option.{option_map}
use Rattle.seam_rule_rounds.specs.Prelude.{Place, is_for, Standing, in_first_cell}
use Rattle.seam_judge_data.specs.declared.standing.Held.{Held}
use Rattle.seam_judge_data.specs.declared.standing.Standing as plain

-- where an entity is held
abbrev pub place_among : List Held → ℕ → Place
place_among places e = unwrap_or (option_map (λ h. h.place) (find (λ h. h.entity == e) places)) in_first_cell

-- the standing
abbrev pub standing_of : plain.Standing → Standing
standing_of s = record {
  lines = s.lines;
  rounds = s.rounds;
  book = record { past = s.past.items; tree = s.tree; current = s.current.items };
  orders = λ p e. filter (is_for p e) s.calls.items;
  places = λ e. place_among s.places.items e;
  told = λ e. map (λ l. l.line) (filter (λ l. l.entity == e) s.told.items);
}
