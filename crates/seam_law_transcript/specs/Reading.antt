-- What a round prints and leaves, read off two of the worlds that it goes through: the one where its calls have ended, and the last one.
use Rattle.std.specs.Prelude.{ℕ, ◌+◌, ◌++◌, List, [], ◌∷◌, map, filter, slice_get, slice_index_or, Option, None, Some, if◌then◌else◌}
use Rattle.std.specs.List.{flat_map, list_any}
use Rattle.seam_node_steps.specs.Prelude.{Division, Place, Create, Line, cell_numbers, RealView, PartView, World}
use Rattle.seam_rule_rounds.specs.Prelude.{Header, Book, destroys, is_shown, HomeLine, BaseLine, done_lines, ClientLine, RoundData, told_in}
use Rattle.seam_rule_rounds.specs.Prelude.{Standing, in_first_cell}
use Rattle.seam_law_calls.specs.Prelude.{proxy_of, lines_in}
use Rattle.seam_law_ghosts.specs.Prelude.{place_of}
use Rattle.seam_law_book.specs.Prelude.{base_node, done_in, with_done, home_read, base_read, ghosts_read, real_here, part_here}
use Rattle.seam_defs.specs.declared.flags.Part.TheVariants as part

-- ---- of one entity

-- the home line of its real, in whichever cell that is
abbrev pub home_if : ℕ → ℕ → Option RealView → List HomeLine
home_if e k None = []
home_if e k (Some r) = home_read e k r ∷ []

abbrev pub homes_read : World → ℕ → List HomeLine
homes_read w e = flat_map (λ k. home_if e k (real_here e (slice_get w.nodes k))) cell_numbers

-- where it is held
abbrev pub place_if : ℕ → Option RealView → List Place
place_if k None = []
place_if k (Some r) = place_of k r ∷ []

abbrev pub place_read : World → ℕ → Place
place_read w e = slice_index_or (flat_map (λ k. place_if k (real_here e (slice_get w.nodes k))) cell_numbers) 0 in_first_cell

-- the base line of its base part
abbrev pub base_if : ℕ → Option PartView → List BaseLine
base_if e None = []
base_if e (Some p) = base_read e p ∷ []

abbrev pub bases_read : Header → World → ℕ → List BaseLine
bases_read h w e = base_if e (part_here e (slice_get w.nodes (base_node h e)))

-- the lines that its client was shown in the round so far
abbrev pub lines_shown : Header → World → ℕ → List Line
lines_shown h w e = lines_in (proxy_of (part_here e (slice_get w.nodes (base_node h e))))

-- and in the whole round; those of one that dies in it up to where the calls have ended, since nothing is left of it after
abbrev pub lines_told : Header → Book → World → World → ℕ → List Line
lines_told h b called v e = if list_any (destroys e) b.current then lines_shown h called e else lines_shown h v e

-- ---- a round

-- those lines as the round prints them
abbrev pub client_lines : Create → List Line → List ClientLine
client_lines c ls = map (λ l. record { entity = c.entity; ty = c.ty; line = l }) ls

-- What the round of the standing's open lines prints, where `made` are the entities that were created and `live` those that live.
abbrev pub round_read : Header → Standing → (made live : List Create) → (called v : World) → Option Division → RoundData
round_read h s made live called v bounds = record {
  number = s.rounds + 1;
  did = done_lines (done_in h called part.Cell) made;
  dob = done_lines (done_in h called part.Base) made;
  homes = flat_map (λ c. homes_read v c.entity) live;
  bases = flat_map (λ c. bases_read h v c.entity) live;
  ghosts = flat_map (λ c. ghosts_read c.entity v) live;
  shown = flat_map (λ c. client_lines c (lines_told h s.book called v c.entity)) (filter (λ c. is_shown s.book c.entity) made);
  bounds = bounds;
}

-- the standing that it leaves, with the book of the next round
abbrev pub standing_read : Header → Standing → (called v : World) → RoundData → Book → Standing
standing_read h s called v r next = record {
  lines = s.lines;
  rounds = s.rounds + 1;
  book = next;
  orders = with_done s.orders (done_in h called);
  places = place_read v;
  told = λ e. s.told e ++ told_in r e;
}
