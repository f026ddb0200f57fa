-- The plain round: what it is, list by list, by what was accepted and what the rounds so far left.
use Rattle.std.specs.Prelude.{◌≡◌, ℕ, ◌+◌, ◌==◌, List, [], ◌∷◌, ◌++◌, length, map, filter, find, unwrap_or}
use Rattle.std.specs.List.{flat_map}
use Rattle.std.specs.Option.{option_map}
use Rattle.seam_rule_rounds.specs.Prelude.{Place, settled_all, is_for, Create, ClientText, Header, Orders, calls_of, created_as, live_as}
use Rattle.seam_rule_rounds.specs.Prelude.{tree_of, Lists, done_lines, Row, one_look, version_of, position_at, positions_past, rows_of}
use Rattle.seam_rule_rounds.specs.Prelude.{Standing, in_first_cell, replica_of, distances, place_before, ClientLine, RoundData, base_shown}
use Rattle.seam_rule_rounds.specs.Prelude.{base_versions, home_line, base_line, ghost_lines}
use Rattle.seam_defs.specs.declared.flags.Part.TheVariants as part
use Rattle.seam_call.specs.declared.shown.ClientText.TheVariants as text
use Rattle.seam_judge_rounds.specs.Bounds.{PrintsBounds}
use Rattle.seam_judge_rounds.specs.RoundClients.{client_as}

-- each part executes the calls of the open round in the order of the lines
abbrev pub orders_after : Standing → Orders
orders_after s = λ p e. s.orders p e ++ filter (is_for p e) (calls_of s.book.current)

-- where an entity is left after these orders: settled where it was when the round began, and then after each call
abbrev pub place_after : Header → Standing → Orders → Create → Place
place_after h s orders c =
    let order = orders part.Cell c.entity in
    let began = version_of s.orders part.Cell c in
    settled_all (distances h.settings) (tree_of s.book) (place_before s c) (position_at h c order began ∷ positions_past h c order began)

-- where each of these entities is left, and every other one in the first cell
abbrev pub places_after : Header → Standing → Orders → List Create → ℕ → Place
places_after h s orders live e = unwrap_or (option_map (place_after h s orders) (find (λ c. c.entity == e) live)) in_first_cell

-- the standing with the calls of the open round executed, and with the live entities settled
abbrev pub played : Header → Standing → List Create → Standing
played h s live = record s { orders = orders_after s; places = places_after h s (orders_after s) live }

-- what the client of an entity is shown: its base part, and then one look at the table
abbrev pub texts_of : Header → Standing → Standing → List Row → Create → List ClientText
texts_of h s t rows c =
    map (base_shown h t c) (base_versions h s t c) ++ map text.Shown (one_look (replica_of h s c.entity) c.entity rows)

-- a text as the line of this number of an entity's client
abbrev pub line_at : Create → ℕ → ClientText → ClientLine
line_at c number x = record { entity = c.entity; ty = c.ty; line = record { number = number; text = x } }

-- texts as lines of an entity's client, numbered on from so many
abbrev pub lines_from : Create → ℕ → List ClientText → List ClientLine
lines_from c n [] = []
lines_from c n (x ∷ xs) = line_at c (n + 1) x ∷ lines_from c (n + 1) xs

-- the lines of an entity's client
abbrev pub lines_of : Header → Standing → Standing → List Row → Create → List ClientLine
lines_of h s t rows c = lines_from c (length (s.told c.entity)) (texts_of h s t rows c)

-- The plain round after a standing whose book has all lines of the round.
pub record IsPlain (h : Header) (s : Standing) (r : RoundData) : Type 0 where
  -- the entities that were created, those that live, and those with a client
  pub made : List Create
  pub listed : Lists (created_as s.book) made
  pub live : List Create
  pub living : Lists (live_as s.book) live
  pub clients : List Create
  pub attached : Lists (client_as s.book) clients
  -- the lines of the round
  pub number : r.number ≡ s.rounds + 1
  pub did : r.did ≡ done_lines (λ e. filter (is_for part.Cell e) (calls_of s.book.current)) made
  pub dob : r.dob ≡ done_lines (λ e. filter (is_for part.Base e) (calls_of s.book.current)) made
  pub homes : r.homes ≡ map (home_line h (played h s live)) live
  pub bases : r.bases ≡ map (base_line h (played h s live)) live
  pub ghosts : r.ghosts ≡ flat_map (ghost_lines h (tree_of s.book) (played h s live)) live
  pub shown : r.shown ≡ flat_map (lines_of h s (played h s live) (rows_of h (orders_after s) live)) clients
  pub bounds : PrintsBounds h s r.homes r.bounds
