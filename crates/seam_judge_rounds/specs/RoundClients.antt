-- Which entities have a client in a round.
use Rattle.std.specs.Prelude.{◌≡◌, ℕ, ◌++◌, Option, None, if◌then◌else◌, IsTrue, List, map, Bool, not, ◌&&◌}
use Rattle.std.specs.List.{All, list_any}
use Rattle.std.specs.List.Sorted.{IsNonDecreasing}
use Rattle.seam_rule_rounds.specs.Prelude.{Create, Header, Book, created_as, entries, joins, was_dead, is_shown}
use Rattle.seam_rule_rounds.specs.Prelude.{Standing, RoundData, told_in, ShowsClient}

-- the entity of a number, where it has a client at some time of the open round
abbrev pub client_as : Book → ℕ → Option Create
client_as b e = if is_shown b e then created_as b e else None

-- the lines that a client was told up to the round's end are those before the round, and then those of the round
abbrev pub AddsLines : Standing → RoundData → Standing → ℕ → Type 0
AddsLines s r t e = t.told e ≡ s.told e ++ told_in r e

-- *HasShown* by the list of clients, without what they were told before
abbrev pub ShowsLines : Header → Standing → RoundData → Standing → List Create → Type 0
ShowsLines h s r t clients =
    IsNonDecreasing (map (λ l. l.entity) r.shown) × All (λ l. IsTrue (is_shown s.book l.entity)) r.shown × All (ShowsClient h s r t) clients

-- whether an entity, if it was created, has a client at some time of the open round
abbrev pub is_known : Book → ℕ → Bool
is_known b e = list_any (joins e) (entries b) && not (was_dead b e)
