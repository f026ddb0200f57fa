-- What clients see after a round, whatever cells there are.
use Rattle.std.specs.Prelude.{◌≡◌, ℕ, ◌+◌, ◌≤◌, IsTrue, List, Some}
use Rattle.std.specs.List.{AllByRecursion}
use Rattle.std.specs.FinMap as table
use Rattle.seam_rule_rounds.specs.Prelude.{ClientReplica, Row, row_of, rows_but, Header, is_shown, rows_of, RoundData, IsRound, Standing}
use Rattle.seam_rule_rounds.specs.Prelude.{replica_of}
use Rattle.seam_geo.specs.Pos.{distance}
use Rattle.seam_view.specs.ViewLooks.{in_view}

-- an entity in view, last shown at a version, is one of the table within radius and hysteresis, at its public version, and shown as others
-- are to be shown it then
pub record IsShownPresent (c : ClientReplica) (own : Row) (others : List Row) (e version : ℕ) : Type 0 where
  pub row : Row
  pub is : row_of others e ≡ Some row
  pub within : distance own.own.pos row.other.state.pos ≤ c.others.radius + c.others.hysteresis
  pub newest : version ≡ row.other.version
  pub copy : table.get c.copies e ≡ Some row.other

-- What a client shows is the table as it is now: its own entity at its version, in its own state; each other within the radius is in view;
-- each in view is within radius and hysteresis, at its public version, as it is then.
pub record ShowsPresent (c : ClientReplica) (own : Row) (others : List Row) : Type 0 where
  pub itself : c.own ≡ Some (own.version, own.own)
  pub near : AllByRecursion (λ f. distance own.own.pos f.other.state.pos ≤ c.others.radius → IsTrue (in_view c.others f.entity)) others
  pub each : AllByRecursion (λ p. IsShownPresent c own others p.0 p.1) c.others.entries

-- After the legal round r, which leaves the standing t, each client whose entity lives shows the flat table of that moment, with the states
-- that are in it.
abbrev pub ClientsSeeAll : Header → Standing → RoundData → Standing → Type 0
ClientsSeeAll h s r t = (legal : IsRound h s r t) (e : ℕ) (own : Row) → IsTrue (is_shown s.book e) →
    row_of (rows_of h t.orders legal.live) e ≡ Some own → ShowsPresent (replica_of h t e) own (rows_but e (rows_of h t.orders legal.live))
