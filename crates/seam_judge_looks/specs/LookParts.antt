-- What each entity gives to one look.
use Rattle.std.specs.Prelude.{ℕ, List, if◌then◌else◌, Option, None, Some, option_map}
use Rattle.seam_rule_rounds.specs.Prelude.{Pos, Shown, Enter, Set, Leave, ClientReplica, Row, row_of, seen}
use Rattle.seam_view.specs.ViewLooks.{has_changed}
use Rattle.seam_view.specs.Plain.{is_gone, is_new}

-- an entity in view, with the version last shown, leaves
abbrev pub leave_of : ClientReplica → Pos → List Row → ℕ × ℕ → Option Shown
leave_of c own others p = if is_gone c.others own (option_map seen (row_of others p.0)) then Some (Leave p.0) else None

-- it is set
abbrev pub set_of : ClientReplica → Pos → List Row → ℕ × ℕ → Option Shown
set_of c own others p =
    if has_changed c.others own p.1 (option_map seen (row_of others p.0)) then option_map (λ r. Set p.0 r.other) (row_of others p.0)
    else None

-- an entity of the table enters
abbrev pub enter_of : ClientReplica → Pos → List Row → Row → Option Shown
enter_of c own others f =
    if is_new c.others own (seen f) then option_map (λ r. Enter f.entity r.other) (row_of others f.entity) else None
