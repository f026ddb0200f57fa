-- What a client shows, and what each line changes in it.
use Rattle.std.specs.Prelude.{ℕ, List, [], fold, Option, None, Some}
use Rattle.std.specs.List.{filter_map}
use Rattle.std.specs.Ordering.{nat_cmp}
use Rattle.std.specs.FinMap as table
use Rattle.seam_view.specs.Replica.{Replica, with_version_shown, without}
use Rattle.seam_defs.specs.declared.states.State.{State}
use Rattle.seam_defs.specs.declared.settings.Settings.{Settings}
use Rattle.seam_call.specs.declared.shown.GhostCopy.{GhostCopy}
use Rattle.seam_call.specs.declared.shown.Shown.{Shown}
use Rattle.seam_call.specs.declared.shown.Shown.TheVariants.{Own, Enter, Set, Leave}
use Rattle.seam_call.specs.declared.shown.ClientText.{ClientText}
use Rattle.seam_call.specs.declared.shown.ClientText.TheVariants as text
use Rattle.seam_call.specs.declared.shown.Line.{Line}

-- What a client shows: its own entity, at the version and with the state of its last own line; which others are in view, in enter order,
-- and the version last shown of every entity ever shown, also of one that left; and each entity as it was last shown.
pub record ClientReplica : Type 0 where
  pub own : Option (ℕ × State)
  pub others : Replica
  pub copies : table.FinMap nat_cmp GhostCopy

-- a client that was shown nothing
abbrev pub new_client : Settings → ClientReplica
new_client s = record {
  own = None;
  others = record { radius = s.view_radius; hysteresis = s.view_hysteresis; entries = []; shown = table.empty };
  copies = table.empty;
}

-- another entity was shown: it keeps its place in the view, or comes last where it was not in view
abbrev pub with_copy_shown : ClientReplica → ℕ → GhostCopy → ClientReplica
with_copy_shown c e k = record c { others = with_version_shown c.others e k.version; copies = table.insert c.copies e k }

-- what a client shows after one thing more was shown: how another entity that left the view was last shown is still known
abbrev pub after_shown : ClientReplica → Shown → ClientReplica
after_shown c (Own version state) = record c { own = Some (version, state) }
after_shown c (Enter e copy) = with_copy_shown c e copy
after_shown c (Set e copy) = with_copy_shown c e copy
after_shown c (Leave e) = record c { others = record c.others { entries = without e c.others.entries } }

-- after one thing after another
abbrev pub after_all_shown : ClientReplica → List Shown → ClientReplica
after_all_shown c xs = fold after_shown c xs

-- what a line shows of cell parts: nothing where it shows the base part
abbrev pub shown_by : ClientText → Option Shown
shown_by (text.Shown x) = Some x
shown_by (text.Base version props) = None

-- what lines show, but for those that show the base part
abbrev pub shown_by_lines : List Line → List Shown
shown_by_lines lines = filter_map (λ l. shown_by l.text) lines

-- what a client shows after these lines; those that show its base part change nothing of it
abbrev pub after_lines : ClientReplica → List Line → ClientReplica
after_lines c lines = after_all_shown c (shown_by_lines lines)
