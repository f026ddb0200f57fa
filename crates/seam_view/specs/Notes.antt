-- What a look makes of each entity in view, noted in enter order.
use Rattle.std.specs.Prelude.{ℕ, Bool, true, false, List, [], ◌∷◌, map, Option, if◌then◌else◌}
use Rattle.seam_geo.specs.declared.pos.Pos.{Pos}
use Rattle.seam_view.specs.declared.Seen.{Seen}
use Rattle.seam_view.specs.declared.Note.{Note}
use Rattle.seam_view.specs.declared.Note.TheVariants.{Stays, Leaves, Changed}
use Rattle.seam_view.specs.Replica.{Replica, seen_of}
use Rattle.seam_view.specs.ViewLooks.{leaves, has_changed}

abbrev pub note_of : Replica → Pos → ℕ → Option Seen → Note
note_of r own v o = if leaves r own v o then Leaves else if has_changed r own v o then Changed else Stays

-- the notes of all in view
abbrev pub notes_of : Replica → Pos → List Seen → List Note
notes_of r own known = map (λ p. note_of r own p.1 (seen_of p.0 known)) r.entries

abbrev pub is_leave : Note → Bool
is_leave Stays = false
is_leave Leaves = true
is_leave Changed = false

abbrev pub is_change : Note → Bool
is_change Stays = false
is_change Leaves = false
is_change Changed = true

-- the entities whose notes pass the test
abbrev pub noted : (Note → Bool) → List Note → List ℕ → List ℕ
noted test [] es = []
noted test (n ∷ ns) [] = []
noted test (n ∷ ns) (e ∷ es) = if test n then e ∷ noted test ns es else noted test ns es
