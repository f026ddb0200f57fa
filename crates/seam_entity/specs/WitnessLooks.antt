-- Looks: what is known of others, and what a witness tells its client of them.
use Rattle.std.specs.Prelude.{ℕ, ◌+◌, Bool, true, false, ◌==◌, nat_lt, List, [], ◌∷◌, ◌++◌, map, length, filter_map, find, Option}
use Rattle.std.specs.Prelude.{None, Some, option_map}
use Rattle.std.specs.FinMap as table
use Rattle.seam_view.specs.declared.Seen.{Seen}
use Rattle.seam_view.specs.declared.Look.{Look}
use Rattle.seam_view.specs.declared.Look.TheVariants as look
use Rattle.seam_view.specs.ViewLooks.{one_look}
use Rattle.seam_view.specs.Replica.{after_looks}
use Rattle.seam_defs.specs.declared.flags.Group.{Group}
use Rattle.seam_defs.specs.declared.flags.Group.TheVariants as group
use Rattle.seam_defs.specs.declared.states.State.{State}
use Rattle.seam_defs.specs.declared.settings.Settings.{Settings}
use Rattle.seam_defs.specs.Deeds.{own_of, projected}
use Rattle.seam_call.specs.declared.shown.GhostCopy.{GhostCopy}
use Rattle.seam_call.specs.declared.shown.Shown.{Shown}
use Rattle.seam_call.specs.declared.shown.Shown.TheVariants.{Own, Enter, Set, Leave}
use Rattle.seam_entity.specs.Reals.{RealView, WitnessView}
use Rattle.seam_entity.specs.declared.message.Msg.{Msg}
use Rattle.seam_entity.specs.declared.message.Msg.TheVariants.{Update}
use Rattle.seam_entity.specs.Here.{Here, properties}

-- a witness that has told nothing
abbrev pub new_witness : Settings → WitnessView
new_witness settings = record {
  view = record {
    radius = settings.view_radius;
    hysteresis = settings.view_hysteresis;
    entries = [];
    shown = table.empty;
  };
  told = None;
  sent = 0;
}

-- a real with a witness that has told nothing
abbrev pub with_witness : Here → RealView → RealView
with_witness h r = record r { witness = Some (new_witness h.settings) }

-- what other clients are shown of an entity of this type and public version, whose state has the values of a group
abbrev pub shown_to_others : Here → Group → ℕ → ℕ → State → GhostCopy
shown_to_others h held ty version s =
    record { ty = ty; version = version; state = record { pos = s.pos; props = projected (properties h ty) held group.Other s.props } }

-- what they are shown of a real, and of a copy
abbrev pub other_of_real : Here → RealView → GhostCopy
other_of_real h r = shown_to_others h group.Real r.ty r.public r.state

abbrev pub other_of_copy : Here → GhostCopy → GhostCopy
other_of_copy h c = shown_to_others h group.Ghost c.ty c.version c.state

-- an entity with what is known of it
abbrev pub Known : Type 0
Known = ℕ × GhostCopy

abbrev pub seen_as : Known → Seen
seen_as k = record { entity = k.0; version = k.1.version; pos = k.1.state.pos }

abbrev pub is_of : ℕ → Known → Bool
is_of e k = k.0 == e

abbrev pub shown_of_known : Known → GhostCopy
shown_of_known k = k.1

-- what is known of an entity
abbrev pub known_of : ℕ → List Known → Option GhostCopy
known_of e known = option_map shown_of_known (find (is_of e) known)

-- what the client is shown for a look
abbrev pub shown_for : List Known → Look → Option Shown
shown_for known (look.Leave e) = Some (Leave e)
shown_for known (look.Set e) = option_map (Set e) (known_of e known)
shown_for known (look.Enter e) = option_map (Enter e) (known_of e known)

-- the witness's own state is to be shown: it never was, or its version is greater than that of the last one
abbrev pub own_due : Option ℕ → ℕ → Bool
own_due None version = true
own_due (Some told) version = nat_lt told version

abbrev own_if : Bool → Shown → List Shown
own_if true s = s ∷ []
own_if false s = []

-- what the client is shown, in order: its own entity where that is due, then the looks
abbrev pub all_shown : Here → RealView → WitnessView → List Known → List Look → List Shown
all_shown h r w known looks = own_if (own_due w.told r.version) (Own r.version (own_of (properties h r.ty) r.state)) ++
    filter_map (shown_for known) looks

-- the updates number from n + 1 on, and go to node b
abbrev pub numbered : ℕ → ℕ → ℕ → List Shown → List (ℕ × Msg)
numbered b e n [] = []
numbered b e n (s ∷ ss) = (b, Update (record { entity = e; number = n + 1; shown = s })) ∷ numbered b e (n + 1) ss

abbrev pub told_after : Bool → ℕ → Option ℕ → Option ℕ
told_after true version told = Some version
told_after false version told = told

-- the witness after it told these, for these looks
abbrev pub after_looking : List Known → List Look → List Shown → RealView → WitnessView → WitnessView
after_looking known looks shown r w =
    record {
      view = after_looks (map seen_as known) w.view looks;
      told = told_after (own_due w.told r.version) r.version w.told;
      sent = w.sent + length shown;
    }

-- how a witness looks at what is known
abbrev pub looks_of : RealView → WitnessView → List Known → List Look
looks_of r w known = one_look w.view r.state.pos (map seen_as known)

abbrev pub shown_of : Here → RealView → WitnessView → List Known → List Shown
shown_of h r w known = all_shown h r w known (looks_of r w known)
