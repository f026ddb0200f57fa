-- What a client was shown, and what each look changes in it.
use Rattle.std.specs.Prelude.{◌≡◌, ℕ, ◌≤◌, ◌+◌, nat_eq, Bool, true, not, ◌&&◌, List, [], ◌∷◌, fold, find, Option, None, Some}
use Rattle.std.specs.Prelude.{if◌then◌else◌}
use Rattle.std.specs.Ordering.{nat_cmp}
use Rattle.std.specs.List.{AllByRecursion, IsDistinct, list_any}
use Rattle.std.specs.Map.{keys_of}
use Rattle.std.specs.FinMap as versions
use Rattle.std.specs.Coded.{Coded, code_by, coded×, coded_ℕ, coded_list}
use Rattle.std.proofs.Common.{refl}
use Rattle.seam_view.specs.declared.Seen.{Seen}
use Rattle.seam_view.specs.declared.Look.{Look}
use Rattle.seam_view.specs.declared.Look.TheVariants.{Leave, Set, Enter}

-- the two distances of a view, the entities in view in enter order, each with the last version shown, and the last version shown of every
-- entity ever shown
pub record Replica : Type 0 where
  pub radius : ℕ
  pub hysteresis : ℕ
  pub entries : List (ℕ × ℕ)
  pub shown : versions.FinMap nat_cmp ℕ

-- each pair is of an entity and the version last shown of it
abbrev pub AreShown : versions.FinMap nat_cmp ℕ → List (ℕ × ℕ) → Type 0
AreShown shown es = AllByRecursion (λ p. versions.get shown p.0 ≡ Some p.1) es

-- no entity is in view twice, and of each the version is the one last shown
pub record IsView (r : Replica) : Type 0 where
  pub once : IsDistinct nat_eq (keys_of r.entries)
  pub shown : AreShown r.shown r.entries

-- of each entity of which a version was shown, that or a later one is shown
abbrev pub NeverFalls : Replica → Replica → Type 0
NeverFalls old new = (e v : ℕ) → versions.get old.shown e ≡ Some v → (w : ℕ) × (versions.get new.shown e ≡ Some w) × (v ≤ w)

-- beside it: there are places in view for so many that enter, and places beside it for so many that leave
pub record ViewValue : Type 0 where
  pub core : Replica
  pub enters : ℕ
  pub leaves : ℕ

abbrev pub replica_code : Coded Replica
replica_code =
    code_by (ℕ × (ℕ × (List (ℕ × ℕ) × versions.FinMap nat_cmp ℕ)))
    (coded× coded_ℕ (coded× coded_ℕ (coded× (coded_list (coded× coded_ℕ coded_ℕ)) (versions.code coded_ℕ coded_ℕ))))
    (λ r. (r.radius, (r.hysteresis, (r.entries, r.shown))))
    (λ q. record { radius = q.0; hysteresis = q.1.0; entries = q.1.1.0; shown = q.1.1.1 }) (λ _. refl)

abbrev pub view_code : Coded ViewValue
view_code =
    code_by (Replica × (ℕ × ℕ)) (coded× replica_code (coded× coded_ℕ coded_ℕ)) (λ w. (w.core, (w.enters, w.leaves)))
    (λ q. record { core = q.0; enters = q.1.0; leaves = q.1.1 }) (λ _. refl)

-- what is known of the entity
abbrev pub seen_of : ℕ → List Seen → Option Seen
seen_of e known = find (λ s. nat_eq s.entity e) known

-- the entity keeps its place and gets the version, or comes last where it was not in view
abbrev pub placed : ℕ → ℕ → List (ℕ × ℕ) → List (ℕ × ℕ)
placed e v [] = (e, v) ∷ []
placed e v (p ∷ ps) = if nat_eq e p.0 then (p.0, v) ∷ ps else p ∷ placed e v ps

-- the others
abbrev pub without : ℕ → List (ℕ × ℕ) → List (ℕ × ℕ)
without e [] = []
without e (p ∷ ps) = if nat_eq e p.0 then ps else p ∷ without e ps

-- after the entity was shown at this version
abbrev pub with_version_shown : Replica → ℕ → ℕ → Replica
with_version_shown r e v = record r { entries = placed e v r.entries; shown = versions.insert r.shown e v }

-- after the entity was shown as it is known
abbrev pub after_showing : Replica → ℕ → Option Seen → Replica
after_showing r e None = r
after_showing r e (Some s) = with_version_shown r e s.version

-- after a look: one that leaves is gone, and its version is still known; one that is set keeps its place; one that enters comes last
abbrev pub after_look : List Seen → Replica → Look → Replica
after_look known r (Leave e) = record r { entries = without e r.entries }
after_look known r (Set e) = after_showing r e (seen_of e known)
after_look known r (Enter e) = after_showing r e (seen_of e known)

-- after one look after another
abbrev pub after_looks : List Seen → Replica → List Look → Replica
after_looks known r looks = fold (after_look known) r looks

abbrev pub entity_of : Look → ℕ
entity_of (Leave e) = e
entity_of (Set e) = e
entity_of (Enter e) = e

-- how many enter by the looks
abbrev pub enters_in : List Look → ℕ
enters_in [] = 0
enters_in (Leave e ∷ looks) = enters_in looks
enters_in (Set e ∷ looks) = enters_in looks
enters_in (Enter e ∷ looks) = enters_in looks + 1

-- how many leave by them
abbrev pub leaves_in : List Look → ℕ
leaves_in [] = 0
leaves_in (Leave e ∷ looks) = leaves_in looks + 1
leaves_in (Set e ∷ looks) = leaves_in looks
leaves_in (Enter e ∷ looks) = leaves_in looks

-- where the entities that pass the test are in view, each that is set is one of them that has not left before
abbrev pub SetsAreIn : (ℕ → Bool) → List Look → Type 0
SetsAreIn t [] = Unit {0}
SetsAreIn t (Leave e ∷ looks) = SetsAreIn (λ q. not (nat_eq e q) && t q) looks
SetsAreIn t (Set e ∷ looks) = (t e ≡ true) × SetsAreIn t looks
SetsAreIn t (Enter e ∷ looks) = SetsAreIn t looks

-- the looks can be kept without memory: there is a place for each that enters and for each that leaves, and a set takes none
pub record HasRoom (w : ViewValue) (looks : List Look) : Type 0 where
  pub enters : enters_in looks ≤ w.enters
  pub leaves : leaves_in looks ≤ w.leaves
  pub sets : SetsAreIn (λ q. list_any (λ p. nat_eq q p.0) w.core.entries) looks
