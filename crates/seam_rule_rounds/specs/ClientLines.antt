-- What the clients of a round are shown.
use Rattle.std.specs.Prelude.{◌≡◌, ℕ, ◌+◌, ◌≤◌, Bool, true, false, ◌&&◌, nat_lt, IsTrue, IsFalse, List, [], ◌∷◌, ◌++◌, length, map, filter}
use Rattle.std.specs.Prelude.{if◌then◌else◌, Some}
use Rattle.std.specs.List.{All, range_with_len}
use Rattle.std.specs.List.Sorted.{IsNonDecreasing}
use Rattle.seam_defs.specs.Deeds.{own_of, client_of, properties_of}
use Rattle.seam_defs.specs.declared.flags.Part.{Part}
use Rattle.seam_defs.specs.declared.flags.Part.TheVariants as part
use Rattle.seam_defs.specs.declared.flags.Group.TheVariants as group
use Rattle.seam_defs.specs.declared.states.State.{State}
use Rattle.seam_call.specs.declared.create.Create.{Create}
use Rattle.seam_call.specs.declared.shown.GhostCopy.{GhostCopy}
use Rattle.seam_call.specs.declared.shown.ClientText.{ClientText}
use Rattle.seam_call.specs.declared.shown.ClientText.TheVariants as text
use Rattle.seam_toml.specs.declared.header.Header.{Header}
use Rattle.seam_rule_lines.specs.FlatTable.{flat}
use Rattle.seam_rule_clients.specs.Clients.{shown_by_lines}
use Rattle.seam_rule_clients.specs.Looks.{one_look}
use Rattle.seam_rule_clients.specs.Lines.{Truth, ShowsRightly}
use Rattle.seam_rule_lines.specs.Book.{created_as, was_dead, is_shown, is_new_client, has_tick}
use Rattle.seam_rule_rounds.specs.FlatTable.{properties, version_of, changes_past, public_at, other_at, rows_of}
use Rattle.seam_rule_rounds.specs.Standing.{Standing, replica_of}
use Rattle.seam_rule_rounds.specs.Lines.{RoundData, lines_to, told_in}

-- ---- which lines are true

-- a part had this version at some time of the round
abbrev pub HadVersion : Standing → Standing → Part → Create → ℕ → Type 0
HadVersion s t p c v = (version_of s.orders p c ≤ v) × (v ≤ version_of t.orders p c)

-- an entity's client may be shown its state at a version: one that it had in the round, and its own group then
abbrev pub IsOwn : Header → Standing → Standing → Create → ℕ → State → Type 0
IsOwn h s t c v state =
    HadVersion s t part.Cell c v × (state ≡ own_of (properties h c) (flat h part.Cell c (t.orders part.Cell c.entity) v))

-- other clients may be shown a copy of an entity: it was not dead when the round began, and at some version that it had in the round
-- it was so for others
pub record IsOther (h : Header) (s t : Standing) (e : ℕ) (copy : GhostCopy) : Type 0 where
  pub made : Create
  pub is : created_as s.book e ≡ Some made
  pub lived : IsFalse (was_dead s.book e)
  pub version : ℕ
  pub had : HadVersion s t part.Cell made version
  pub same : copy ≡ other_at h made (t.orders part.Cell e) (public_at h made (t.orders part.Cell e) version)

-- The same by its version alone: a public version, not below that with which the round began, and the entity as it was for others then.
pub record IsShownAt (h : Header) (s t : Standing) (e : ℕ) (copy : GhostCopy) : Type 0 where
  pub made : Create
  pub is : created_as s.book e ≡ Some made
  pub lived : IsFalse (was_dead s.book e)
  pub public : public_at h made (t.orders part.Cell e) copy.version ≡ copy.version
  pub from_start : public_at h made (t.orders part.Cell e) (version_of s.orders part.Cell made) ≤ copy.version
  pub up_to : copy.version ≤ version_of t.orders part.Cell made
  pub same : copy ≡ other_at h made (t.orders part.Cell e) copy.version

-- what is true of entities in the round, for the client of this one
abbrev pub truth_of : Header → Standing → Standing → Create → Truth
truth_of h s t c = record { own = IsOwn h s t c; other = IsOther h s t }

-- ---- base parts

-- whether an entity's client is shown something of its base part
abbrev pub shows_base : Header → Create → Bool
shows_base h c = nat_lt 0 (length (properties_of (properties h c) group.BaseClient))

-- the versions at which a client is shown the base part: that with which the round began, where the client is new and there is
-- something to show; and each of the round at which what it is shown of it changed
abbrev pub base_versions : Header → Standing → Standing → Create → List ℕ
base_versions h s t c =
    let began = version_of s.orders part.Base c in
    (if is_new_client s.book c.entity && shows_base h c then began ∷ [] else [])
    ++ changes_past h part.Base c (t.orders part.Base c.entity) began (version_of t.orders part.Base c)

-- what a client is shown of the base part at a version
abbrev pub base_shown : Header → Standing → Create → ℕ → ClientText
base_shown h t c v = text.Base v (client_of (properties h c) (flat h part.Base c (t.orders part.Base c.entity) v))

abbrev pub is_base : ClientText → Bool
is_base (text.Base v props) = true
is_base (text.Shown x) = false

-- the texts of an entity's client
abbrev pub texts_to : RoundData → ℕ → List ClientText
texts_to r e = map (λ l. l.text) (told_in r e)

-- those of them about its base part
abbrev pub base_texts : RoundData → ℕ → List ClientText
base_texts r e = filter is_base (texts_to r e)

-- ---- the points of a legal round about clients

-- The lines of an entity's client go on with its numbers; what they show of cell parts may be shown one after another and is true; and
-- they show the base part at its versions, in rising order.
pub record ShowsClient (h : Header) (s : Standing) (r : RoundData) (t : Standing) (c : Create) : Type 0 where
  pub types : All (λ l. l.ty ≡ c.ty) (lines_to r c.entity)
  pub numbers : map (λ l. l.number) (told_in r c.entity)
      ≡ range_with_len (length (s.told c.entity) + 1) (length (told_in r c.entity))
  pub right : ShowsRightly (truth_of h s t c) c.entity (replica_of h s c.entity) (shown_by_lines (told_in r c.entity))
  pub bases : base_texts r c.entity ≡ map (base_shown h t c) (base_versions h s t c)

-- Only the clients of the round are shown lines, in rising number of their entities, and these are added to what each was told.
pub record HasShown (h : Header) (s : Standing) (r : RoundData) (t : Standing) : Type 0 where
  pub rising : IsNonDecreasing (map (λ l. l.entity) r.shown)
  pub only : All (λ l. IsTrue (is_shown s.book l.entity)) r.shown
  pub each : (c : Create) → created_as s.book c.entity ≡ Some c → IsTrue (is_shown s.book c.entity) → ShowsClient h s r t c
  pub told : (e : ℕ) → t.told e ≡ s.told e ++ told_in r e

-- After the round a look shows no client anything. In a round without a tick each client was shown its base lines, and then exactly
-- one look at what the round left; a look of a client whose entity died is empty.
pub record HasLooked (h : Header) (s : Standing) (r : RoundData) (t : Standing) (live : List Create) : Type 0 where
  pub nothing_left : (e : ℕ) → IsTrue (is_shown s.book e) → one_look (replica_of h t e) e (rows_of h t.orders live) ≡ []
  pub one_each : IsFalse (has_tick s.book) → (e : ℕ) → IsTrue (is_shown s.book e)
      → texts_to r e ≡ base_texts r e ++ map text.Shown (one_look (replica_of h s e) e (rows_of h t.orders live))
