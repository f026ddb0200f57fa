-- What clients show, beside the flat table: each state that a client was last shown is one that the entity had, as it was then.
use Rattle.std.specs.Prelude.{◌≡◌, ℕ, ◌≤◌, length, Some}
use Rattle.std.specs.FinMap as table
use Rattle.seam_defs.specs.Deeds.{own_of}
use Rattle.seam_defs.specs.declared.flags.Part.TheVariants as part
use Rattle.seam_view.specs.Replica.{IsView}
use Rattle.seam_rule_rounds.specs.Prelude.{State, GhostCopy, Create, Header, Book, created_as, Orders, ClientReplica, properties, flat}
use Rattle.seam_rule_rounds.specs.Prelude.{public_at, other_at}

-- by these orders the entity had the version, and its own client is shown this state of it
pub record WasOwn (h : Header) (b : Book) (orders : Orders) (e version : ℕ) (state : State) : Type 0 where
  pub made : Create
  pub is : created_as b e ≡ Some made
  pub had : version ≤ length (orders part.Cell e)
  pub same : state ≡ own_of (properties h made) (flat h part.Cell made (orders part.Cell e) version)

-- by these orders it had the copy's version, a public one, and other clients are shown the copy of it
pub record WasOther (h : Header) (b : Book) (orders : Orders) (e : ℕ) (copy : GhostCopy) : Type 0 where
  pub made : Create
  pub is : created_as b e ≡ Some made
  pub had : copy.version ≤ length (orders part.Cell e)
  pub public : public_at h made (orders part.Cell e) copy.version ≡ copy.version
  pub same : copy ≡ other_at h made (orders part.Cell e) copy.version

-- What the client of entity e shows, c, is true by these orders: its own entity as it was at the version of the last own line, and each
-- other that was ever shown as it was at the version last shown. Those in view are there once, at that version.
pub record ShowsTruly (h : Header) (b : Book) (orders : Orders) (e : ℕ) (c : ClientReplica) : Type 0 where
  pub own : (version : ℕ) (state : State) → c.own ≡ Some (version, state) → WasOwn h b orders e version state
  pub others : (x : ℕ) (copy : GhostCopy) → table.get c.copies x ≡ Some copy → WasOther h b orders x copy
  pub shown : (x version : ℕ) → table.get c.others.shown x ≡ Some version →
      (copy : GhostCopy) × (table.get c.copies x ≡ Some copy) × (copy.version ≡ version)
  pub view : IsView c.others
