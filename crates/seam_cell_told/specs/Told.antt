-- What witnesses of a cell were told of others, while that is what is known of them.
use Rattle.std.specs.Prelude.{◌≡◌, ◌≢◌, ℕ, nat_eq, List, Option, Some}
use Rattle.std.specs.Map.{lookup}
use Rattle.seam_node_steps.specs.Prelude.{GhostCopy}

-- entities, each with the copy that was told of it
abbrev pub Told : Type 0
Told = List (ℕ × GhostCopy)

-- the copy that was told of the entity, if one was
abbrev pub told_of : ℕ → Told → Option GhostCopy
told_of e told = lookup (nat_eq e) told

-- what was told of an entity is what is known of it
abbrev pub AreAsKnown : (ℕ → Option GhostCopy) → Told → Type 0
AreAsKnown known told = (e : ℕ) (c : GhostCopy) → told_of e told ≡ Some c → known e ≡ Some c

-- the same of others than the own entity
abbrev pub AreAsKnownBut : ℕ → (ℕ → Option GhostCopy) → Told → Type 0
AreAsKnownBut own known told = (e : ℕ) (c : GhostCopy) → e ≢ own → told_of e told ≡ Some c → known e ≡ Some c

-- it is so of others after a look of the own entity, and what was told of that is as it was
abbrev pub AreStillAsKnown : ℕ → (ℕ → Option GhostCopy) → Told → Told → Type 0
AreStillAsKnown own known old new = AreAsKnownBut own known new × (told_of own new ≡ told_of own old)
