-- What a client may be shown: which line may come next, and which are true.
use Rattle.std.specs.Prelude.{◌≡◌, ◌≢◌, ℕ, ◌+◌, ◌<◌, ◌≤◌, IsTrue, IsFalse, List, [], ◌∷◌, Option, None, Some}
use Rattle.std.specs.List.{AllByRecursion}
use Rattle.std.specs.FinMap as table
use Rattle.seam_geo.specs.declared.pos.Pos.{Pos}
use Rattle.seam_geo.specs.Pos.{distance}
use Rattle.seam_view.specs.ViewLooks.{in_view}
use Rattle.seam_defs.specs.declared.states.State.{State}
use Rattle.seam_call.specs.declared.shown.GhostCopy.{GhostCopy}
use Rattle.seam_call.specs.declared.shown.Shown.{Shown}
use Rattle.seam_call.specs.declared.shown.Shown.TheVariants.{Own, Enter, Set, Leave}
use Rattle.seam_rule_clients.specs.Clients.{ClientReplica, after_shown}
use Rattle.seam_rule_clients.specs.Looks.{is_newer}

-- ---- which may come next

-- the position is at most so far from that of the last own line, and there was one
abbrev pub IsNear : Option (ℕ × State) → ℕ → Pos → Type 0
IsNear None reach p = ⊥
IsNear (Some last) reach p = distance last.1.pos p ≤ reach

-- an entity may enter: it is another one and not in view; it is not shown older than it ever was; it is within the radius
pub record MayEnter (me : ℕ) (c : ClientReplica) (e : ℕ) (copy : GhostCopy) : Type 0 where
  pub another : e ≢ me
  pub away : IsFalse (in_view c.others e)
  pub not_older : (v : ℕ) → table.get c.others.shown e ≡ Some v → v ≤ copy.version
  pub near : IsNear c.own c.others.radius copy.state.pos

-- an entity may be set: it is in view, is shown newer than it was, and is within the radius and the hysteresis
pub record MaySet (c : ClientReplica) (e : ℕ) (copy : GhostCopy) : Type 0 where
  pub in_view_ : IsTrue (in_view c.others e)
  pub newer : (v : ℕ) × (table.get c.others.shown e ≡ Some v) × (v < copy.version)
  pub near : IsNear c.own (c.others.radius + c.others.hysteresis) copy.state.pos

-- what the client of the entity `me` may be shown next: its own state at a newer version, another one that may enter or be set, and that
-- one in view leaves
abbrev pub MayShow : ℕ → ClientReplica → Shown → Type 0
MayShow me c (Own version state) = IsTrue (is_newer c.own version)
MayShow me c (Enter e copy) = MayEnter me c e copy
MayShow me c (Set e copy) = MaySet c e copy
MayShow me c (Leave e) = IsTrue (in_view c.others e)

-- it may be shown one after another
abbrev pub MayShowAll : ℕ → ClientReplica → List Shown → Type 0
MayShowAll me c [] = Unit {0}
MayShowAll me c (x ∷ xs) = MayShow me c x × MayShowAll me (after_shown c x) xs

-- ---- which are true

-- What is true of entities: of the client's own one, at which versions its client is shown which states; of another one, as which copies
-- other clients are shown it.
pub record Truth : Type 1 where
  pub own : ℕ → State → Type 0
  pub other : ℕ → GhostCopy → Type 0

-- what is shown is true
abbrev pub ShowsTruth : Truth → Shown → Type 0
ShowsTruth t (Own version state) = t.own version state
ShowsTruth t (Enter e copy) = t.other e copy
ShowsTruth t (Set e copy) = t.other e copy
ShowsTruth t (Leave e) = Unit {0}

-- The client of the entity `me` may be shown these, one after another, and all of them are true.
pub record ShowsRightly (t : Truth) (me : ℕ) (c : ClientReplica) (xs : List Shown) : Type 0 where
  pub in_turn : MayShowAll me c xs
  pub true_ : AllByRecursion (ShowsTruth t) xs
