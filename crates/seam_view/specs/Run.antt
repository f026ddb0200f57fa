-- Entities that enter one after another, and what the looks past them leave.
use Rattle.std.specs.Prelude.{◌≡◌, ◌++◌, ℕ, nat_eq, List}
use Rattle.std.specs.List.{IsDistinct, list_any}
use Rattle.std.specs.Map.{keys_of}
use Rattle.std.specs.FinMap as versions
use Rattle.seam_view.specs.declared.Seen.{Seen}
use Rattle.seam_view.specs.declared.Look.{Look}
use Rattle.seam_view.specs.Replica.{Replica, after_looks, leaves_in, SetsAreIn}

-- the replica with these in view, and with these and those that left shown
abbrev pub with_lists : Replica → List (ℕ × ℕ) → List (ℕ × ℕ) → Replica
with_lists r es ls = record r { entries = es; shown = versions.from_entries (es ++ ls) }

-- with some of the looks kept, the rest of them leaves what all leave, whichever left
pub record AreKept (known : List Seen) (es : List (ℕ × ℕ)) (all : List Look) (new : List (ℕ × ℕ)) (rest : List Look) : Type 0 where
  pub once : IsDistinct nat_eq (keys_of new)
  pub same : (r : Replica) (ls : List (ℕ × ℕ)) → after_looks known (with_lists r new ls) rest ≡ after_looks known (with_lists r es ls) all
  pub leaves : leaves_in rest ≡ leaves_in all
  pub sets : SetsAreIn (λ q. list_any (λ p. nat_eq q p.0) es) all → SetsAreIn (λ q. list_any (λ p. nat_eq q p.0) new) rest
