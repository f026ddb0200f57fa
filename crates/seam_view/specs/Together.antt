-- How leaves are taken out of a view in one pass over it, each in its turn.
use Rattle.std.specs.Prelude.{ℕ, Bool, false, not, nat_eq, List, [], ◌∷◌, drop, Option, Some, ◌&&◌, if◌then◌else◌}
use Rattle.seam_view.specs.declared.Look.{Look}
use Rattle.seam_view.specs.declared.Look.TheVariants.{Leave, Set, Enter}

-- the first of the looks is the leave of this entity
abbrev pub leaves_next : ℕ → List Look → Bool
leaves_next e [] = false
leaves_next e (Leave x ∷ looks) = nat_eq e x
leaves_next e (Set x ∷ looks) = false
leaves_next e (Enter x ∷ looks) = false

-- the looks that are to come once the pass is past the entity
abbrev pub looks_past : ℕ → List Look → List Look
looks_past e looks = if leaves_next e looks then drop 1 looks else looks

-- the looks that are to come once the pass is past all these entities
abbrev pub looks_past_all : List Look → List (ℕ × ℕ) → List Look
looks_past_all looks [] = looks
looks_past_all looks (p ∷ es) = looks_past_all (looks_past p.0 looks) es

-- the entities that the pass leaves in view
abbrev pub kept_past_all : List Look → List (ℕ × ℕ) → List (ℕ × ℕ)
kept_past_all looks [] = []
kept_past_all looks (p ∷ es) =
    if not (leaves_next p.0 looks) then p ∷ kept_past_all (looks_past p.0 looks) es else kept_past_all (looks_past p.0 looks) es

-- the version that each entity left at, once the pass has taken these out, where `left` gives it before
abbrev pub left_past_all : List Look → List (ℕ × ℕ) → (ℕ → Option ℕ) → ℕ → Option ℕ
left_past_all looks [] left = left
left_past_all looks (p ∷ es) left =
    left_past_all (looks_past p.0 looks) es (λ q. if leaves_next p.0 looks && nat_eq p.0 q then Some p.1 else left q)
