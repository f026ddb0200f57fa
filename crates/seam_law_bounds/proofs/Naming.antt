-- What there is to look at in a loaded world is of the entities that have a real there.
use Rattle.seam_law_bounds.proofs.Prelude.{ℕ, List, ap, ◌∙◌, Batch, loaded, World, slot_at, Frame, has_of, has_none, real_in, MayBeLoaded}
use Rattle.seam_law_bounds.proofs.Prelude.{AreCopiesBetweenRounds, LooksAmong, EachSeenIsHeld, AreAmong}
use Rattle.seam_law_bounds.proofs.There.{among_named}

pub among_these : (f : Frame) (w : World) (b : Batch) → MayBeLoaded f w b → AreCopiesBetweenRounds f w → EachSeenIsHeld (loaded w b) →
    (us : List ℕ) → AreAmong us (loaded w b) → LooksAmong us (λ k. us) (loaded w b)
among_these f w b may copies sees us named =
    among_named f w b may copies us us (λ e p. named e p.0 p.1 p.2) sees
    (λ k c node e r x at has. named e k r (ap (λ o. real_in (slot_at (has_of e) has_none o)) node ∙ at))
