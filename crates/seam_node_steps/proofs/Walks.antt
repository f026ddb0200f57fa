-- For callers: worked rows are walked by one checker. What each event needs, gives and keeps is one equation of lists, which computes.
use Rattle.std.proofs.Common.{◌≡◌, ℕ, Bool, true, List, [], ◌∷◌, ap}
use Rattle.seam_node_steps.specs.Prelude.{Event, World, enabled, happens, node_steps, node_has_work, holders, IsRow}

-- what is seen of an event: whether it is enabled at its place, the world after it, and how many hold the entity's real there
pub record Seen : Type 0 where
  pub may : Bool
  pub next : World
  pub holding : ℕ

abbrev seen_at : ℕ → World → Event × World → Seen
seen_at e w s = record { may = enabled node_has_work w s.0; next = happens node_steps w s.0; holding = holders s.1 e }

abbrev pub seen : ℕ → World → List (Event × World) → List Seen
seen e w [] = []
seen e w (s ∷ ss) = seen_at e w s ∷ seen e s.1 ss

-- and what is to be seen
abbrev wanted_at : ℕ → Event × World → Seen
wanted_at n s = record { may = true; next = s.1; holding = n }

abbrev pub wanted : ℕ → List (Event × World) → List Seen
wanted n [] = []
wanted n (s ∷ ss) = wanted_at n s ∷ wanted n ss

-- where they are the same, it is a row
pub walked : (e n : ℕ) (w : World) (ss : List (Event × World)) → seen e w ss ≡ wanted n ss → IsRow e n w ss
walked e n w [] same = tt
walked e n w (s ∷ ss) same =
    let here : seen_at e w s ≡ wanted_at n s = cc in
    let rest : seen e s.1 ss ≡ wanted n ss = cc in
    (ap (λ (x : Seen). x.may) here, ap (λ (x : Seen). x.next) here, ap (λ (x : Seen). x.holding) here, walked e n s.1 ss rest)
