-- What a step sends beside a hand-over carries no real and is no reap.
use Rattle.seam_law_calls.proofs.Prelude.{◌≡◌, ℕ, ◌+◌, Bool, true, false, ◌==◌, ◌||◌, List, [], ◌∷◌, map, Option, None, Some, sym, ap, ◌∙◌}
use Rattle.seam_law_calls.proofs.Prelude.{Cells, GhostCopy, Shown, RealView, Msg, GhostSet, GhostDrop, Update, Here, cell_numbers}
use Rattle.seam_law_calls.proofs.Prelude.{copy_of_real, told_unless, ghost_message, ghost_messages, drop_if, drop_at, drops, numbered}
use Rattle.seam_law_calls.proofs.Prelude.{IsSilent, silent_chosen}
use Rattle.std.specs.FinSet as set
use Rattle.seam_node_steps.specs.Prelude.{told}

-- eyes that see no ghost message, no route, no update and no tick
pub record SeesNoGhost {L : Type 0} (mine : Msg → Option L) : Type 0 where
  pub sets : (e n : ℕ) (c : GhostCopy) → mine (GhostSet e n c) ≡ None
  pub drops : (e n : ℕ) → mine (GhostDrop e n) ≡ None

module _ {L : Type 0} (mine : Msg → Option L) (sees : SeesNoGhost mine) where
  sent_is : (p q : ℕ × Msg) → Some p ≡ Some q → mine p.1 ≡ None → mine q.1 ≡ None
  sent_is p q is h = let same : p ≡ q = cc in ap (λ x. mine x.1) (sym same) ∙ h

  told_by : (k e beat : ℕ) (c : GhostCopy) (now was changed : Bool) (p : ℕ × Msg) →
      told_unless false k (told e beat c now was changed) ≡ Some p → mine p.1 ≡ None
  told_by k e beat c true false changed p is = sent_is (k, GhostSet e beat c) p is (sees.sets e beat c)
  told_by k e beat c true true true p is = sent_is (k, GhostSet e beat c) p is (sees.sets e beat c)
  told_by k e beat c true true false p is = cc
  told_by k e beat c false true changed p is = sent_is (k, GhostDrop e beat) p is (sees.drops e beat)
  told_by k e beat c false false changed p is = cc

  ghost_by : (b : Bool) (k e beat : ℕ) (c : GhostCopy) (now was changed : Bool) (p : ℕ × Msg) →
      told_unless b k (told e beat c now was changed) ≡ Some p → mine p.1 ≡ None
  ghost_by true k e beat c now was changed p is = cc
  ghost_by false k e beat c now was changed p is = told_by k e beat c now was changed p is

  pub ghosts_silent : (h : Here) (r : RealView) (j : ℕ) (haunts : Cells) (changed : Bool) →
      IsSilent mine (ghost_messages h r j haunts changed)
  ghosts_silent h r j haunts changed =
      silent_chosen mine (ghost_message h r j haunts changed)
      (λ k p is. ghost_by ((k == h.me) || (k == j)) k r.entity (r.beat + 1) (copy_of_real h r) (set.contains haunts k)
      (set.contains r.haunts k) changed p is) cell_numbers

  drop_by : (b : Bool) (k e beat : ℕ) (p : ℕ × Msg) → drop_if b k (GhostDrop e beat) ≡ Some p → mine p.1 ≡ None
  drop_by true k e beat p is = sent_is (k, GhostDrop e beat) p is (sees.drops e beat)
  drop_by false k e beat p is = cc

  pub drops_silent : (r : RealView) → IsSilent mine (drops r)
  drops_silent r =
      silent_chosen mine (drop_at r) (λ k p is. drop_by (set.contains r.haunts k) k r.entity (r.beat + 1) p is) cell_numbers

module _ {L : Type 0} (mine : Msg → Option L) where
  -- what is sent by a rule that the eyes do not see
  pub mapped_silent : {A : Type 0} (g : A → ℕ × Msg) → ((a : A) → mine (g a).1 ≡ None) → (xs : List A) → IsSilent mine (map g xs)
  mapped_silent g h [] = tt
  mapped_silent g h (x ∷ xs) = (h x, mapped_silent g h xs)

  pub numbered_silent : (b e n : ℕ) (ss : List Shown) → ((p : _) → mine (Update p) ≡ None) → IsSilent mine (numbered b e n ss)
  numbered_silent b e n [] h = tt
  numbered_silent b e n (s ∷ ss) h = (h _, numbered_silent b e (n + 1) ss h)
