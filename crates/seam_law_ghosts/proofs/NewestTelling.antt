-- What a settling and a reap tell each cell.
use Rattle.seam_law_ghosts.proofs.Prelude.{◌≡◌, ℕ, ◌+◌, ◌<◌, ◌≤◌, Bool, true, false, not, ◌&&◌, ◌||◌, eqb, nat_lt, List, [], ◌∷◌, Option}
use Rattle.seam_law_ghosts.proofs.Prelude.{None, Some, refl, sym, ap, ◌∙◌, subst, arith, eq-eqb, ne_eqb, Pos, Division, area, cells_of}
use Rattle.seam_law_ghosts.proofs.Prelude.{Cells, items_to, GhostCopy, RealView, Msg, GhostSet, GhostDrop, Here, cell_count, copy_of_real}
use Rattle.seam_law_ghosts.proofs.Prelude.{haunts_at, told, told_unless, ghost_message, ghost_messages, beat_after, copy_if, drop_if}
use Rattle.seam_law_ghosts.proofs.Prelude.{drop_at, drops, item_of, brings}
use Rattle.std.specs.FinSet as set
use Rattle.seam_haunt.specs.Haunts.{is_close}
use Rattle.seam_haunt.proofs.Chosen.{contains_haunts_of}
use Rattle.seam_law_flow.proofs.SendLists.{chosen_at}
use Rattle.seam_law_calls.proofs.Holds.{or_right}

-- ---- the home is no haunt

never : (b : Bool) → (b && false) ≡ false
never true = refl
never false = refl

pub no_haunt_at_home : (h : Here) (t : Division) (p : Pos) (home : ℕ) (old : Cells) → set.contains (haunts_at h t p home old) home ≡ false
no_haunt_at_home h t p home old =
    let near = h.settings.ghost_distance in
    let far = h.settings.ghost_distance + h.settings.ghost_hysteresis in
    contains_haunts_of p home old t near far home
    ∙ (ap (λ b. nat_lt home (cells_of t) && (not b && is_close (area t home) p (set.contains old home) near far)) (eq-eqb home home refl)
    ∙ never (nat_lt home (cells_of t)))

-- ---- what one cell is told

-- nothing, where it is a haunt as before and others see no change, or what it is to have now, under the beat
pub data Gets (beat : ℕ) (c : GhostCopy) (was now changed : Bool) (ms : List Msg) : Type 0 where
  nothing : ms ≡ [] → now ≡ was → (now ≡ true → changed ≡ false) → Gets beat c was now changed ms
  entry : (m : Msg) → ms ≡ m ∷ [] → brings m ≡ Some (beat, copy_if now c) → Gets beat c was now changed ms

gets_by : (k e beat : ℕ) (c : GhostCopy) (now was changed : Bool) →
    Gets beat c was now changed (item_of (told_unless false k (told e beat c now was changed)))
gets_by k e beat c true false changed = entry (GhostSet e beat c) refl refl
gets_by k e beat c true true true = entry (GhostSet e beat c) refl refl
gets_by k e beat c true true false = nothing refl refl (λ h. refl)
gets_by k e beat c false true changed = entry (GhostDrop e beat) refl refl
gets_by k e beat c false false changed = nothing refl refl (λ h. cc)

target_by : (b : Bool) (k : ℕ) (m : Option Msg) (p : ℕ × Msg) → told_unless b k m ≡ Some p → p.0 ≡ k
target_by true k m p is = cc
target_by false k None p is = cc
target_by false k (Some m) p is = let same : (k, m) ≡ p = cc in ap (λ q. q.0) (sym same)

-- the real q settles in cell j, with these haunts
module _ (h : Here) (q : RealView) (j : ℕ) (haunts : Cells) (changed : Bool) where
  items : (k : ℕ) → k < cell_count → items_to k (ghost_messages h q j haunts changed) ≡ item_of (ghost_message h q j haunts changed k)
  items k low =
      chosen_at (ghost_message h q j haunts changed) 0 cell_count k (λ x p is. target_by _ x _ p is) (omega arith) (omega (arith, low))

  -- the cell where it goes is told nothing
  pub none_there : j < cell_count → items_to j (ghost_messages h q j haunts changed) ≡ []
  none_there low =
      items j low
      ∙ ap (λ b. item_of (told_unless b j (told q.entity (q.beat + 1) (copy_of_real h q) (set.contains haunts j)
      (set.contains q.haunts j) changed)))
      (or_right (eqb j h.me) (eqb j j) (eq-eqb j j refl))

  pub gets : (k : ℕ) → k < cell_count → (k ≡ h.me → ⊥) → (k ≡ j → ⊥) → Gets (q.beat + 1) (copy_of_real h q) (set.contains q.haunts k)
      (set.contains haunts k) changed (items_to k (ghost_messages h q j haunts changed))
  gets k low own goal =
      let both : (eqb k h.me || eqb k j) ≡ false = ap (λ b. b || eqb k j) (ne_eqb k h.me own) ∙ ne_eqb k j goal in
      let is = items k low
      ∙ ap (λ b. item_of (told_unless b k (told q.entity (q.beat + 1) (copy_of_real h q) (set.contains haunts k)
      (set.contains q.haunts k) changed))) both in
      subst (Gets (q.beat + 1) (copy_of_real h q) (set.contains q.haunts k) (set.contains haunts k) changed) (sym is)
      (gets_by k q.entity (q.beat + 1) (copy_of_real h q) (set.contains haunts k) (set.contains q.haunts k) changed)

-- the beat rises where a cell is told something
pub beat_rises : {A : Type 0} (k : ℕ) (ps : List (ℕ × A)) (m : A) (b : ℕ) → items_to k ps ≡ m ∷ [] → beat_after ps b ≡ b + 1
beat_rises k [] m b is = cc
beat_rises k (p ∷ ps) m b is = refl

pub beat_up : {A : Type 0} (ps : List (ℕ × A)) (b : ℕ) → b ≤ beat_after ps b
beat_up [] b = omega arith
beat_up (p ∷ ps) b = omega arith

-- ---- a reap

drop_target : (b : Bool) (k : ℕ) (m : Msg) (p : ℕ × Msg) → drop_if b k m ≡ Some p → p.0 ≡ k
drop_target true k m p is = let same : (k, m) ≡ p = cc in ap (λ q. q.0) (sym same)
drop_target false k m p is = cc

-- each haunt is told to drop its copy
pub drops_to : (r : RealView) (k : ℕ) (b : Bool) → k < cell_count → set.contains r.haunts k ≡ b →
    items_to k (drops r) ≡ item_of (drop_if b k (GhostDrop r.entity (r.beat + 1)))
drops_to r k b low is =
    chosen_at (drop_at r) 0 cell_count k (λ x p at. drop_target (set.contains r.haunts x) x _ p at) (omega arith) (omega (arith, low))
    ∙ ap (λ x. item_of (drop_if x k (GhostDrop r.entity (r.beat + 1)))) is
