-- Over every list of events an entity that has its real is in lists only where that is, and what is on its way fits.
use Rattle.seam_law_ghosts.proofs.Prelude.{◌≡◌, ℕ, ◌<◌, ◌≤◌, length, Option, None, Some, refl, sym, ap, subst, arith, slice_get}
use Rattle.seam_law_ghosts.proofs.Prelude.{AllByRecursion, happens, Occurs, Task, Event, RealView, limit, NodeView, World, node_steps}
use Rattle.seam_law_ghosts.proofs.Prelude.{comes, slot_at, Frame, has_of, has_none, entity_flow, real_burden, has_burden, node_burden}
use Rattle.seam_law_ghosts.proofs.Prelude.{mine_burden, burden, real_in, real_of, IsSpared, IsFrame, OneFrom, real_at, weight_or}
use Rattle.seam_law_ghosts.proofs.Prelude.{weight_bounds, sole_here, replays_on, goes, one_happens, calm_of, spared_happens, public_low}
use Rattle.seam_law_ghosts.proofs.Prelude.{EachKeeps, RunsKeep, runs_keep, slots_lead, sent_kept, frame_leads, IsInFrame}
use Rattle.seam_law_ghosts.proofs.Sending.{FitsNode, sends_fit}
use Rattle.seam_law_ghosts.proofs.Listing.{IsListed, stays_listed}

-- ---- lists, whatever the entity

module _ (f : Frame) (e : ℕ) where
  pub record AreListed (w : World) : Type 0 where
    pub frame : IsInFrame f w
    pub slots : (k : ℕ) → IsListed ((entity_flow e w).slot k).cell

  pub listed_leads : RunsKeep AreListed
  listed_leads w v es a run = record {
    frame = frame_leads f w v es a.frame run;
    slots = slots_lead f e (λ k h. IsListed h.cell) (stays_listed f e) w v es a.frame a.slots run;
  }

-- ---- numbers are small

module _ (e : ℕ) (w : World) where
  bound_by : (k : ℕ) (n : Option NodeView) → slice_get w.nodes k ≡ n → has_burden (slot_at (has_of e) has_none n) ≤ burden e w
  bound_by k None at = omega arith
  bound_by k (Some n) at =
      let v : Event = record { node = k; from = None } in
      let o : Occurs w v = record { node = n; input = Task; is_node = at; is_fed = refl } in
      let a = weight_bounds (node_burden e) (mine_burden e) w v o in
      omega (arith, a)

  pub slot_bound : (k : ℕ) → has_burden ((entity_flow e w).slot k) ≤ burden e w
  slot_bound k = bound_by k (slice_get w.nodes k) refl

  pub real_bound : (k : ℕ) (r : RealView) → real_at e w k ≡ Some r → real_burden r ≤ burden e w
  real_bound k r at = let a = slot_bound k in let b = ap (weight_or real_burden) at in omega (arith, a, b)

-- ---- an entity that no one reaps

module _ (f : Frame) (frame : IsFrame f) (e ty : ℕ) (known : ty < length f.defs) (start : RealView)
    (low : start.public ≤ start.version) where
  pub record IsFair (w : World) : Type 0 where
    pub one : OneFrom f e ty start w
    pub spared : IsSpared e w
    pub letters : (a k : ℕ) → AllByRecursion (FitsNode f k) ((entity_flow e w).mail a k)

  real_is : (w : World) (h : IsFair w) (k : ℕ) (r : RealView) → real_at e w k ≡ Some r → r ≡ h.one.has.real
  real_is w h k r at = (sole_here real_in real_of (entity_flow e w) h.one.has.place h.one.has.real r k h.one.has.one at).1

  numbers : (w : World) (h : IsFair w) (k : ℕ) (r : RealView) → real_at e w k ≡ Some r → (r.public ≤ r.version) × (r.version < limit)
  numbers w h k r at =
      let few = h.one.has.fits.room in
      let part = real_bound e w k r at in (
        subst (λ (x : RealView). x.public ≤ x.version) (sym (real_is w h k r at)) (public_low f start h.one.has.real low h.one.replays),
        omega (arith, few, part),
      )

  pub fair_happens : EachKeeps IsFair
  fair_happens w v o h =
      let has = h.one.has in
      let calm = calm_of f e w v o has.fits.frame h.spared in
      let more = one_happens f frame e ty known w v o has calm in
      let g = goes f frame e ty known w v o has calm in
      record {
        one = record { has = more.has; replays = replays_on f start has.real more.has.real h.one.replays more.replays };
        spared = spared_happens f e w v o has.fits.frame h.spared;
        letters =
            sent_kept (λ a k m. FitsNode f k m) g g.moves.0.sent g.moves.0.items h.letters
            (sends_fit f frame.defs e ty g.k known ((entity_flow e w).slot g.k) (comes g.input) ((entity_flow e
            (happens node_steps w v)).slot g.k)
            g.moves.0.sent (has.fits.reals g.k) (numbers w h g.k) g.moves.0.moves);
      }

  pub fair_leads : RunsKeep IsFair
  fair_leads = runs_keep IsFair fair_happens
