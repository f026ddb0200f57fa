-- What an event does with the place of an entity's one real.
use Rattle.seam_law_ghosts.proofs.Prelude.{◌≡◌, ℕ, ◌+◌, ◌<◌, ◌≤◌, true, length, Option, Some, ap, subst, arith, Division, happens, Occurs}
use Rattle.seam_law_ghosts.proofs.Prelude.{Event, RealView, limit, Msg, Hand, Reap, may_settle, World, node_steps, Goes, comes, letter_in}
use Rattle.seam_law_ghosts.proofs.Prelude.{Frame, IsTreeOf, HasOneTree, IsFrame, Has, mine, entity_flow, MovesTo, real_burden, real_in}
use Rattle.seam_law_ghosts.proofs.Prelude.{HasOne, weight_or, all_two, below_is, goes, room}
use Rattle.seam_law_calls.proofs.Trees.{only_tree}
use Rattle.seam_law_ghosts.proofs.Lasting.{slot_bound}
use Rattle.seam_law_ghosts.proofs.Placing.{Placed, placed}
use Rattle.seam_node_steps.specs.Prelude.{Boundaries}

module _ (f : Frame) (frame : IsFrame f) (e ty : ℕ) (known : ty < length f.defs) (w : World) (v : Event) (o : Occurs w v)
    (has : HasOne f e ty w) (calm : letter_in (mine e) o.input ≡ Some (Reap e) → ⊥) where
  abbrev next : World
  next = happens node_steps w v

  abbrev Comes : Option Msg → Type 0
  Comes i = ((r : RealView) (bs : Option Boundaries) → i ≡ Some (Hand r bs) → real_burden r < limit) × (i ≡ Some (Reap e) → ⊥)

  abbrev g : Goes (λ k s i t out. MovesTo f e k s i t out × Comes i) (entity_flow e w) (entity_flow e next)
  g = goes f frame e ty known w v o has calm

  abbrev s : Has
  s = (entity_flow e w).slot g.k

  abbrev t : Has
  t = (entity_flow e next).slot g.k

  may : (r : RealView) → real_in s ≡ Some r → 1 ≤ s.cell.survey → may_settle r ≡ true
  may r at some =
      let a = slot_bound e w g.k in
      let b = ap (weight_or real_burden) at in
      let few = has.fits.room in
      all_two _ _ (below_is (r.beat + 1) limit (omega (arith, a, b, few, some)))
      (below_is (r.generation + 1) limit (omega (arith, a, b, few, some)))

  -- by one of the trees
  pub by_one_tree : (tree : Division) × IsTreeOf f tree × Placed f tree g.k s (comes g.input) t g.out
  by_one_tree =
      placed f frame e ty g.k s (comes g.input) t g.moves.0.sent g.out g.moves.0.items (room f frame e ty known w v o has calm)
      (λ r at. g.moves.1.1) may g.moves.0.moves

  -- which is the first where there is no other
  pub by_first_tree : HasOneTree f → Placed f f.tree g.k s (comes g.input) t g.out
  by_first_tree alone =
      let one = by_one_tree in
      subst (λ tree. Placed f tree g.k s (comes g.input) t g.out) (only_tree f one.0 alone one.1) one.2
