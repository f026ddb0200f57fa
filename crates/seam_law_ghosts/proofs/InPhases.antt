-- Where entities are reaped, and where witnesses look, no message to a cell is stray.
use Rattle.seam_law_ghosts.proofs.Prelude.{◌≡◌, ℕ, ◌+◌, ◌<◌, ◌≤◌, Bool, true, false, List, [], ◌∷◌, Option, None, Some, refl, ap, ◌∙◌}
use Rattle.seam_law_ghosts.proofs.Prelude.{subst, arith, slice_get, AllByRecursion, nat_tests, Division, link, RealView, Msg, GhostDrop}
use Rattle.seam_law_ghosts.proofs.Prelude.{Tick, Reap, Update, limit, is_small, may_rise, cell_count, about, is_stray, stray_reap, NodeView}
use Rattle.seam_law_ghosts.proofs.Prelude.{World, RouteView, order_or, Frame, here_at, entity_flow, real_at, IsCalmTo, IsCalm}
use Rattle.seam_law_rounds.proofs.CalmRuns.{found_home}
use Rattle.std.specs.FinMap as table
use Rattle.seam_law_ghosts.proofs.Strays.{mine_is, seen_first, feeds}
use Rattle.seam_law_calls.proofs.Holds.{denied}

pub small_to : (n beat : ℕ) → n ≤ beat + 1 → may_rise beat ≡ true → is_small n ≡ true
small_to n beat low h = let lt : beat + 1 < limit = grind (arith, nat_tests, h) in small_is n (omega (arith, low, lt))
  where
    small_is : (n : ℕ) → n < limit → is_small n ≡ true
    small_is n lt = grind (arith, nat_tests)

module _ (f : Frame) (e home : ℕ) (r : RealView) (cell : home < cell_count) (none : (s : ℕ) → (order_or (table.get r.orders s)).held ≡ [])
    (was : World) (leads : (k : ℕ) (x : RouteView) → ((entity_flow e was).slot k).base.route ≡ Some x → x.cell ≡ home) (told : Bool)
    (small : told ≡ true → may_rise r.beat ≡ true) (v : World) (calm : IsCalm f e home r was told v) (a k : ℕ) (s : NodeView)
    (node : slice_get v.nodes k ≡ Some s) (low : k < cell_count) where
  reap_by : (o : Option RealView) (q : RealView) → o ≡ Some q → may_rise q.beat ≡ true → stray_reap o ≡ false
  reap_by None q is may = cc
  reap_by (Some p) q is may =
      let same : p ≡ q = cc in
      denied (may_rise p.beat) (ap (λ (y : RealView). may_rise y.beat) same ∙ may)

  kind_by : (tree : Division) (m : Msg) (ms : List Msg) → link v.rows a k ≡ m ∷ ms → about m ≡ Some e → IsCalmTo told home r k m →
      is_stray (here_at f k) tree ((entity_flow e v).slot k).cell.slot m ≡ false
  kind_by tree (GhostDrop x n) ms at is h = denied (is_small n) (small_to n r.beat h.1 (small h.0))
  kind_by tree Tick ms at is h = refl
  kind_by tree (Reap x) ms at is h =
      let q = found_home f e home r cell none was leads told small v (record { node = k; from = Some a }) (feeds v a k s
      (Reap x) ms node at)
      calm x (mine_is e (Reap x) is) in
      reap_by ((entity_flow e v).slot k).cell.slot.real q.0 (ap (λ j. real_at e v j) h ∙ q.1) q.2
  kind_by tree (Update u) ms at is h = absurd (omega (arith, h, low))
  kind_by tree _ ms at is h = absurd h

  pub calm_free : (tree : Division) (m : Msg) (ms : List Msg) → link v.rows a k ≡ m ∷ ms → about m ≡ Some e →
      is_stray (here_at f k) tree ((entity_flow e v).slot k).cell.slot m ≡ false
  calm_free tree m ms at is =
      kind_by tree m ms at is (subst (AllByRecursion (IsCalmTo told home r k)) (seen_first e v a k m ms at is) (calm.mail a k)).0
