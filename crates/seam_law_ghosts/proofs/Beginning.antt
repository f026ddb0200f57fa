-- What a loaded world has in its lists.
use Rattle.seam_law_ghosts.proofs.Prelude.{◌≡◌, ℕ, ◌≤◌, Bool, true, false, eqb, is_some, [], Option, None, Some, refl, sym, ap, subst}
use Rattle.seam_law_ghosts.proofs.Prelude.{arith, option_map, slice_get, cells_of, leaf_at, Create, Order, Batch, RealView, has_any}
use Rattle.seam_law_ghosts.proofs.Prelude.{CellView, NodeView, World, node_has_work, Cell, Base, real_if, created_at, attached, cell_round}
use Rattle.seam_law_ghosts.proofs.Prelude.{base_round, ordered_at, loaded, slot_at, Frame, has_of, has_none, times, real_in, framed, made}
use Rattle.seam_law_ghosts.proofs.Prelude.{node_loaded, MayBegin, quiet_tasks, each_keeps, Any, any, in_frame, slot_is}
use Rattle.seam_law_rounds.proofs.Room.{one_if, loaded_surveys}
use Rattle.seam_law_ghosts.proofs.Listing.{IsListed}
use Rattle.seam_law_ghosts.proofs.Lasting.{AreListed}
use Rattle.seam_law_calls.proofs.Holds.{neither}
use Rattle.seam_law_calls.proofs.Quieting.{none_left}

-- ---- look lists are empty

idle_looks : (c : CellView) → node_has_work (Cell c) ≡ false → c.looks ≡ []
idle_looks c h = none_left c.looks (neither _ (has_any c.looks) (neither (has_any c.survey) _ h).1).1

idle_survey : (c : CellView) → node_has_work (Cell c) ≡ false → c.survey ≡ []
idle_survey c h = none_left c.survey (neither (has_any c.survey) _ h).0

abbrev Unseen : ℕ → NodeView → Type 0
Unseen e n = (has_of e n).cell.looks ≡ 0

module _ (e : ℕ) where
  begun_unseen : (n : ℕ) (s : NodeView) → node_has_work s ≡ false → Unseen e (base_round n s)
  begun_unseen n (Cell c) h = ap (times e) (idle_looks c h)
  begun_unseen n (Base b) h = refl

  created_unseen : (b : Batch) (x : Create) (s : NodeView) → Any x → Unseen e s → Unseen e (created_at b.tree x s)
  created_unseen b x (Cell c) u h = by (eqb (leaf_at b.tree x.pos) c.here.me)
    where
      by : (d : Bool) → Unseen e (Cell (real_if d c x))
      by true = h
      by false = h
  created_unseen b x (Base n) u h = refl

  joined_unseen : (q : ℕ) (s : NodeView) → Any q → Unseen e s → Unseen e (attached q s)
  joined_unseen q (Cell c) u h = h
  joined_unseen q (Base n) u h = refl

  round_unseen : (b : Batch) (s : NodeView) → Unseen e s → Unseen e (cell_round b.tree s)
  round_unseen b (Cell c) h = h
  round_unseen b (Base n) h = refl

  ordered_unseen : (o : ℕ × Order) (s : NodeView) → Any o → Unseen e s → Unseen e (ordered_at o s)
  ordered_unseen o (Cell c) u h = h
  ordered_unseen o (Base n) u h = refl

  loaded_unseen : (b : Batch) (s : NodeView) → node_has_work s ≡ false → Unseen e (node_loaded b s)
  loaded_unseen b s idle =
      each_keeps ordered_at (Unseen e) Any ordered_unseen b.orders (any b.orders) (cell_round b.tree (made b s))
      (round_unseen b (made b s)
      (each_keeps attached (Unseen e) Any joined_unseen b.clients (any b.clients) _
      (each_keeps (created_at b.tree) (Unseen e) Any (created_unseen b) b.creates (any b.creates) _
      (begun_unseen (cells_of b.tree) s idle))))

one_is : (o : Option RealView) → 1 ≤ one_if o → is_some o ≡ true
one_is None h = absurd (omega (arith, h))
one_is (Some r) h = refl

pub empty_lists : (e : ℕ) (s : NodeView) → node_has_work s ≡ false → IsListed (has_of e s).cell
empty_lists e (Base b) h = record { survey = λ some. absurd (omega (arith, some)); looks = λ some. absurd (omega (arith, some)) }
empty_lists e (Cell c) h =
    let a = ap (times e) (idle_survey c h) in
    let b = ap (times e) (idle_looks c h) in
    record { survey = λ some. absurd (omega (arith, a, some)); looks = λ some. absurd (omega (arith, b, some)) }

pub none_listed : IsListed has_none.cell
none_listed = record { survey = λ some. absurd (omega (arith, some)); looks = λ some. absurd (omega (arith, some)) }

module _ (f : Frame) (w : World) (b : Batch) (begin : MayBegin f w b) (e : ℕ) where
  listed_at : (k : ℕ) (o : Option NodeView) → slice_get w.nodes k ≡ o →
      IsListed (slot_at (has_of e) has_none (option_map (node_loaded b) o)).cell
  listed_at k None at = none_listed
  listed_at k (Some s) at =
      let once = loaded_surveys e b s in
      let none = loaded_unseen e b s (quiet_tasks node_has_work w begin.between.quiet k s at) in
      record {
        survey = λ some. one_is (real_in (has_of e (node_loaded b s))) (omega (arith, once, some));
        looks = λ some. absurd (omega (arith, none, some));
      }

  pub lists_loaded : AreListed (framed f b) e (loaded w b)
  lists_loaded = record {
    frame = in_frame f w b begin;
    slots = λ k. subst (λ h. IsListed h.cell) (sym (slot_is w b e k)) (listed_at k (slice_get w.nodes k) refl);
  }
