-- Reals that are taken out and put in: their marks follow.
use Rattle.std.proofs.Common.{◌≡◌, ℕ, Bool, true, false, List, Option, None, Some, is_some, refl, sym, ap, subst, ◌∙◌}
use Rattle.std.specs.FinMap as table
use Rattle.std.specs.FinSet as set
use Rattle.seam_node_steps.specs.Prelude.{RealView, has_ready, Map, set_at, without, real_is_ready, has_witness}
use Rattle.seam_node_steps.specs.Prelude.{with_entity}
use Rattle.seam_cell_parts.specs.declared.reals.Reals.{Reals}
use Rattle.seam_cell_parts.specs.Kept.{marked, with_mark, AreKept, IsOpen, IsOpenFor}
use Rattle.seam_cell_parts.proofs.MarkLemmas.{out_again, mark_twice, unmarked, marked_in}
use Rattle.seam_cell_parts.proofs.MarkLemmas.{not_marked, marked_out, removed_gone, remove_none, put_again}

-- the reals after one was taken out
pub taken_out : (r s : Reals) (e : ℕ) (x : RealView) → AreKept r → table.get r.items.items e ≡ Some x →
    s.items.items ≡ table.remove r.items.items e → set.contains s.items.room e ≡ true → s.ready ≡ with_entity e r.ready →
    s.witnesses ≡ r.witnesses → IsOpen s e (is_some x.witness)
taken_out r s e x kept at items room ready witnesses = record {
  gone = ap (λ m. table.get m e) items ∙ removed_gone r.items.items e;
  room = room;
  ready =
      ready
      ∙ (ap (with_entity e) (kept.ready ∙ marked_out real_is_ready r.items.items e x at)
      ∙ (mark_twice e (has_ready x.orders) (marked real_is_ready (table.remove r.items.items e))
      ∙ ap (λ m. with_entity e (marked real_is_ready m)) (sym items)));
  witnesses =
      witnesses
      ∙ (kept.witnesses
      ∙ (marked_out has_witness r.items.items e x at ∙ ap (λ m. with_mark (is_some x.witness) e (marked has_witness m)) (sym items)));
}

-- a place that is made
pub place_made : (r s : Reals) (e : ℕ) (witness : Bool) → AreKept r → table.get r.items.items e ≡ None →
    s.items.items ≡ r.items.items → set.contains s.items.room e ≡ true → s.ready ≡ with_entity e r.ready →
    s.witnesses ≡ with_mark witness e r.witnesses → IsOpen s e witness
place_made r s e witness kept none items room ready witnesses = record {
  gone = ap (λ m. table.get m e) items ∙ none;
  room = room;
  ready = ready ∙ ap (with_entity e) (kept.ready ∙ ap (marked real_is_ready) (sym items));
  witnesses = witnesses ∙ ap (with_mark witness e) (kept.witnesses ∙ ap (marked has_witness) (sym items));
}

-- the reals as they were, with as many marks
pub same_kept : (r s : Reals) → AreKept r → s.items.items ≡ r.items.items → s.ready ≡ r.ready → s.witnesses ≡ r.witnesses → AreKept s
same_kept r s kept items ready witnesses = record {
  ready = ready ∙ (kept.ready ∙ ap (marked real_is_ready) (sym items));
  witnesses = witnesses ∙ (kept.witnesses ∙ ap (marked has_witness) (sym items));
}

-- a mark that was made and taken again
pub mark_undone : (r : Reals) (e : ℕ) → AreKept r → table.get r.items.items e ≡ None → without e (with_entity e r.ready) ≡ r.ready
mark_undone r e kept none =
    out_again e r.ready
    ∙ (ap (without e) kept.ready ∙ (not_marked real_is_ready r.items.items e none ∙ sym kept.ready))

ready_mark : (m : Map RealView) (e : ℕ) (b : Bool) (ready old : List ℕ) → table.get m e ≡ None →
    old ≡ with_entity e (marked real_is_ready m) →
    (b ≡ true → ready ≡ old) → (b ≡ false → ready ≡ without e old) → ready ≡ with_mark b e (marked real_is_ready m)
ready_mark m e true ready old none is stays goes = stays refl ∙ is
ready_mark m e false ready old none is stays goes =
    goes refl ∙ (ap (without e) is ∙ (out_again e (marked real_is_ready m) ∙ not_marked real_is_ready m e none))

-- the reals after one was put in
pub is_put_in : (r s : Reals) (e : ℕ) (x : RealView) → IsOpen r e (is_some x.witness) →
    s.items.items ≡ table.insert r.items.items e x → (has_ready x.orders ≡ true → s.ready ≡ r.ready) →
    (has_ready x.orders ≡ false → s.ready ≡ without e r.ready) → s.witnesses ≡ r.witnesses → AreKept s
is_put_in r s e x place items stays goes witnesses = record {
  ready =
      ready_mark r.items.items e (has_ready x.orders) s.ready r.ready place.gone place.ready stays goes
      ∙ sym (ap (marked real_is_ready) items ∙ marked_in real_is_ready r.items.items e x place.gone);
  witnesses =
      witnesses
      ∙ (place.witnesses ∙ sym (ap (marked has_witness) items ∙ marked_in has_witness r.items.items e x place.gone));
}

-- the reals after a place was given back
pub is_closed : (r s : Reals) (e : ℕ) (witness : Bool) → IsOpen r e witness → s.items.items ≡ r.items.items →
    s.ready ≡ without e r.ready → s.witnesses ≡ without e r.witnesses → AreKept s
is_closed r s e witness place items ready witnesses = record {
  ready =
      ready
      ∙ (ap (without e) place.ready
      ∙ (out_again e (marked real_is_ready r.items.items)
      ∙ (not_marked real_is_ready r.items.items e place.gone ∙ ap (marked real_is_ready) (sym items))));
  witnesses =
      witnesses
      ∙ (ap (without e) place.witnesses
      ∙ (unmarked e witness (marked has_witness r.items.items)
      ∙ (not_marked has_witness r.items.items e place.gone ∙ ap (marked has_witness) (sym items))));
}

-- a place for what a step leaves of the real that was taken out, whose witness stays with it
pub place_for : (r : Reals) (e : ℕ) (x : RealView) (left : Option RealView) → IsOpen r e (is_some x.witness) →
    ((q : RealView) → left ≡ Some q → is_some q.witness ≡ is_some x.witness) → IsOpenFor r e left
place_for r e x None place same = (is_some x.witness, place)
place_for r e x (Some q) place same = subst (IsOpen r e) (sym (same q refl)) place

-- what is put where one was taken out
pub set_removed : {X : Type 0} (m : Map X) (e : ℕ) (o : Option X) → set_at (table.remove m e) e o ≡ set_at m e o
set_removed m e None = remove_none (table.remove m e) e (removed_gone m e)
set_removed m e (Some x) = put_again m e x

-- a place with one more mark of a witness
pub witness_marked : (r : Reals) (e : ℕ) (was : Bool) (ws : List ℕ) → IsOpen r e was → ws ≡ with_entity e r.witnesses →
    IsOpen (record { items = r.items; ready = r.ready; witnesses = ws }) e true
witness_marked r e was ws place is = record {
  gone = place.gone;
  room = place.room;
  ready = place.ready;
  witnesses = is ∙ (ap (with_entity e) place.witnesses ∙ mark_twice e was (marked has_witness r.items.items));
}
