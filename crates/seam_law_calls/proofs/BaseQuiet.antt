-- In a quiet world nothing of a base part's calls waits: no message, no order, and no held call whose turn it is.
use Rattle.seam_law_calls.proofs.Prelude.{◌≡◌, ℕ, false, is_some, List, [], Option, None, Some, refl, sym, ap, ◌∙◌, subst, AllByRecursion}
use Rattle.seam_law_calls.proofs.Prelude.{IsQuiet, next_item, Call as CallData, order_or, has_any, has_ready, BaseView, PartView, ProxyView}
use Rattle.seam_law_calls.proofs.Prelude.{part_is_ready, ready_part, proxy_is_ready, client_is_ready, ready_proxy, base_has_work, NodeView}
use Rattle.seam_law_calls.proofs.Prelude.{World, node_has_work, Cell, Base, letters_of, Desk, desk_of, parcel_of, IsStill, Frame, IsInFrame}
use Rattle.seam_law_calls.proofs.Prelude.{Has, mine, has_of, has_none, orders_of, entity_flow, from_sender, numbered_from, base_call_in}
use Rattle.seam_law_calls.proofs.Prelude.{base_call_of, part_desk, base_mail, as_base_sender, BaseCallsInTurn, home_of, proxy_of, order_in}
use Rattle.seam_law_calls.proofs.Prelude.{updates_at, shown_at, tells, HasClient, HasNoBaseCalls, quiet_links, quiet_tasks, sole_here}
use Rattle.seam_law_calls.proofs.Prelude.{all_delivered, all_done}
use Rattle.std.specs.FinMap as table
use Rattle.seam_law_calls.proofs.ExampleMet.{slots}
use Rattle.seam_law_calls.proofs.Quieting.{none_left, none_some, got_fails, no_turn_by}
use Rattle.seam_law_calls.proofs.PartSeen.{desk_of_part}
use Rattle.seam_law_calls.proofs.Holds.{neither}

-- neither a call of a part nor an update of its client is ready in a base node without a task
pub none_is_ready : (b : BaseView) (e : ℕ) (p : PartView) → base_has_work b ≡ false → table.get b.parts e ≡ Some p →
    (has_ready p.orders ≡ false) × (proxy_is_ready p.proxy ≡ false)
none_is_ready b e p h at =
    let two = neither (is_some (ready_part b)) _ (neither (has_any b.orders) _ h).1 in (
      got_fails part_is_ready (λ a b x. refl) b.parts e p (none_some (ready_part b) two.0) at,
      got_fails client_is_ready (λ a b x. refl) b.parts e p (none_some (ready_proxy b) two.1) at,
    )

no_call : (b : BaseView) (e s : ℕ) (p : PartView) → base_has_work b ≡ false → table.get b.parts e ≡ Some p →
    next_item (order_or (table.get p.orders s)) ≡ None
no_call b e s p h at = no_turn_by p.orders s (table.get p.orders s) (none_is_ready b e p h at).0 refl

no_update_by : (o : Option ProxyView) → proxy_is_ready o ≡ false → next_item (order_in o) ≡ None
no_update_by None h = refl
no_update_by (Some x) h = none_some (next_item x.updates) h

no_update : (b : BaseView) (e : ℕ) (p : PartView) → base_has_work b ≡ false → table.get b.parts e ≡ Some p →
    next_item (order_in p.proxy) ≡ None
no_update b e p h at = no_update_by p.proxy (none_is_ready b e p h at).1

-- ---- what a node has of an entity then

record IsIdlePart (h : Has) : Type 0 where
  orders : h.base.orders ≡ []
  ready : (p : PartView) → h.base.part ≡ Some p → (s : ℕ) → next_item (order_or (table.get p.orders s)) ≡ None
  told : (p : PartView) → h.base.part ≡ Some p → next_item (order_in p.proxy) ≡ None

idle_node : (e : ℕ) (n : NodeView) → node_has_work n ≡ false → IsIdlePart (has_of e n)
idle_node e (Cell c) h =
    record { orders = refl; ready = λ p at s. absurd (let z = at in cc); told = λ p at. absurd (let z = at in cc) }
idle_node e (Base b) h = record {
  orders = ap (orders_of e) (none_left b.orders (neither (has_any b.orders) _ h).0);
  ready = λ p at s. no_call b e s p h at;
  told = λ p at. no_update b e p h at;
}

idle_none : IsIdlePart has_none
idle_none = record { orders = refl; ready = λ p at s. absurd (let z = at in cc); told = λ p at. absurd (let z = at in cc) }

module _ (f : Frame) (e : ℕ) (w : World) (q : IsInFrame f w) (quiet : IsQuiet node_has_work w) where
  idle_at : (k : ℕ) → IsIdlePart ((entity_flow e w).slot k)
  idle_at = slots (λ k h. IsIdlePart h) e w (λ k n at. idle_node e n (quiet_tasks node_has_work w quiet k n at)) (λ k. idle_none)

  desk_by : (s : ℕ) (o : Option PartView) (d : Desk CallData) →
      ((p : PartView) → o ≡ Some p → next_item (order_or (table.get p.orders s)) ≡ None) → part_desk s o ≡ Some d → next_item d.order ≡ None
  desk_by s None d ready at = cc
  desk_by s (Some p) d ready at =
      let same : desk_of_part s p ≡ d = cc in
      ap (λ x. next_item x.order) (sym same) ∙ ready p refl

  still : (s : ℕ) → IsStill (as_base_sender s (entity_flow e w))
  still s = record {
    mail = λ x y. ap (λ l. letters_of (base_mail s) (letters_of (mine e) l)) (quiet_links node_has_work w q.sound.square quiet x y);
    stores = λ k. ap (λ os. letters_of (numbered_from s) (letters_of base_call_of os)) (idle_at k).orders;
    ready = λ k d at. desk_by s ((entity_flow e w).slot k).base.part d (λ p has. (idle_at k).ready p has s) at;
  }

  -- the part executed every call of the batch, each sender's in order
  pub all_executed : (first : ℕ → ℕ) (batch : ℕ → List CallData) → BaseCallsInTurn e first batch w → (k : ℕ) (p : PartView) →
      ((entity_flow e w).slot k).base.part ≡ Some p → (s : ℕ) → letters_of (from_sender s) p.done ≡ batch s
  all_executed first batch turns k p has s =
      let t = turns s in
      let there = ap (part_desk s) has in
      let same = (sole_here desk_of parcel_of (as_base_sender s (entity_flow e w)) t.place t.desk (desk_of_part s p) k t.in_turn.sole
      there).1 in
      ap (λ x. x.done) same ∙ all_done (first s) (batch s) (as_base_sender s (entity_flow e w)) (still s) t.place t.desk t.in_turn

  -- the client was shown all that its witness told
  pub all_shown : (ty first : ℕ) (h : HasClient f e ty first w) → shown_at ((entity_flow e w).slot (home_of f e)) ≡ h.issued
  all_shown ty first h =
      all_delivered updates_at shown_at tells (entity_flow e w) (home_of f e) first h.issued h.delivery
      (λ x. ap (letters_of (mine e)) (quiet_links node_has_work w q.sound.square quiet x (home_of f e)))
      (ap (λ o. next_item (order_in (proxy_of o))) h.here ∙ (idle_at (home_of f e)).told h.part h.here)

  -- no call is left
  pub no_call_left : HasNoBaseCalls e w
  no_call_left = record {
    orders = λ k. ap (letters_of base_call_of) (idle_at k).orders;
    letters = λ a k.
        subst (AllByRecursion (λ m. base_call_in m ≡ None))
        (sym (ap (letters_of (mine e)) (quiet_links node_has_work w q.sound.square quiet a k))) tt;
  }
