-- After a reap: the base part is gone and stays gone, and no call to it is left.
use Rattle.seam_law_calls.proofs.Prelude.{◌≡◌, ℕ, zero, suc, Bool, true, false, is_some, is_none, cond, eqb, List, [], ◌∷◌, ◌++◌, map}
use Rattle.seam_law_calls.proofs.Prelude.{filter, Option, None, Some, refl, sym, ap, ◌∙◌, slice_get, nat_cmp_total, unsigned_tied, eq-eqb}
use Rattle.seam_law_calls.proofs.Prelude.{Task, Call as CallData, Order, Msg, Reap, Here, base_of, order_if, reap_ordered_at, with_reap}
use Rattle.seam_law_calls.proofs.Prelude.{reaps_loaded, BaseView, RouteView, on_route, base_task, base_steps, NodeView, World, Cell, Base}
use Rattle.seam_law_calls.proofs.Prelude.{letters_of, more_letter, slot_at, IsSilent, Frame, here_at, AtBase, order_concerns, at_base}
use Rattle.seam_law_calls.proofs.Prelude.{has_of, has_none, base_call_in, base_call_of, calls_ordered, PartMoves, rests, refuses, offers}
use Rattle.seam_law_calls.proofs.Prelude.{sends, serves, executes, misses, updates, shows, ends, HasNoBaseCalls, HasNoPart, unless_stray}
use Rattle.std.specs.FinMap as table
use Rattle.seam_call.specs.declared.order.Order.TheVariants as order
use Rattle.seam_law_calls.proofs.PartSteps.{part_moves}
use Rattle.seam_law_calls.proofs.Keeping.{EventsKeep, FramedKeep, all_happen, run_keeps, slots_lead}
use Rattle.seam_node_steps.specs.Prelude.{noting}

-- ---- the order to reap

reap_by : (b : BaseView) (e : ℕ) (os : List Order) (route : Option RouteView) → is_some route ≡ true →
    table.get (unless_stray (is_none route) b (record {
      state = record b { orders = os; parts = table.remove b.parts e };
      sent = on_route route (Reap e);
    })).state.parts e ≡ None
reap_by b e os None is = cc
reap_by b e os (Some r) is =
    table.get-remove nat_cmp_total b.parts e e
    ∙ ap (λ t. cond t None (table.get b.parts e)) (unsigned_tied e e ∙ eq-eqb e e refl)

pub reap_ends_part : (b : BaseView) (e : ℕ) (os : List Order) → b.orders ≡ order.Reap e ∷ os → is_some (table.get b.routes e) ≡ true →
    table.get (base_steps b Task).state.parts e ≡ None
reap_ends_part b e os at routed =
    ap (λ l. table.get (base_task b l).state.parts e) at ∙ reap_by b e os (table.get b.routes e) routed

module _ (h : Here) (e : ℕ) (s : AtBase) (i : Option Msg) (t : AtBase) (sent : List (ℕ × Msg)) where
  -- no part comes where there is none
  no_part : PartMoves h e s i t sent → s.part ≡ None → t.part ≡ None
  no_part (rests n m l part z) none = part ∙ none
  no_part (refuses c n stray is z) none = ap (λ b. b.part) is ∙ none
  no_part (offers c p q n has may o l after z) none = absurd (let y = sym none ∙ has in cc)
  no_part (sends c cs n at left part z) none = part ∙ none
  no_part (serves c cs p q n at has home may o left after z) none = absurd (let y = sym none ∙ has in cc)
  no_part (executes p o c n has at item l after z) none = absurd (let y = sym none ∙ has in cc)
  no_part (misses u n why l part z) none = part ∙ none
  no_part (updates u p x n has is l after z) none = absurd (let y = sym none ∙ has in cc)
  no_part (shows p x n has is ready l after z) none = absurd (let y = sym none ∙ has in cc)
  no_part (ends os n at l after z) none = after

  -- no call comes where none was ordered
  record Silent : Type 0 where
    orders : calls_ordered t ≡ []
    sends_none : IsSilent base_call_in sent

  no_call : PartMoves h e s i t sent → calls_ordered s ≡ [] → Silent
  no_call (rests n m l part z) none = record { orders = l ∙ none; sends_none = z }
  no_call (refuses c n stray is z) none = record { orders = ap calls_ordered is ∙ none; sends_none = z }
  no_call (offers c p q n has may o l after z) none = record { orders = l ∙ none; sends_none = z }
  no_call (sends c cs n at left part z) none = absurd (let y = sym none ∙ at in cc)
  no_call (serves c cs p q n at has home may o left after z) none = absurd (let y = sym none ∙ at in cc)
  no_call (executes p o c n has at item l after z) none = record { orders = l ∙ none; sends_none = z }
  no_call (misses u n why l part z) none = record { orders = l ∙ none; sends_none = z }
  no_call (updates u p x n has is l after z) none = record { orders = l ∙ none; sends_none = z }
  no_call (shows p x n has is ready l after z) none = record { orders = l ∙ none; sends_none = z }
  no_call (ends os n at l after z) none = record { orders = l ∙ none; sends_none = z }

module _ (f : Frame) (e : ℕ) where
  -- ---- the part stays gone

  pub part_stays_gone : FramedKeep f (HasNoPart e)
  part_stays_gone =
      slots_lead f e (λ k s. s.base.part ≡ None)
      (λ k s i t sent none m. no_part (here_at f k) e _ _ _ _ (part_moves f e k s i t sent m) none)

  -- ---- no call is left

  pub no_call_happens : EventsKeep f (HasNoBaseCalls e)
  no_call_happens w v o frame none =
      let all = all_happen f e (λ k s. calls_ordered s.base ≡ []) (λ a k m. base_call_in m ≡ None)
      (λ k s i t sent here come m.
      let c = no_call (here_at f k) e _ _ _ _ (part_moves f e k s i t sent m) here in (c.orders, c.sends_none)) w v o frame
      (record { slots = none.orders; letters = none.letters }) in
      record { orders = all.slots; letters = all.letters }

  pub no_call_comes : FramedKeep f (HasNoBaseCalls e)
  no_call_comes = run_keeps f (HasNoBaseCalls e) no_call_happens

-- ---- reaps are loaded into a quiet world

no_call_by : (test : Order → Bool) (x : ℕ) (b : Bool) → test (order.Reap x) ≡ b →
    letters_of base_call_of (cond b (order.Reap x ∷ []) []) ≡ []
no_call_by test x true is = refl
no_call_by test x false is = refl

same_by : (o : Order) (os : List Order) (ls : List CallData) (b : Bool) → letters_of base_call_of os ≡ ls →
    letters_of base_call_of (cond b (o ∷ os) os) ≡ cond b (more_letter (base_call_of o) ls) ls
same_by o os ls true is = ap (more_letter (base_call_of o)) is
same_by o os ls false is = is

split_by : (o : Order) (os : List Order) (b : Bool) → cond b (more_letter (base_call_of o) (letters_of base_call_of os))
    (letters_of base_call_of os) ≡ letters_of base_call_of (cond b (o ∷ os) os)
split_by o os true = refl
split_by o os false = refl

-- an order to reap is no call
reap_is_none : (test : Order → Bool) (x : ℕ) (os : List Order) →
    letters_of base_call_of (filter test (os ++ order.Reap x ∷ [])) ≡ letters_of base_call_of (filter test os)
reap_is_none test x [] = no_call_by test x (test (order.Reap x)) refl
reap_is_none test x (o ∷ os) =
    same_by o (filter test (os ++ order.Reap x ∷ [])) (letters_of base_call_of (filter test os)) (test o) (reap_is_none test x os)
    ∙ split_by o (filter test os) (test o)

ordered_if : (e x : ℕ) (b : BaseView) (t : Bool) → calls_ordered (at_base e (order_if t b (order.Reap x))) ≡ calls_ordered (at_base e b)
ordered_if e x b true = reap_is_none (order_concerns e) x b.orders
ordered_if e x b false = refl

node_ordered : (e x : ℕ) (n : NodeView) → calls_ordered (has_of e (reap_ordered_at x n)).base ≡ calls_ordered (has_of e n).base
node_ordered e x (Cell c) = refl
node_ordered e x (Base b) = ordered_if e x (noting x b) (eqb (base_of b.here x) b.here.me)

slot_ordered : (e x : ℕ) (ns : List NodeView) (k : ℕ) →
    calls_ordered (slot_at (has_of e) has_none (slice_get (map (reap_ordered_at x) ns) k)).base
    ≡ calls_ordered (slot_at (has_of e) has_none (slice_get ns k)).base
slot_ordered e x [] k = refl
slot_ordered e x (n ∷ ns) zero = node_ordered e x n
slot_ordered e x (n ∷ ns) (suc k) = slot_ordered e x ns k

one_reap : (e x : ℕ) (w : World) → HasNoBaseCalls e w → HasNoBaseCalls e (with_reap w x)
one_reap e x w h = record { orders = λ k. slot_ordered e x w.nodes k ∙ h.orders k; letters = h.letters }

pub reaps_without_calls : (e : ℕ) (xs : List ℕ) (w : World) → HasNoBaseCalls e w → HasNoBaseCalls e (reaps_loaded w xs)
reaps_without_calls e [] w h = h
reaps_without_calls e (x ∷ xs) w h = reaps_without_calls e xs (with_reap w x) (one_reap e x w h)
