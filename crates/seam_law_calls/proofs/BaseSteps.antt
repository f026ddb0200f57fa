-- A step of a base node is, for each entity, one of the moves.
use Rattle.seam_law_calls.proofs.Prelude.{◌≡◌, ℕ, ◌⊎◌, Bool, true, false, not, cond, List, [], Option, None, Some, refl, sym, ap, ◌∙◌}
use Rattle.seam_law_calls.proofs.Prelude.{subst, inl, inr, nat_lt, nat_cmp_total, unsigned_tied, cases_eq, eq-eqb, ne_eqb, From}
use Rattle.seam_law_calls.proofs.Prelude.{Call as CallData, Order, Msg, BaseCall, Current, Tick, Update, Map, about, BaseView, RouteView}
use Rattle.seam_law_calls.proofs.Prelude.{PartView, ProxyView, with_part, stray_base_call, stray_current, stray_update, sends_none}
use Rattle.seam_law_calls.proofs.Prelude.{base_steps, mine, concerning, orders_of, AtBase, at_base, newer, part_offered, updated, BaseMoves}
use Rattle.seam_law_calls.proofs.Prelude.{entity_of, unless_stray}
use Rattle.std.specs.FinMap as table
use Rattle.seam_node_steps.specs.Prelude.{case_of, Bounds}
use Rattle.seam_call.specs.declared.shown.Update.{Update as UpdateData}
use Rattle.seam_node_steps.specs.BaseCases
use Rattle.seam_node_steps.specs.BaseCases.{may_call, is_stray}
use Rattle.seam_law_calls.specs.BaseMoves as move
use Rattle.seam_law_calls.proofs.Lists.{mine_own, mine_other}

-- ---- maps at the entity's number

pub got_own : {X : Type 0} (m : Map X) (e : ℕ) (x : X) → table.get (table.insert m e x) e ≡ Some x
got_own m e x =
    table.get-insert nat_cmp_total m e x e ∙ ap (λ b. cond b (Some x) (table.get m e)) (unsigned_tied e e ∙ eq-eqb e e refl)

pub got_other : {X : Type 0} (m : Map X) (y e : ℕ) (x : X) → (y ≡ e → ⊥) → table.get (table.insert m y x) e ≡ table.get m e
got_other m y e x n =
    table.get-insert nat_cmp_total m y x e
    ∙ ap (λ b. cond b (Some x) (table.get m e)) (unsigned_tied e y ∙ ne_eqb e y (λ q. n (sym q)))

pub gone_own : {X : Type 0} (m : Map X) (e : ℕ) → table.get (table.remove m e) e ≡ None
gone_own m e =
    table.get-remove nat_cmp_total m e e ∙ ap (λ b. cond b None (table.get m e)) (unsigned_tied e e ∙ eq-eqb e e refl)

pub gone_other : {X : Type 0} (m : Map X) (y e : ℕ) → (y ≡ e → ⊥) → table.get (table.remove m y) e ≡ table.get m e
gone_other m y e n =
    table.get-remove nat_cmp_total m y e
    ∙ ap (λ b. cond b None (table.get m e)) (unsigned_tied e y ∙ ne_eqb e y (λ q. n (sym q)))

pub at_same : (a b : List Order) (r q : Option RouteView) (p o : Option PartView) → a ≡ b → r ≡ q → p ≡ o →
    ◌≡◌ {A = AtBase} (record { orders = a; route = r; part = p }) (record { orders = b; route = q; part = o })
at_same a b r q p o x y z = λ i. record { orders = x i; route = y i; part = z i }

some_is : {X : Type 0} (a b : X) → Some a ≡ Some b → a ≡ b
some_is a b is = cc

module _ (e : ℕ) (b : BaseView) where
  abbrev s : AtBase
  s = at_base e b

  abbrev Goal : Option Msg → BaseView → List (ℕ × Msg) → Type 0
  Goal i d sent = BaseMoves b.here b.cells e s i (at_base e d) (concerning e sent)

  pub part_own : (p : PartView) → at_base e (with_part b e p) ≡ record s { part = Some p }
  part_own p = at_same _ _ _ _ _ _ refl refl (got_own b.parts e p)

  part_at : (x : ℕ) (p : PartView) → x ≡ e → at_base e (with_part b x p) ≡ record s { part = Some p }
  part_at x p is = ap (λ z. at_base e (with_part b z p)) is ∙ part_own p

  pub part_other : (x : ℕ) (p : PartView) → (x ≡ e → ⊥) → at_base e (with_part b x p) ≡ s
  part_other x p n = at_same _ _ _ _ _ _ refl refl (got_other b.parts x e p n)

  -- ---- messages

  call_by : (c : CallData) (p : PartView) (d : Bool) → c.entity ≡ e → table.get b.parts e ≡ Some p → may_call b.here p c ≡ d →
      Goal (Some (BaseCall c)) (unless_stray (not d) b (sends_none (with_part b c.entity (part_offered b.here p c)))).state []
  call_by c p true is has may = move.offers c p refl is has may (part_at c.entity (part_offered b.here p c) is) refl
  call_by c p false is has may =
      move.strays (BaseCall c) refl (ap (stray_base_call b.here c) has ∙ ap not may) refl refl

  call_at : (c : CallData) (o : Option PartView) → c.entity ≡ e → table.get b.parts e ≡ o →
      Goal (Some (BaseCall c)) (unless_stray (stray_base_call b.here c o) b (sends_none (BaseCases.part_called b c o))).state []
  call_at c None is has = move.strays (BaseCall c) refl (ap (stray_base_call b.here c) has) refl refl
  call_at c (Some p) is has = call_by c p (may_call b.here p c) is has refl

  call_own : (c : CallData) → c.entity ≡ e → Goal (Some (BaseCall c)) (base_steps b (From 0 (BaseCall c))).state []
  call_own c is = call_at c (table.get b.parts c.entity) is (sym (ap (table.get b.parts) is))

  reroute_by : (new r : RouteView) (d : Bool) → nat_lt r.generation new.generation ≡ d → table.get b.routes e ≡ Some r →
      table.get (BaseCases.newer_route d b e new).routes e ≡ Some (newer r new)
  reroute_by new r true is has = got_own b.routes e new ∙ sym (ap (λ t. Some (cond t new r)) is)
  reroute_by new r false is has = has ∙ sym (ap (λ t. Some (cond t new r)) is)

  current_orders : (d : Bool) (x : ℕ) (new : RouteView) → (BaseCases.newer_route d b x new).orders ≡ b.orders
  current_orders true x new = refl
  current_orders false x new = refl

  current_parts : (d : Bool) (x : ℕ) (new : RouteView) → (BaseCases.newer_route d b x new).parts ≡ b.parts
  current_parts true x new = refl
  current_parts false x new = refl

  rerouted : (new r : RouteView) → table.get b.routes e ≡ Some r →
      at_base e (BaseCases.newer_route (nat_lt r.generation new.generation) b e new) ≡ record s { route = Some (newer r new) }
  rerouted new r has =
      let d = nat_lt r.generation new.generation in
      at_same _ _ _ _ _ _ (ap (orders_of e) (current_orders d e new)) (reroute_by new r d refl has)
      (ap (λ m. table.get m e) (current_parts d e new))

  current_by : (new r : RouteView) (d : Bool) → table.get b.routes e ≡ Some r → stray_current new (Some r) ≡ d →
      Goal (Some (Current e new.cell new.generation))
      (unless_stray d b (sends_none (BaseCases.newer_route (nat_lt r.generation new.generation) b e new))).state []
  current_by new r true has is =
      move.strays (Current e new.cell new.generation) refl (ap (stray_current new) has ∙ is) refl refl
  current_by new r false has is = move.reroutes new r refl has is (rerouted new r has) refl

  current_at : (new : RouteView) (o : Option RouteView) → table.get b.routes e ≡ o →
      Goal (Some (Current e new.cell new.generation))
      (unless_stray (stray_current new o) b (sends_none (BaseCases.current b e new o))).state []
  current_at new None has = move.strays (Current e new.cell new.generation) refl (ap (stray_current new) has) refl refl
  current_at new (Some r) has = current_by new r (stray_current new (Some r)) has refl

  current_own : (x j g : ℕ) → x ≡ e → Goal (Some (Current x j g)) (base_steps b (From 0 (Current x j g))).state []
  current_own x j g is =
      subst (λ z. Goal (Some (Current z j g)) (base_steps b (From 0 (Current z j g))).state []) (sym is)
      (current_at (record { cell = j; generation = g }) (table.get b.routes e) refl)

  update_proxy : (u : UpdateData) (p : PartView) (x : Option ProxyView) → u.entity ≡ e → table.get b.parts e ≡ Some p →
      at_base e (BaseCases.updated_proxy b u p x) ≡ record s { part = Some (move.proxy_updated p u x) }
  update_proxy u p None is has = at_same _ _ _ _ _ _ refl refl has
  update_proxy u p (Some x) is has = part_at u.entity (move.proxy_updated p u (Some x)) is

  update_part : (u : UpdateData) (o : Option PartView) → u.entity ≡ e → table.get b.parts e ≡ o →
      at_base e (BaseCases.update b u o) ≡ record s { part = updated o u }
  update_part u None is has = at_same _ _ _ _ _ _ refl refl has
  update_part u (Some p) is has = update_proxy u p p.proxy is has

  update_by : (u : UpdateData) (o : Option PartView) (d : Bool) → u.entity ≡ e → table.get b.parts e ≡ o → stray_update u o ≡ d →
      Goal (Some (Update u)) (unless_stray d b (sends_none (BaseCases.update b u o))).state []
  update_by u o true is has sound = move.strays (Update u) refl (ap (stray_update u) has ∙ sound) refl refl
  update_by u o false is has sound =
      move.updates u refl is (ap (stray_update u) has ∙ sound)
      (update_part u o is has ∙ ap (λ q. record s { part = updated q u }) (sym has)) refl

  update_own : (u : UpdateData) → u.entity ≡ e → Goal (Some (Update u)) (base_steps b (From 0 (Update u))).state []
  update_own u is =
      update_by u (table.get b.parts u.entity) (stray_update u (table.get b.parts u.entity)) is (sym (ap (table.get b.parts) is)) refl

  -- a message about another entity
  stays_by : (m : Msg) (x : ℕ) (d : Bool) (v : BaseView) → about m ≡ Some x → (x ≡ e → ⊥) → at_base e v ≡ s →
      Goal (mine e m) (unless_stray d b (sends_none v)).state []
  stays_by m x true v a n same = move.rests (mine_other e x m a n) refl refl
  stays_by m x false v a n same = move.rests (mine_other e x m a n) same refl

  called_other : (c : CallData) (o : Option PartView) → (c.entity ≡ e → ⊥) → at_base e (BaseCases.part_called b c o) ≡ s
  called_other c None n = refl
  called_other c (Some p) n = part_other c.entity (part_offered b.here p c) n

  newer_other : (d : Bool) (x : ℕ) (new : RouteView) → (x ≡ e → ⊥) → at_base e (BaseCases.newer_route d b x new) ≡ s
  newer_other true x new n = at_same _ _ _ _ _ _ refl (got_other b.routes x e new n) refl
  newer_other false x new n = refl

  current_other : (x : ℕ) (new : RouteView) (o : Option RouteView) → (x ≡ e → ⊥) → at_base e (BaseCases.current b x new o) ≡ s
  current_other x new None n = refl
  current_other x new (Some r) n = newer_other (nat_lt r.generation new.generation) x new n

  proxy_other : (u : UpdateData) (p : PartView) (x : Option ProxyView) → (u.entity ≡ e → ⊥) →
      at_base e (BaseCases.updated_proxy b u p x) ≡ s
  proxy_other u p None n = refl
  proxy_other u p (Some x) n = part_other u.entity _ n

  update_other : (u : UpdateData) (o : Option PartView) → (u.entity ≡ e → ⊥) → at_base e (BaseCases.update b u o) ≡ s
  update_other u None n = refl
  update_other u (Some p) n = proxy_other u p p.proxy n

  case_other : (m : Msg) (x : ℕ) → about m ≡ Some x → (x ≡ e → ⊥) → at_base e (case_of b m) ≡ s
  case_other (BaseCall c) x a n = called_other c (table.get b.parts c.entity) (λ q. n (sym (some_is c.entity x a) ∙ q))
  case_other (Current y j g) x a n =
      current_other y (record { cell = j; generation = g }) (table.get b.routes y) (λ q. n (sym (some_is y x a) ∙ q))
  case_other (Update u) x a n = update_other u (table.get b.parts u.entity) (λ q. n (sym (some_is u.entity x a) ∙ q))
  case_other _ x a n = refl

  abbrev Hears : Msg → Option Msg → Type 0
  Hears m i = Goal i (base_steps b (From 0 m)).state []

  -- a message about the entity
  own_moves : (m : Msg) → about m ≡ Some e → Hears m (Some m)
  own_moves (BaseCall c) a = call_own c (some_is c.entity e a)
  own_moves (Current x j g) a = current_own x j g (some_is x e a)
  own_moves Tick a = cc
  own_moves (Bounds x) a = cc
  own_moves (Update u) a = update_own u (some_is u.entity e a)
  own_moves m a = move.strays m refl refl refl refl

  hears_by : (m : Msg) (x : ℕ) → about m ≡ Some x → (x ≡ e) ⊎ (x ≡ e → ⊥) → Hears m (mine e m)
  hears_by m x a (inl is) =
      subst (Hears m) (sym (mine_own e m (a ∙ ap Some is))) (own_moves m (a ∙ ap Some is))
  hears_by m x a (inr n) = stays_by m x (is_stray b m) (case_of b m) a n (case_other m x a n)

  nothing_sent : (m : Msg) (d : Bool) → (unless_stray d b (sends_none (case_of b m))).sent ≡ []
  nothing_sent m true = refl
  nothing_sent m false = refl

  hears : (m : Msg) → Hears m (mine e m)
  hears Tick = move.strays Tick refl refl refl refl
  hears (Bounds x) = move.strays (Bounds x) refl refl refl refl
  hears m = hears_by m (entity_of m) refl (cases_eq (entity_of m) e)

  pub message_moves : (a : ℕ) (m : Msg) → Goal (mine e m) (base_steps b (From a m)).state (base_steps b (From a m)).sent
  message_moves a m =
      subst (λ l. Goal (mine e m) (base_steps b (From a m)).state l) (sym (nothing_sent m (is_stray b m))) (hears m)
