-- Base parts after calls.
use Rattle.std.proofs.Common.{◌≡◌, ℕ, ◌≤◌, ◌+◌, subst, Result, OnOk, OnErr, Ok, Err, List, [], ◌∷◌, Bool}
use Rattle.std.proofs.Common.{true, false, ◌&&◌, not, find, is_some, if◌then◌else◌, Option, None, Some, refl, sym, ap, ◌∙◌, arith}
use Rattle.std.specs.Prelude.{option_map, cond, ◌||◌}
use Rattle.std.specs.List.{list_any, filter}
use Rattle.seam_node_steps.specs.Prelude.{has_any, after, client_of, changes, TypeDef, order_of, State, Call, ClientText, Here, type_at}
use Rattle.seam_node_steps.specs.Prelude.{properties, PartView, ProxyView, line_if, base_text, shown_to_client, order_is_ready, may_offer}
use Rattle.seam_node_steps.specs.Prelude.{ready_order, ready_call, OrderView, next_item, proxy_is_ready, after_showing, with_deed, offered}
use Rattle.seam_node_steps.specs.Prelude.{new_part, new_proxy, with_proxy, properties_of}
use Rattle.std.specs.declared.cmp.Ordering.{Ordering}
use Rattle.std.specs.declared.cmp.Ordering.TheVariants.{Less, Equal, Greater}
use Rattle.seam_call.specs.declared.shown.ClientText.TheVariants as text
use Rattle.std.specs.Ordering.{nat_cmp}
use Rattle.std.proofs.lemmas.Bool.Decides.{nat_tests}
use Rattle.seam_entity.specs.ReadyCalls.{call_in, after_order, after_ready}
use Rattle.seam_node_steps.proofs.Tables.{entries_empty}
use Rattle.seam_node_steps.specs.BaseCases
use Rattle.seam_node_steps.specs.BaseCases.{with_offer, executed}
use Rattle.seam_base.specs.Parts.{told, with_state, with_orders, with_call, with_ready_call, with_shown}
use Rattle.seam_base.specs.Nodes.{has_call, has_update, has_client}
use Rattle.seam_base.specs.Marks.{passes}
use Rattle.seam_defs.specs.declared.flags.Group.TheVariants as group

-- the text that is due for a client that is there is what the part shows it
told_is_shown : (h : Here) (p : PartView) (due : Bool) (t : Option ClientText) →
    t ≡ (if due && is_some p.proxy then Some (base_text h p) else None) → told p t ≡ shown_to_client due h p
told_is_shown h p due t is = ap (told p) is ∙ by p.proxy due
  where
    by : (x : Option ProxyView) (d : Bool) → let q = record p { proxy = x } in
        told q (if d && is_some x then Some (base_text h q) else None) ≡ shown_to_client d h q
    by None true = refl
    by None false = refl
    by (Some x) true = refl
    by (Some x) false = refl

-- the text that is made before the call is what the call shows
pub text_from : (h : Here) (p : PartView) (k : Call) (t : TypeDef) (s : State) (differs due : Bool) (o : Option ClientText) →
    t ≡ type_at h p.ty → s ≡ after t p.state k.deed → differs ≡ changes t p.state k.deed → due ≡ (differs && is_some p.proxy) →
    o ≡ (if due then Some (text.Base (p.version + 1) (client_of t.properties s)) else None) →
    told (with_deed h p k) o ≡ executed h p k
text_from h p k t s differs due o et es ec ed eo =
    told_is_shown h (with_deed h p k) (changes (type_at h p.ty) p.state k.deed) o
    (eo ∙ (λ i. if (due_is i) then Some (text.Base (p.version + 1) (client_of (et i).properties (state_is i))) else None))
  where
    state_is : s ≡ after (type_at h p.ty) p.state k.deed
    state_is = es ∙ ap (λ u. after u p.state k.deed) et

    due_is : due ≡ (changes (type_at h p.ty) p.state k.deed && is_some p.proxy)
    due_is = ed ∙ ap (λ b. b && is_some p.proxy) (ec ∙ ap (λ u. changes u p.state k.deed) et)

-- what was known of a call before it is what the call leaves
pub executed_from : (h : Here) (p : PartView) (s : State) (t : Option ClientText) (k : Call) → s ≡ (with_deed h p k).state →
    told (with_deed h p k) t ≡ executed h p k → with_offer (told (with_state p s k) t) k ≡ with_offer (executed h p k) k
executed_from h p s t k state text =
    ap (λ a. with_offer (told (with_state p a k) t) k) state ∙ ap (λ q. with_offer q k) text

-- ---- what the client is to be shown stays at a call

shown_same : (due : Bool) (h : Here) (p : PartView) → has_update (shown_to_client due h p) ≡ has_update p
shown_same due h p = by p.proxy due
  where
    by : (x : Option ProxyView) (d : Bool) →
        proxy_is_ready (option_map (line_if d (base_text h p)) x) ≡ proxy_is_ready x
    by None true = refl
    by None false = refl
    by (Some x) true = refl
    by (Some x) false = refl

executed_same : (h : Here) (p : PartView) (k : Call) → has_update (executed h p k) ≡ has_update p
executed_same h p k = shown_same (changes (type_at h p.ty) p.state k.deed) h (with_deed h p k)

pub offered_same : (h : Here) (p : PartView) (k : Call) (o : Ordering) → has_update (offered h p k o) ≡ has_update p
offered_same h p k Less = refl
offered_same h p k Equal = executed_same h p k
offered_same h p k Greater = refl

-- ---- a call whose turn it is

turn_is : (n next : ℕ) → next ≤ n → n ≤ next → nat_cmp n next ≡ Equal
turn_is n next low high = grind (arith, nat_tests)

pub offered_turn : {T E : Type 0} (h : Here) (p : PartView) (k : Call) (next : ℕ) (r : Result T E) (n : PartView) →
    next ≡ (order_of p.orders k.sender).next → next ≤ k.number → k.number ≤ next →
    OnOk r (n ≡ with_offer (executed h p k) k) → OnOk r (n ≡ with_call h k p)
offered_turn h p k next r n is low high done =
    subst (λ o. OnOk r (n ≡ offered h p k o))
    (sym (ap (nat_cmp k.number) (sym is) ∙ turn_is k.number next low high)) done

-- ---- what holds of a part after a step that may want memory

pub on_ok : {T E : Type 0} {A B : Type 0} (r : Result T E) → (A → B) → OnOk r A → OnOk r B
on_ok (Ok x) f a = f a
on_ok (Err e) f a = tt

pub on_err : {T E : Type 0} {A B : Type 0} (r : Result T E) → (A → B) → OnErr r A → OnErr r B
on_err (Ok x) f a = tt
on_err (Err e) f a = f a

-- a test that the change leaves as it was is as it was, also where nothing changed
pub either_way : {T E : Type 0} (test : PartView → Bool) (f : PartView → PartView) (p n : PartView) (r : Result T E) →
    test (f p) ≡ test p → OnOk r (n ≡ f p) → OnErr r (n ≡ p) → test n ≡ test p
either_way test f p n (Ok x) same done kept = ap test done ∙ same
either_way test f p n (Err e) same done kept = ap test kept

-- ---- whether some item passes

any_by : {A : Type 0} (x : A) (b c : Bool) (ys : List A) → c ≡ has_any ys → (b || c) ≡ has_any (cond b (x ∷ ys) ys)
any_by x true c ys rest = refl
any_by x false c ys rest = rest

pub any_filter : {A : Type 0} (t : A → Bool) (xs : List A) → list_any t xs ≡ has_any (filter t xs)
any_filter t [] = refl
any_filter t (x ∷ xs) = any_by x (t x) (list_any t xs) (filter t xs) (any_filter t xs)

-- ---- clients

pub attached_call : (h : Here) (p : PartView) → has_call (with_proxy h p) ≡ has_call p
attached_call h p = refl

-- a new client has no ready update
new_is_not_ready : (h : Here) (p : PartView) → has_update (with_proxy h p) ≡ false
new_is_not_ready h p =
    shown_same (has_any (properties_of (properties h p.ty) group.BaseClient)) h (record p { proxy = Some new_proxy })

pub attached_update : (h : Here) (p : PartView) (o : Option PartView) → Some p ≡ o → passes has_client o ≡ false →
    has_update (with_proxy h p) ≡ has_update p
attached_update h p o at none = new_is_not_ready h p ∙ by p.proxy (ap (passes has_client) at ∙ none)
  where
    by : (x : Option ProxyView) → is_some x ≡ false → false ≡ proxy_is_ready x
    by None none = refl
    by (Some x) none = cc

pub shown_call : (p : PartView) → has_call (with_shown p) ≡ has_call p
shown_call p = by p.proxy
  where
    by : (x : Option ProxyView) → has_call (after_showing p x) ≡ has_call p
    by None = refl
    by (Some x) = refl

-- ---- ready calls

pub ready_none : (h : Here) (p : PartView) → None ≡ ready_call p.orders → with_ready_call h p ≡ p
ready_none h p is = by (ready_order p.orders) (sym is)
  where
    by : (o : Option (ℕ × OrderView Call)) → call_in o ≡ None → BaseCases.after_ready h p o ≡ p
    by None none = refl
    by (Some o) none = ap (BaseCases.executes_ready h p o) none

-- what was known of a ready call before it is what the call leaves
pub ready_from : (h : Here) (p : PartView) (s : State) (t : Option ClientText) (k : Call) → ready_call p.orders ≡ Some k →
    s ≡ (with_deed h p k).state → told (with_deed h p k) t ≡ executed h p k →
    with_orders (told (with_state p s k) t) (after_ready p.orders) ≡ with_ready_call h p
ready_from h p s t k is state text = by (ready_order p.orders) is
  where
    by : (o : Option (ℕ × OrderView Call)) → call_in o ≡ Some k →
        with_orders (told (with_state p s k) t) (after_order p.orders o) ≡ BaseCases.after_ready h p o
    by None ready = cc
    by (Some o) ready =
        ap (λ a. with_orders (told (with_state p a k) t) (after_order p.orders (Some o))) state
        ∙ (ap (λ q. with_orders q (after_order p.orders (Some o))) text ∙ sym (ap (BaseCases.executes_ready h p o) ready))

pub ready_same : (h : Here) (p : PartView) → has_update (with_ready_call h p) ≡ has_update p
ready_same h p = by (ready_order p.orders)
  where
    by_call : (o : ℕ × OrderView Call) (k : Option Call) → has_update (BaseCases.executes_ready h p o k) ≡ has_update p
    by_call o None = refl
    by_call o (Some k) = executed_same h p k

    by : (o : Option (ℕ × OrderView Call)) → has_update (BaseCases.after_ready h p o) ≡ has_update p
    by None = refl
    by (Some o) = by_call o (next_item o.1)

-- ---- what is known of a part that may be called

module _ (h : Here) (k : Call) (p : PartView) (o : Option PartView) (at : Some p ≡ o) (fits : BaseCases.stray_base_call h k o ≡ false) where
  may_be_called : BaseCases.may_call h p k ≡ true
  may_be_called = by (BaseCases.may_call h p k) (ap (BaseCases.stray_base_call h k) at ∙ fits)
    where
      by : (b : Bool) → not b ≡ false → b ≡ true
      by true n = refl
      by false n = cc

  both_of : (a b : Bool) → (a && b) ≡ true → (a ≡ true) × (b ≡ true)
  both_of true b e = (refl, e)
  both_of false b e = cc

  pub call_is_offered : may_offer (order_of p.orders k.sender) k.number ≡ true
  call_is_offered = (both_of _ _ (both_of (BaseCases.fits_base_part h p.ty k) _ may_be_called).1).0

  pub part_executes : BaseCases.may_execute p ≡ true
  part_executes =
      (both_of (may_offer (order_of p.orders k.sender) k.number) _ (both_of (BaseCases.fits_base_part h p.ty k) _ may_be_called).1).1

pub passes_there : (test : PartView → Bool) (p : PartView) (o : Option PartView) → Some p ≡ o → passes test o ≡ true → test p ≡ true
passes_there test p o at is = ap (passes test) at ∙ is

-- ---- a part that has done nothing

pub new_has_no_call : (h : Here) (ty : ℕ) → has_call (new_part h ty) ≡ false
new_has_no_call h ty = ap (λ es. is_some (find order_is_ready es)) entries_empty
