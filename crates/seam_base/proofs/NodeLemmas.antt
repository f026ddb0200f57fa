-- Cases of a base node's step, as changes of one part.
use Rattle.std.proofs.Common.{◌≡◌, ℕ, Bool, true, false, not, find, List, ◌∷◌, ◌++◌, Option, None, Some, Result, OnOk, refl, sym, ap, ◌∙◌}
use Rattle.std.specs.Prelude.{if◌then◌else◌, option_map}
use Rattle.std.specs.FinMap as table
use Rattle.std.proofs.lemmas.List.{append-nil}
use Rattle.seam_table.proofs.Found.{found}
use Rattle.seam_node_steps.specs.Prelude.{Order, Msg, Map, number_of, BaseView, PartView, ProxyView, RouteView, with_part, sends_none}
use Rattle.seam_node_steps.specs.Prelude.{stray_update, update, updated_proxy}
use Rattle.seam_call.specs.declared.shown.Update.{Update}
use Rattle.seam_node_steps.specs.BaseCases
use Rattle.seam_node_steps.specs.BaseCases.{unless_stray}
use Rattle.seam_base.specs.declared.context.BaseContext.{BaseContext}
use Rattle.seam_base.specs.Nodes.{node_of, has_call, has_update}
use Rattle.seam_base.specs.Marks.{passes_in, least}
use Rattle.seam_base.specs.Parts.{changed_at, with_ready_call, with_shown, with_update, parts_with_update, client_with_update}
use Rattle.seam_base.proofs.Marks.{changed_none, changed_there, changed_same}
use Rattle.seam_base.proofs.PartLemmas.{on_ok}

abbrev with_parts : BaseView → Map PartView → BaseView
with_parts b m = record b { parts = m }

-- ---- update

module _ (b : BaseView) (u : Update) where
  updated_client : (p : PartView) (x : Option ProxyView) → Some p ≡ table.get b.parts u.entity → p.proxy ≡ x →
      updated_proxy b u p x ≡ with_parts b (changed_at (with_update u) b.parts u.entity)
  updated_client p None at is =
      ap (with_parts b) (sym (changed_same b.parts u.entity (with_update u) p at
      (ap (λ x. record p { proxy = option_map (client_with_update u) x }) is ∙ sym (ap (λ x. record p { proxy = x }) is))))
  updated_client p (Some x) at is =
      ap (with_parts b) (sym (changed_there b.parts u.entity (with_update u) p at
      ∙ ap (λ y. table.insert b.parts u.entity (record p { proxy = option_map (client_with_update u) y })) is))

  update_changes : (o : Option PartView) → o ≡ table.get b.parts u.entity →
      update b u o ≡ with_parts b (changed_at (with_update u) b.parts u.entity)
  update_changes None at = ap (with_parts b) (sym (changed_none b.parts u.entity (with_update u) at))
  update_changes (Some p) at = updated_client p p.proxy at refl

  update_by : (s : Bool) → with_parts b (if s then b.parts else changed_at (with_update u) b.parts u.entity)
      ≡ (unless_stray s b (sends_none (update b u (table.get b.parts u.entity)))).state
  update_by true = refl
  update_by false = sym (update_changes (table.get b.parts u.entity) refl)

  pub update_left : {T E : Type 0} (r : Result T E) (m : Map PartView) → OnOk r (m ≡ parts_with_update u b.parts) →
      OnOk r (with_parts b m ≡ (unless_stray (stray_update u (table.get b.parts u.entity)) b
      (sends_none (update b u (table.get b.parts u.entity)))).state)
  update_left r m = on_ok r (λ is. ap (with_parts b) is ∙ update_by (stray_update u (table.get b.parts u.entity)))

-- ---- an order that stays

module _ (K : BaseContext) (rs : Map RouteView) (ps ps' : Map PartView) (old new os : List Order) (o so : Order) (old_is : old ≡ o ∷ os)
    (new_is : new ≡ so ∷ os) (same : so ≡ o) (parts : ps' ≡ ps) where
  abbrev before : List Order → BaseView
  before l = node_of K l rs ps

  abbrev IsStray : Type 0
  IsStray = BaseCases.stray_order (before (o ∷ os)) o ≡ true

  stays_by : IsStray → BaseCases.sends_none (before (o ∷ os)) ≡ BaseCases.base_task (before old) old
  stays_by stray =
      sym (ap (λ s. unless_stray s (before (o ∷ os)) (BaseCases.order_of_node (before os) o)) stray)
      ∙ ap (λ l. BaseCases.base_task (before l) l) (sym old_is)

  put_back_is : node_of K new rs ps' ≡ before (o ∷ os)
  put_back_is = (λ i. node_of K (new_is i) rs (parts i)) ∙ ap (λ x. before (x ∷ os)) same

  pub order_stays : {T E : Type 0} (r : Result T E) → OnOk r IsStray →
      OnOk r (node_of K new rs ps' ≡ (BaseCases.base_task (before old) old).state)
  order_stays r = on_ok r (λ stray. put_back_is ∙ ap (λ t. t.state) (stays_by stray))

  pub nothing_is_sent : {T E : Type 0} (r : Result T E) (out out' : List (ℕ × Msg)) → out' ≡ out → OnOk r IsStray →
      OnOk r (out' ≡ out ++ (BaseCases.base_task (before old) old).sent)
  nothing_is_sent r out out' is =
      on_ok r (λ stray. is ∙ (sym (append-nil out) ∙ ap (λ t. out ++ t.sent) (stays_by stray)))

-- ---- the task without orders

module _ (test : PartView → Bool) (m : Map PartView) (e : ℕ) where
  -- the least entity whose part passes is found with its part
  least_found : (p : PartView) → least test m ≡ Some e → Some p ≡ table.get m e →
      find (passes_in test) (table.entries m) ≡ Some (e, p)
  least_found p is at = by (find (passes_in test) (table.entries m)) refl is
    where
      by : (o : Option (ℕ × PartView)) → find (passes_in test) (table.entries m) ≡ o → option_map number_of o ≡ Some e →
          find (passes_in test) (table.entries m) ≡ Some (e, p)
      by None found_is number = cc
      by (Some q) found_is number =
          let key : q.0 ≡ e = cc in
          let there = (found (passes_in test) m q found_is).0 in
          let both = sym there ∙ (ap (table.get m) key ∙ sym at) in
          let part : q.1 ≡ p = cc in
          found_is ∙ (λ i. Some (key i, part i))

  -- it is there
  pub least_is_there : least test m ≡ Some e → None ≡ table.get m e → ⊥
  least_is_there is at = by (find (passes_in test) (table.entries m)) refl is
    where
      by : (o : Option (ℕ × PartView)) → find (passes_in test) (table.entries m) ≡ o → option_map number_of o ≡ Some e → ⊥
      by None found_is number = cc
      by (Some q) found_is number =
          let key : q.0 ≡ e = cc in
          let there = (found (passes_in test) m q found_is).0 in
          let both = sym there ∙ (ap (table.get m) key ∙ sym at) in
          cc

none_found : (test : PartView → Bool) (m : Map PartView) → least test m ≡ None → find (passes_in test) (table.entries m) ≡ None
none_found test m is = by (find (passes_in test) (table.entries m)) is
  where
    by : (o : Option (ℕ × PartView)) → option_map number_of o ≡ None → o ≡ None
    by None is = refl
    by (Some q) is = cc

module _ (b : BaseView) (e : ℕ) (p : PartView) (at : Some p ≡ table.get b.parts e) where
  abbrev task_is : BaseView
  task_is = (BaseCases.task_without_orders b (BaseCases.ready_part b)).state

  module _ (is : least has_call b.parts ≡ Some e) where
    ready_is : task_is ≡ (BaseCases.task_without_orders b (Some (e, p))).state
    ready_is = ap (λ o. (BaseCases.task_without_orders b o).state) (least_found has_call b.parts e p is at)

    pub call_waits : false ≡ BaseCases.may_execute p → b ≡ task_is
    call_waits may =
        ap (λ d. (unless_stray (not d) b (sends_none (with_part b e (with_ready_call b.here p)))).state) may ∙ sym ready_is

    pub call_is_executed : {T E : Type 0} (r : Result T E) (m : Map PartView) → true ≡ BaseCases.may_execute p →
        OnOk r (m ≡ changed_at (with_ready_call b.here) b.parts e) → OnOk r (with_parts b m ≡ task_is)
    call_is_executed r m may = on_ok r (λ is. ap (with_parts b) (is ∙ changed_there b.parts e (with_ready_call b.here) p at)
        ∙ (ap (λ d. (unless_stray (not d) b (sends_none (with_part b e (with_ready_call b.here p)))).state) may ∙ sym ready_is))

  module _ (no_call : least has_call b.parts ≡ None) (is : least has_update b.parts ≡ Some e) where
    update_is : task_is ≡ (BaseCases.proxy_task b (Some (e, p))).state
    update_is =
        ap (λ o. (BaseCases.task_without_orders b o).state) (none_found has_call b.parts no_call)
        ∙ ap (λ o. (BaseCases.proxy_task b o).state) (least_found has_update b.parts e p is at)

    pub update_waits : false ≡ BaseCases.may_show p.proxy → b ≡ task_is
    update_waits may =
        ap (λ d. (unless_stray (not d) b (sends_none (with_part b e (with_shown p)))).state) may ∙ sym update_is

    pub update_is_shown : {T E : Type 0} (r : Result T E) (m : Map PartView) → true ≡ BaseCases.may_show p.proxy →
        OnOk r (m ≡ changed_at with_shown b.parts e) → OnOk r (with_parts b m ≡ task_is)
    update_is_shown r m may = on_ok r (λ is. ap (with_parts b) (is ∙ changed_there b.parts e with_shown p at)
        ∙ (ap (λ d. (unless_stray (not d) b (sends_none (with_part b e (with_shown p)))).state) may ∙ sym update_is))
