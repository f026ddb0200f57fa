-- Base parts and their clients along a round.
use Rattle.seam_law_book.proofs.Prelude.{◌≡◌, ℕ, Bool, true, false, List, [], ◌∷◌, Option, Some, None, refl, sym, ap, ◌∙◌, inl, inr}
use Rattle.seam_law_book.proofs.Prelude.{is_some, option_map, slice_get, ◌||◌, ◌==◌, list_any, filter_map, cases_eq, slice_get-map, Event}
use Rattle.seam_law_book.proofs.Prelude.{Order, Batch, Here, cell_count, WitnessView, PartView, ProxyView, NodeView, World, node_has_work}
use Rattle.seam_law_book.proofs.Prelude.{with_nodes, proxy_begins, part_begins, with_proxy, ordered_at, reap_ordered_at, loaded}
use Rattle.seam_law_book.proofs.Prelude.{reaps_loaded, look_loaded, joins, Entry, slot_at, Frame, here_at, IsInFrame, has_of, has_none}
use Rattle.seam_law_book.proofs.Prelude.{entity_flow, IsSpared, home_of, RunsTo, IsBetweenRounds, each, node_loaded, HasSettledPart, AreFor}
use Rattle.seam_law_book.proofs.Prelude.{ShowsItsPart, quiet_tasks, joined, nodes_after, AreOthers, slot_is, look_framed, look_given}
use Rattle.seam_law_book.proofs.Prelude.{bare_leads, SamePart, part_at, parts_ordered, reaps_part, is_among, part_peopled, bare_peopled}
use Rattle.seam_call.specs.declared.order.Order.TheVariants as order
use Rattle.seam_rule_lines.specs.declared.verdict.Entry.TheVariants as entry
use Rattle.seam_law_rounds.proofs.PartsLoaded.{same_some}
use Rattle.seam_law_rounds.proofs.Still.{is_still, still_leads}
use Rattle.seam_law_rounds.proofs.Joining.{joined_if, peopled, part_joined}
use Rattle.seam_law_clients.proofs.BaseLines.{shows_its_part}

abbrev pub tick : ℕ × Order
tick = (cell_count, order.Tick)

-- q is p, but maybe for what its client was shown; it has one where p has one
pub record IsButClient (p q : PartView) : Type 0 where
  pub type : q.ty ≡ p.ty
  pub orders : q.orders ≡ p.orders
  pub version : q.version ≡ p.version
  pub state : q.state ≡ p.state
  pub client : is_some q.proxy ≡ is_some p.proxy

-- ---- a client stays

module _ (f : Frame) (e : ℕ) (w v : World) (es : List Event) (frame : IsInFrame f w) (spared : IsSpared e w)
    (run : RunsTo w es v) (home : ℕ) (p : PartView) (here : ((entity_flow e w).slot home).base.part ≡ Some p)
    (others : (j : ℕ) → (j ≡ home → ⊥) → ((entity_flow e w).slot j).base.part ≡ None) (q : PartView)
    (there : ((entity_flow e v).slot home).base.part ≡ Some q) where
  only : p.proxy ≡ None → (j : ℕ) (a : PartView) → ((entity_flow e w).slot j).base.part ≡ Some a → a.proxy ≡ None
  only none j a at = elim (cases_eq j home) [
    | inl is ↦
        let same : p ≡ a = (let z = sym here ∙ (ap (λ i. ((entity_flow e w).slot i).base.part) (sym is) ∙ at) in cc) in
        ap (λ (x : PartView). x.proxy) (sym same) ∙ none
    | inr n ↦ absurd (let z = sym (others j n) ∙ at in cc)
  ]

  stays_by : (o : Option ProxyView) → p.proxy ≡ o → is_some q.proxy ≡ is_some o
  stays_by None none = ap is_some (bare_leads f e w v es frame spared (only none) run home q there)
  stays_by (Some x) some =
      let s = shows_its_part f e w v es frame spared run home p x here some in
      let same : s.part ≡ q = (let z = sym s.is ∙ there in cc) in
      ap (λ (y : PartView). is_some y.proxy) (sym same) ∙ ap is_some s.has

  pub client_stays : is_some q.proxy ≡ is_some p.proxy
  client_stays = stays_by p.proxy refl

-- a witness and a client are both there or neither
pub both_seen : (o : Option WitnessView) (x : Option ProxyView) (version : ℕ) → AreFor o x version → is_some o ≡ is_some x
both_seen None None version h = refl
both_seen None (Some x) version h = absurd h
both_seen (Some w) None version h = absurd h
both_seen (Some w) (Some x) version h = refl

-- ---- looks and reaps

-- a part that is what one was, but for its client, executed no more
same_done : (o t : Option PartView) → SamePart o t → (q : PartView) → t ≡ Some q → (p : PartView) × (o ≡ Some p) × (q.done ≡ p.done)
same_done None t same q is = absurd (let z = sym same ∙ is in cc)
same_done (Some p) t same q is =
    let now : record p { proxy = same.0 } ≡ q = (let z = sym same.1 ∙ is in cc) in
    (p, refl, sym (ap (λ (y : PartView). y.done) now))

-- where each node keeps its part, the world does
module _ (e : ℕ) (u : World) (turn : NodeView → NodeView) (same : (s : NodeView) → part_at e (turn s) ≡ part_at e s) where
  turned_by : (o : Option NodeView) → (slot_at (has_of e) has_none (option_map turn o)).base.part
      ≡ (slot_at (has_of e) has_none o).base.part
  turned_by None = refl
  turned_by (Some s) = same s

  turned_parts : (j : ℕ) → ((entity_flow e (with_nodes u turn)).slot j).base.part ≡ ((entity_flow e u).slot j).base.part
  turned_parts j = ap (λ o. (slot_at (has_of e) has_none o).base.part) (slice_get-map turn u.nodes j) ∙ turned_by (slice_get u.nodes j)

-- so no part comes where looks or reaps begin
module _ (e : ℕ) (u : World) (none : (j : ℕ) → ((entity_flow e u).slot j).base.part ≡ None) where
  pub looked_parts : (j : ℕ) → ((entity_flow e (look_loaded u)).slot j).base.part ≡ None
  looked_parts j = turned_parts e u (ordered_at tick) (λ s. parts_ordered e (tick ∷ []) s) j ∙ none j

  pub reaped_parts : (gone : List ℕ) (j : ℕ) → ((entity_flow e (reaps_loaded u gone)).slot j).base.part ≡ None
  reaped_parts gone j =
      ap (λ v. ((entity_flow e v).slot j).base.part) (nodes_after reap_ordered_at u gone)
      ∙ turned_parts e u (each reap_ordered_at gone) (reaps_part e gone) j ∙ none j

module _ (f : Frame) (u : World) (between : IsBetweenRounds f u) (v : World) (es : List Event)
    (run : RunsTo (look_loaded u) es v) (e ty : ℕ) (h : HasSettledPart f e ty u) where
  abbrev had : ℕ → Option PartView
  had j = ((entity_flow e u).slot j).base.part

  abbrev then_frame : IsInFrame f (look_loaded u)
  then_frame = look_framed f u between.nodes tick refl

  same_parts : (j : ℕ) → ((entity_flow e (look_loaded u)).slot j).base.part ≡ had j
  same_parts = turned_parts e u (ordered_at tick) (λ s. parts_ordered e (tick ∷ []) s)

  pub looks_leave_part : (q : PartView) → ((entity_flow e v).slot (home_of f e)).base.part ≡ Some q → IsButClient h.part q
  looks_leave_part q there =
      let starts =
      is_still f u between e ty h (ordered_at tick) then_frame
      (λ k s at. look_given e f k cell_count s (quiet_tasks node_has_work u between.quiet k s at)) (λ s. parts_ordered e (tick ∷ []) s) in
      let still = still_leads f e had _ (look_loaded u) v es starts run in
      let is = same_some (had (home_of f e)) ((entity_flow e v).slot (home_of f e)).base.part (still.parts (home_of f e)) h.part h.here in
      let same : record h.part { proxy = is.0 } ≡ q = (let z = sym is.1 ∙ there in cc) in
      record {
        type = sym (ap (λ (y : PartView). y.ty) same);
        orders = sym (ap (λ (y : PartView). y.orders) same);
        version = sym (ap (λ (y : PartView). y.version) same);
        state = sym (ap (λ (y : PartView). y.state) same);
        client = client_stays f e (look_loaded u) v es then_frame starts.spared run (home_of f e) h.part
            (same_parts (home_of f e) ∙ h.here) (λ j n. same_parts j ∙ h.others j n) q there;
      }

  -- at whichever node: the part that was there executed no more
  pub looks_execute_none : (k : ℕ) (q : PartView) → ((entity_flow e v).slot k).base.part ≡ Some q →
      (p : PartView) × (had k ≡ Some p) × (q.done ≡ p.done)
  looks_execute_none k q there =
      let starts =
      is_still f u between e ty h (ordered_at tick) then_frame
      (λ k s at. look_given e f k cell_count s (quiet_tasks node_has_work u between.quiet k s at)) (λ s. parts_ordered e (tick ∷ []) s) in
      let still = still_leads f e had _ (look_loaded u) v es starts run in
      same_done (had k) ((entity_flow e v).slot k).base.part (still.parts k) q there

  -- what its client was shown meanwhile, of which nothing is about the part
  pub looks_show_part : (x : ProxyView) → h.part.proxy ≡ Some x →
      ShowsItsPart (here_at f (home_of f e)) h.part x ((entity_flow e v).slot (home_of f e)).base.part
  looks_show_part x client =
      let starts =
      is_still f u between e ty h (ordered_at tick) then_frame
      (λ k s at. look_given e f k cell_count s (quiet_tasks node_has_work u between.quiet k s at)) (λ s. parts_ordered e (tick ∷ []) s) in
      shows_its_part f e (look_loaded u) v es then_frame starts.spared run (home_of f e) h.part x
      (same_parts (home_of f e) ∙ h.here) client

-- ---- a load

-- whom the entries of a round give a client
pub among_joined : (e : ℕ) (xs : List Entry) → is_among e (filter_map joined xs) ≡ list_any (joins e) xs
among_joined e [] = refl
among_joined e (entry.Joined d ∷ xs) = ap (λ y. (d == e) || y) (among_joined e xs)
among_joined e (_ ∷ xs) = among_joined e xs

module _ (f : Frame) (w : World) (b : Batch) (between : IsBetweenRounds f w) (e home : ℕ) (p : PartView) where
  -- a part of the loaded world has a client where the batch gives one
  given_by : (c : Bool) (h : Here) (o : Option PartView) → joined_if c (with_proxy h) o ≡ Some p →
      (a : PartView) × (o ≡ Some a) × (is_some p.proxy ≡ (c || is_some a.proxy))
  given_by true h None is = absurd (let z = is in cc)
  given_by true h (Some a) is =
      let same : with_proxy h a ≡ p = cc in
      (a, refl, sym (ap (λ (y : PartView). is_some y.proxy) same))
  given_by false h None is = absurd (let z = is in cc)
  given_by false h (Some a) is =
      let same : a ≡ p = cc in
      (a, refl, sym (ap (λ (y : PartView). is_some y.proxy) same))

  begun_by : (o : Option PartView) (a : PartView) → option_map part_begins o ≡ Some a →
      (q : PartView) × (o ≡ Some q) × (is_some a.proxy ≡ is_some q.proxy)
  begun_by None a is = absurd (let z = is in cc)
  begun_by (Some q) a is =
      let same : part_begins q ≡ a = cc in
      (q, refl, sym (ap (λ (y : PartView). is_some y.proxy) same) ∙ begun q.proxy)
    where
      begun : (o : Option ProxyView) → is_some (option_map proxy_begins o) ≡ is_some o
      begun None = refl
      begun (Some x) = refl

  -- the part that the base node had once entities were created, and whether it has a client
  record HasJoined (o : Option NodeView) : Type 0 where
    node : NodeView
    is : o ≡ Some node
    made : PartView
    here : part_at e (peopled b node) ≡ Some made
    client : is_some p.proxy ≡ (is_among e b.clients || is_some made.proxy)

  joined_there : (o : Option NodeView) → slice_get w.nodes home ≡ o →
      (slot_at (has_of e) has_none (option_map (node_loaded b) o)).base.part ≡ Some p → HasJoined o
  joined_there None at here = absurd (let z = here in cc)
  joined_there (Some s) at here =
      let g = given_by (is_among e b.clients) (here_at f home) (part_at e (peopled b s))
      (sym (part_joined e f b home s (between.nodes.nodes home s at)) ∙ here) in
      record { node = s; is = refl; made = g.0; here = g.1; client = g.2 }

  module _ (here : ((entity_flow e (loaded w b)).slot home).base.part ≡ Some p) where
    there : HasJoined (slice_get w.nodes home)
    there = joined_there (slice_get w.nodes home) refl (sym (ap (λ h. h.base.part) (slot_is w b e home)) ∙ here)

    slot_was : (o : Option PartView) → ((entity_flow e w).slot home).base.part ≡ o → part_at e there.node ≡ o
    slot_was o at = sym (ap (λ x. (slot_at (has_of e) has_none x).base.part) there.is) ∙ at

    -- one that was there and one that the batch makes
    pub client_kept : AreOthers e b.creates → (q : PartView) → ((entity_flow e w).slot home).base.part ≡ Some q →
        is_some p.proxy ≡ (is_among e b.clients || is_some q.proxy)
    client_kept others q at =
        let a = begun_by (part_at e there.node) there.made (sym (part_peopled e b there.node others) ∙ there.here) in
        let same : a.0 ≡ q = (let z = sym a.1 ∙ slot_was (Some q) at in cc) in
        there.client ∙ ap (λ y. is_among e b.clients || y) (a.2 ∙ ap (λ (y : PartView). is_some y.proxy) same)

    pub client_made : ((entity_flow e w).slot home).base.part ≡ None → is_some p.proxy ≡ (is_among e b.clients || false)
    client_made none =
        there.client
        ∙ ap (λ y. is_among e b.clients || y) (ap is_some (bare_peopled e b there.node (slot_was None none) there.made there.here))
