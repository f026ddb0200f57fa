-- Held calls that a cover speaks of.
use Rattle.std.proofs.Common.{◌≡◌, ◌≤◌, ◌<◌, ◌+◌, ℕ, zero, suc, Bool, true, false, ◌&&◌, ◌||◌, eqb, ltb, leb, List, [], ◌∷◌}
use Rattle.std.proofs.Common.{◌++◌, length, Option, None, Some, refl, sym, ap, ◌∙◌, subst, arith, box_value, Result, Ok, Err, IfOk, OnOk}
use Rattle.std.proofs.Common.{OnErr, slice_get}
use Rattle.std.specs.List.{list_all, list_any, AllWithin}
use Rattle.std.specs.Ordering.{nat_cmp, match_ordering}
use Rattle.std.specs.declared.cmp.Ordering.{Ordering}
use Rattle.std.specs.declared.cmp.Ordering.TheVariants.{Less, Equal, Greater}
use Rattle.std.specs.declared.boxed.Box.{Box}
use Rattle.std.specs.FinMap as table
use Rattle.std.proofs.lemmas.Bool.Decides.{nat_tests}
use Rattle.seam_value.specs.declared.values.Value.{Value}
use Rattle.seam_geo.specs.declared.pos.Pos.{Pos}
use Rattle.seam_defs.specs.declared.flags.Part.TheVariants as part
use Rattle.seam_defs.specs.declared.types.Method.{Method}
use Rattle.seam_defs.specs.declared.types.TypeDef.{TypeDef}
use Rattle.seam_defs.specs.declared.states.Deed.{Deed}
use Rattle.seam_defs.specs.declared.states.Deed.TheVariants as deed
use Rattle.seam_defs.specs.Types.{method_of}
use Rattle.seam_defs.specs.Tests.{fit_values, same_part}
use Rattle.seam_order.specs.Held.{OrderView, with_item}
use Rattle.seam_order.specs.Offers.{offer_answer, after_offer, next_item, after_taking}
use Rattle.seam_order.specs.declared.Offer.{Offer}
use Rattle.seam_order.specs.declared.Offer.TheVariants.{Next, Held, Stale}
use Rattle.seam_call.specs.declared.call.Call.{Call}
use Rattle.seam_call.specs.Senders.{rank_of}
use Rattle.seam_call.specs.Calls.{is_for}
use Rattle.seam_entity.specs.Orders.{Orders, order_or, order_of, view_of}
use Rattle.seam_entity.specs.ReadyCalls.{item_passes, order_passes, all_held, order_is_ready, ready_order, after_order, after_ready}
use Rattle.seam_entity.specs.SenderPlaces.{Entries, AreOrdered}
use Rattle.seam_entity.specs.Fitting.{is_inside, can_do}
use Rattle.seam_entity.specs.Executing.{fits_cell_part}
use Rattle.seam_entity.specs.Here.{Here, type_at}
use Rattle.seam_entity.specs.Covers.{CoverView, takes, covers_deed, covers, IsCellMethod, is_covered, AreCovered, is_not_held}
use Rattle.seam_entity.proofs.HeldLemmas.{both, all_two, picked_passes, insert_passes, same_value, order_at, held_offered, held_taken}
use Rattle.seam_entity.proofs.ReadyLemmas.{entry_passes, all_pass}

-- ---- a weaker test

module _ {X : Type 0} (p q : X → Bool) (weaker : (x : X) → p x ≡ true → q x ≡ true) where
  pub all_weaker : (xs : List X) → list_all p xs ≡ true → list_all q xs ≡ true
  all_weaker [] h = refl
  all_weaker (x ∷ xs) h =
      let two = both (p x) (list_all p xs) h in
      all_two (q x) (list_all q xs) (weaker x two.0) (all_weaker xs two.1)

-- calls that pass a test pass a weaker one
pub held_weaker : (p q : Call → Bool) → ((c : Call) → p c ≡ true → q c ≡ true) → (os : Orders) → all_held p os ≡ true →
    all_held q os ≡ true
held_weaker p q weaker os h =
    all_weaker (order_passes p) (order_passes q)
    (λ e. all_weaker (item_passes p) (item_passes q) (λ i. weaker i.1) e.1.held) (table.entries os) h

-- ---- methods

or_step : (a b c : Bool) → (a || b) ≡ true → (b ≡ true → c ≡ true) → (a || c) ≡ true
or_step true b c h more = refl
or_step false b c h more = more h

-- what one of the methods takes, one of more takes
pub any_more : {X : Type 0} (p : X → Bool) (xs ys : List X) → list_any p xs ≡ true → list_any p (xs ++ ys) ≡ true
any_more p [] ys h = cc
any_more p (x ∷ xs) ys h = or_step (p x) (list_any p xs) (list_any p (xs ++ ys)) h (any_more p xs ys)

module _ (t : TypeDef) (size m : ℕ) (args : List Value) where
  abbrev Can : Type 0
  Can = can_do size t part.Cell (deed.Method m args) ≡ true

  is_number : (a b : ℕ) → eqb a b ≡ true → a ≡ b
  is_number a b e = grind (arith, nat_tests)

  is_below : (a b : ℕ) → a < b → ltb a b ≡ true
  is_below a b lt = grind (arith, nat_tests)

  can_call : (e : ℕ × Method) → IsCellMethod t e → takes m args e ≡ true → Can
  can_call e is h =
      let two = both (eqb e.0 m) (fit_values e.1.args args) h in
      let at = is_number e.0 m two.0 in
      let cell : same_part (method_of t m).part part.Cell ≡ true =
      subst (λ n. same_part (method_of t n).part part.Cell ≡ true) at (ap (λ p. same_part p part.Cell) is.part) in
      let fit : fit_values (method_of t m).args args ≡ true =
      subst (λ n. fit_values (method_of t n).args args ≡ true) at (ap (λ a. fit_values a args) is.args ∙ two.1) in
      let low : ltb m (length t.methods) ≡ true = is_below m (length t.methods) (subst (λ n. n < length t.methods) at is.number) in
      all_two _ _ cell (all_two _ _ (all_two _ _ low fit) refl)

  can_step : (e : ℕ × Method) (es : List (ℕ × Method)) (b : Bool) → takes m args e ≡ b → IsCellMethod t e →
      (b || list_any (takes m args) es) ≡ true → (list_any (takes m args) es ≡ true → Can) → Can
  can_step e es true is cell h more = can_call e cell is
  can_step e es false is cell h more = more h

  -- a type that has each of the methods can do what calls one of them
  pub can_call_any : (es : List (ℕ × Method)) → AllWithin (IsCellMethod t) es 0 (length es) → list_any (takes m args) es ≡ true → Can
  can_call_any [] all h = cc
  can_call_any (e ∷ es) all h =
      can_step e es (takes m args e) refl (all zero e (omega arith) (omega arith)) h
      (can_call_any es (λ k d le lt. all (suc k) d (omega arith) (omega (arith, lt))))

-- ---- what is covered fits

inside_by : (size a b : ℕ) → leb a b ≡ true → ltb b size ≡ true → ltb a size ≡ true
inside_by size a b le lt = grind (arith, nat_tests)

pub inside_farther : (size : ℕ) (p far : Pos) → (leb p.x far.x && leb p.z far.z) ≡ true → is_inside size far ≡ true →
    is_inside size p ≡ true
inside_farther size p far le inside =
    let low = both (leb p.x far.x) (leb p.z far.z) le in
    let high = both (ltb far.x size) (ltb far.z size) inside in
    all_two _ _ (inside_by size p.x far.x low.0 high.0) (inside_by size p.z far.z low.1 high.1)

module _ (h : Here) (ty : ℕ) (k : CoverView) (inside : is_inside h.settings.size k.far ≡ true)
    (can : (m : ℕ) (args : List Value) → list_any (takes m args) k.methods ≡ true →
    can_do h.settings.size (type_at h ty) part.Cell (deed.Method m args) ≡ true) where
  deed_fits : (d : Deed) → covers_deed k d ≡ true → can_do h.settings.size (type_at h ty) part.Cell d ≡ true
  deed_fits (deed.Move p) c = inside_farther h.settings.size p k.far c inside
  deed_fits (deed.Method m args) c = can m args c

  -- each call that is covered fits
  pub covered_fits : (e : ℕ) → k.entity ≡ e → (c : Call) → covers k c ≡ true → fits_cell_part h e ty c ≡ true
  covered_fits e same c is =
      let two = both (is_for part.Cell k.entity c) (covers_deed k c.deed) is in
      all_two _ _ (ap (λ n. is_for part.Cell n c) (sym same) ∙ two.0) (deed_fits c.deed two.1)

-- ---- a wider cover

at_most_by : (a b c : ℕ) → leb a b ≡ true → b ≤ c → leb a c ≡ true
at_most_by a b c e le = grind (arith, nat_tests)

module _ (k n : CoverView) (same : n.entity ≡ k.entity) (x : k.far.x ≤ n.far.x) (z : k.far.z ≤ n.far.z)
    (more : (m : ℕ) (args : List Value) → list_any (takes m args) k.methods ≡ true → list_any (takes m args) n.methods ≡ true) where
  wider_deed : (d : Deed) → covers_deed k d ≡ true → covers_deed n d ≡ true
  wider_deed (deed.Move p) c =
      let two = both (leb p.x k.far.x) (leb p.z k.far.z) c in
      all_two _ _ (at_most_by p.x k.far.x n.far.x two.0 x) (at_most_by p.z k.far.z n.far.z two.1 z)
  wider_deed (deed.Method m args) c = more m args c

  pub wider : (c : Call) → covers k c ≡ true → covers n c ≡ true
  wider c is =
      let two = both (is_for part.Cell k.entity c) (covers_deed k c.deed) is in
      all_two _ _ (ap (λ e. is_for part.Cell e c) same ∙ two.0) (wider_deed c.deed two.1)

-- ---- what becomes of the orders

-- nothing is held
pub none_held : (test : Call → Bool) (ps : Entries) → AllWithin (λ p. p.1.held ≡ []) ps 0 (length ps) →
    list_all (entry_passes test) ps ≡ true
none_held test [] h = refl
none_held test (p ∷ ps) h =
    all_two (entry_passes test p) (list_all (entry_passes test) ps)
    (ap (list_all (item_passes test)) (h zero p (omega arith) (omega arith)))
    (none_held test ps (λ k d le lt. h (suc k) d (omega arith) (omega (arith, lt))))

unheld_by : (o : OrderView Call) (n : ℕ) (c : Call) (r : Ordering) →
    is_not_held {E = Call} (Ok (match_ordering r (Stale c) (Next c) Held)) ≡ true →
    o.held ≡ (match_ordering r o (record o { next = o.next + 1 }) (record o { held = with_item n c o.held })).held
unheld_by o n c Less h = refl
unheld_by o n c Equal h = refl
unheld_by o n c Greater h = cc

-- an offer that is not held leaves what is held
offered_unheld : (test : Call → Bool) (os : Orders) (k : ℕ) (o : OrderView Call) (n : ℕ) (c : Call) → all_held test os ≡ true →
    order_or (table.get os k) ≡ o → is_not_held {E = Call} (Ok (offer_answer o.next n c)) ≡ true →
    all_held test (table.insert os k (after_offer o n c)) ≡ true
offered_unheld test os k o n c h at unheld =
    insert_passes (order_passes test) (same_value test) os k (after_offer o n c) h
    (subst (λ items. list_all (item_passes test) items ≡ true) (unheld_by o n c (nat_cmp n o.next) unheld)
    (subst (λ x. list_all (item_passes test) x.held ≡ true) at (order_at test os k (table.get os k) h refl)))

module _ (E : Type 0) (os ns : Orders) (c : Call) (a : Offer Call) (after : ns ≡
    table.insert os (rank_of c.sender) (after_offer (order_of os c.sender) c.number c))
    (answer : a ≡ offer_answer (order_of os c.sender).next c.number c) where
  offered_by : (test : Call → Bool) (b : Bool) → all_held test os ≡ true → b ≡ test c → (b || is_not_held {E = E} (Ok a)) ≡ true →
      all_held test ns ≡ true
  offered_by test true h is kept =
      ap (all_held test) after ∙ held_offered test os (rank_of c.sender) (order_of os c.sender) c.number c h refl (sym is)
  offered_by test false h is kept =
      ap (all_held test) after
      ∙ offered_unheld test os (rank_of c.sender) (order_of os c.sender) c.number c h refl
      (sym (ap (λ x. is_not_held {E = E} (Ok x)) answer) ∙ kept)

-- what is covered still is after an offer of a call that is covered, or that is not held
pub offered_covered : {E Z : Type 0} (cover : Option (Box CoverView Z)) (os ns : Orders) (c : Call) (a : Result (Offer Call) E) (b : Bool) →
    AreCovered cover os → b ≡ is_covered cover c → (b || is_not_held a) ≡ true →
    IfOk a (λ x. x ≡ offer_answer (order_of os c.sender).next c.number c) →
    OnOk a (ns ≡ table.insert os (rank_of c.sender) (after_offer (order_of os c.sender) c.number c)) → OnErr a (ns ≡ os) →
    AreCovered cover ns
offered_covered None os ns c a b h is kept answer after err = tt
offered_covered {E} (Some k) os ns c (Ok a) b h is kept answer after err =
    offered_by E os ns c a after answer (covers (box_value k)) b h is kept
offered_covered (Some k) os ns c (Err e) b h is kept answer after err = ap (all_held (covers (box_value k))) err ∙ h

taken_by : (test : Call → Bool) (os : Orders) (o : Option (ℕ × OrderView Call)) → ready_order os ≡ o → all_held test os ≡ true →
    all_held test (after_order os o) ≡ true
taken_by test os None e h = h
taken_by test os (Some o) e h =
    held_taken test os o.0 o.1 h (picked_passes (order_passes test) order_is_ready o (table.entries os) h e)

-- and after a ready call was taken
pub taken_covered : {Z : Type 0} (cover : Option (Box CoverView Z)) (os : Orders) → AreCovered cover os → AreCovered cover (after_ready os)
taken_covered None os h = tt
taken_covered (Some k) os h = taken_by (covers (box_value k)) os (ready_order os) refl h

-- what holds nothing has no first item
pub nothing_held : {X : Type 0} (xs : List X) → None ≡ slice_get xs 0 → xs ≡ []
nothing_held [] h = refl
nothing_held (x ∷ xs) h = cc

-- where nothing is held, each cover will do
pub any_covers : {Z : Type 0} (cover : Option (Box CoverView Z)) (os : Orders) → ((test : Call → Bool) → all_held test os ≡ true) →
    AreCovered cover os
any_covers None os h = tt
any_covers (Some b) os h = h (covers (box_value b))

-- orders stay covered by what covers more
pub covered_more : {Z : Type 0} (b d : Box CoverView Z) (os : Orders) →
    ((c : Call) → covers (box_value b) c ≡ true → covers (box_value d) c ≡ true) → AreCovered (Some b) os → AreCovered (Some d) os
covered_more b d os more h = held_weaker (covers (box_value b)) (covers (box_value d)) more os h
