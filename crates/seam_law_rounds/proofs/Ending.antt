-- A calm entity that is still there at the end is settled, and no call to it waits.
use Rattle.seam_law_rounds.proofs.Prelude.{◌≡◌, ℕ, Bool, List, [], ◌∷◌, ◌++◌, Option, None, Some, refl, sym, ap, ◌∙◌, subst, inl, inr}
use Rattle.seam_law_rounds.proofs.Prelude.{AllByRecursion, cases_eq, item_at, Order, order_or, RealView, WitnessView, Msg, GhostDrop, Tick}
use Rattle.seam_law_rounds.proofs.Prelude.{Reap, Update, World, letters_of, more_letter, In, Nobody, packed, bears, of_number, Frame}
use Rattle.seam_law_rounds.proofs.Prelude.{entity_flow, real_in, real_of, IsOne, cell_order_from, real_desk, cell_mail, real_at, IsSettled}
use Rattle.seam_law_rounds.proofs.Prelude.{HasNoCalls}
use Rattle.std.specs.FinMap as table
use Rattle.seam_law_flow.specs.Prelude.{held_in}
use Rattle.seam_call.specs.declared.order.Order.TheVariants as order
use Rattle.seam_law_rounds.proofs.Calm.{IsSame, IsCalmOrder, IsCalmTo, IsCalm}

module _ (f : Frame) (e home : ℕ) (r : RealView) (u : World) (settled : IsSettled f e home r u) (told : Bool) (v : World)
    (calm : IsCalm f e home r u told v) where
  -- ---- its real

  no_hands : (k : ℕ) (ms : List Msg) → AllByRecursion (IsCalmTo told home r k) ms → letters_of real_of ms ≡ []
  no_hands k [] h = refl
  no_hands k (GhostDrop x n ∷ ms) h = no_hands k ms h.1
  no_hands k (Tick ∷ ms) h = no_hands k ms h.1
  no_hands k (Reap x ∷ ms) h = no_hands k ms h.1
  no_hands k (Update m ∷ ms) h = no_hands k ms h.1
  no_hands k (_ ∷ ms) h = absurd h.0

  elsewhere_by : (j : ℕ) (o : Option RealView) → real_at e v j ≡ o → (j ≡ home → ⊥) → o ≡ None
  elsewhere_by j None at n = refl
  elsewhere_by j (Some q) at n = absurd (n ((calm.nodes j).real q at).0)

  elsewhere : (j : ℕ) → (j ≡ home → ⊥) → real_at e v j ≡ None
  elsewhere j n = elsewhere_by j (real_at e v j) refl n

  pub calm_one : (q : RealView) → real_at e v home ≡ Some q → IsOne e v (In home) q
  calm_one q at = record { here = at; others = elsewhere; mail = λ x y. no_hands y ((entity_flow e v).mail x y) (calm.mail x y) }

  pub calm_none : real_at e v home ≡ None → Nobody real_in real_of (entity_flow e v)
  calm_none at = record {
    slots = λ j. elim (cases_eq j home) [
      | inl is ↦ ap (λ i. real_at e v i) is ∙ at
      | inr n ↦ elsewhere j n
    ];
    mail = λ x y. no_hands y ((entity_flow e v).mail x y) (calm.mail x y);
  }

  seen_settled : (x : Option WitnessView) → real_at e v home ≡ Some (record r { witness = x }) →
      IsSettled f e home (record r { witness = x }) v
  seen_settled x at = record {
    here = at;
    others = elsewhere;
    type = settled.type;
    fits =
        let q = settled.fits in
        record {
          entity = q.entity;
          type = q.type;
          values = q.values;
          inside = q.inside;
          held = q.held;
          home = q.home;
          haunts = q.haunts;
        };
    public = settled.public;
    routes = λ k high low. (calm.nodes k).route ∙ settled.routes k high low;
    none_held = settled.none_held;
    from_one = settled.from_one;
  }

  pub still_settled : (k : ℕ) (q : RealView) → real_at e v k ≡ Some q → IsSettled f e k q v
  still_settled k q at =
      let is = (calm.nodes k).real q at in
      let there = ap (λ j. real_at e v j) (sym is.0) ∙ at in
      subst (λ j. IsSettled f e j q v) (sym is.0)
      (subst (λ p. IsSettled f e home p v) is.1.1 (seen_settled is.1.0 (there ∙ ap Some (sym is.1.1))))

  -- ---- its calls

  no_orders : (s : ℕ) (os : List Order) → AllByRecursion (IsCalmOrder e) os → letters_of (cell_order_from s) os ≡ []
  no_orders s [] h = refl
  no_orders s (order.Tick ∷ os) h = no_orders s os h.1
  no_orders s (order.Reap x ∷ os) h = no_orders s os h.1
  no_orders s (_ ∷ os) h = absurd h.0

  no_letters : (s k : ℕ) (ms : List Msg) → AllByRecursion (IsCalmTo told home r k) ms → letters_of (cell_mail s) ms ≡ []
  no_letters s k [] h = refl
  no_letters s k (GhostDrop x n ∷ ms) h = no_letters s k ms h.1
  no_letters s k (Tick ∷ ms) h = no_letters s k ms h.1
  no_letters s k (Reap x ∷ ms) h = no_letters s k ms h.1
  no_letters s k (Update m ∷ ms) h = no_letters s k ms h.1
  no_letters s k (_ ∷ ms) h = absurd h.0

  held_by : (s n : ℕ) (o : Option RealView) → ((q : RealView) → o ≡ Some q → IsSame r q) → held_in n (real_desk s o) ≡ []
  held_by s n None same = refl
  held_by s n (Some q) same =
      let is = same q refl in
      let none = ap (λ (y : RealView). (order_or (table.get y.orders s)).held) (sym is.1) ∙ settled.none_held s in
      ap (λ l. more_letter (item_at n l) []) none

  pub calls_none : HasNoCalls e v
  calls_none s n = record {
    slots = λ k.
        let h = calm.nodes k in
        ap packed (ap (λ l. letters_of (of_number n) l ++ held_in n (real_desk s (real_at e v k)))
        (no_orders s ((entity_flow e v).slot k).base.orders h.orders)
        ∙ held_by s n (real_at e v k) (λ q at. (h.real q at).1));
    mail = λ x y. ap (letters_of (bears n)) (no_letters s y ((entity_flow e v).mail x y) (calm.mail x y));
  }
