-- A round begins with calls in turn; what comes to the part is neither late nor held already; and where nothing moves any more, all calls
-- were executed.
use Rattle.std.proofs.Common.{◌≡◌, ℕ, ◌+◌, ◌<◌, ◌≤◌, Bool, true, false, cond, eqb, List, [], ◌∷◌, ◌++◌, length, Option, None, Some, refl}
use Rattle.std.proofs.Common.{sym, ap, ◌∙◌, subst, arith, inl, inr}
use Rattle.std.specs.List.{AllByRecursion}
use Rattle.std.proofs.lemmas.Bool.{cases_eq, eq-eqb}
use Rattle.std.proofs.lemmas.List.{append-nil, length-append}
use Rattle.seam_law_flow.specs.Prelude.{Flow, letters_of, more_letter, TokenPlace, In, On, SoleOn, Sole, number_from, of_number, Desk, Post}
use Rattle.seam_law_flow.specs.Prelude.{Mail, Item, held_in, kept_at, packed, keeps, bears, desk_of, parcel_of, one, WaitsOnce, InTurn}
use Rattle.seam_law_flow.specs.Prelude.{AreInTurn, IsStill, IsLoaded}
use Rattle.seam_law_flow.proofs.TokenLemmas.{one_more, sole_first, sole_here}
use Rattle.seam_order.specs.Held.{item_at}
use Rattle.seam_law_flow.specs.Lives.{Somewhere}
use Rattle.seam_law_flow.proofs.Numbers.{item_first, item_bounds}
use Rattle.seam_law_flow.proofs.Lasting.{here_is}
use Rattle.seam_law_flow.proofs.Turning.{packed_none, both_nil, packed_last, last_alone, one_is}

module _ {U : Type 0} (first : ℕ) (batch : List U) (w : Flow (Post U) (Mail U)) where
  module _ (home k : ℕ) (l : IsLoaded first batch w home k) where
    abbrev d : Desk U
    d = record { order = record { next = first; held = [] }; done = [] }

    held_none : (n j : ℕ) → held_in n (w.slot j).desk ≡ []
    held_none n j = elim (cases_eq j k) [
      | inl e ↦ ap (λ x. held_in n (w.slot x).desk) e ∙ ap (held_in n) l.here
      | inr m ↦ ap (held_in n) (l.others j m)
    ]

    kept_there : (n : ℕ) → kept_at n (w.slot home) ≡ more_letter (item_at n (number_from first batch)) []
    kept_there n =
        ap (λ x. letters_of (of_number n) (w.slot home).stored ++ x) (held_none n home)
        ∙ (append-nil (letters_of (of_number n) (w.slot home).stored) ∙ l.store n)

    kept_elsewhere : (n j : ℕ) → (j ≡ home → ⊥) → kept_at n (w.slot j) ≡ []
    kept_elsewhere n j m = ap (λ x. letters_of (of_number n) x ++ held_in n (w.slot j).desk) (l.stores j m) ∙ held_none n j

    waits_by : (n : ℕ) (o : Option U) → item_at n (number_from first batch) ≡ o → WaitsOnce w n o
    waits_by n None e = record {
      slots = λ j. elim (cases_eq j home) [
        | inl h ↦ ap (λ x. keeps n (w.slot x)) h ∙ ap packed (kept_there n ∙ ap (λ x. more_letter x []) e)
        | inr m ↦ ap packed (kept_elsewhere n j m)
      ];
      mail = λ x y. ap (letters_of (bears n)) (l.mail x y);
    }
    waits_by n (Some u) e = record {
      place = In home;
      sole = record {
        here = ap packed (kept_there n ∙ ap (λ x. more_letter x []) e);
        others = λ j m. ap packed (kept_elsewhere n j m);
        mail = λ x y. ap (letters_of (bears n)) (l.mail x y);
      };
    }

    -- the premises can be met
    pub loaded_in_turn : AreInTurn first batch w
    loaded_in_turn =
        let few = l.small in
        let low = l.from_one in
        record {
          place = In k;
          desk = d;
          in_turn = record {
            sole = record { here = l.here; others = l.others; mail = λ x y. ap (letters_of parcel_of) (l.mail x y) };
            rest = batch;
            parts = refl;
            next = omega arith;
            small = few;
            in_order = record { from_one = low; small = omega (arith, few); rising = tt };
            life = λ n. waits_by n (item_at n (number_from first batch)) refl;
          };
        }

  -- the call of number n that is the first in a link to a node
  module _ (place : TokenPlace) (d : Desk U) (b : InTurn first batch w place d) (a k n : ℕ) (u : U) (rest : List (Mail U))
      (at : w.mail a k ≡ Item n u ∷ rest) where
    born : bears n (Item n u) ≡ Some (u ∷ [])
    born = ap (λ t. packed (more_letter t [])) (ap (λ t. cond t (Some u) None) (eq-eqb n n refl))

    met : (o : Option U) → WaitsOnce w n o → (o ≡ Some u) × (kept_at n (w.slot k) ≡ [])
    met None h =
        let no = h.mail a k in
        let yes = ap (letters_of (bears n)) at ∙ one_more (keeps n) (bears n) (Item n u) rest (Some (u ∷ [])) born in
        cc
    met (Some x) h =
        let c = sole_first (keeps n) (bears n) w h.place (x ∷ []) (u ∷ []) a k (Item n u) rest h.sole born at in
        let f = c.1 in
        let same : x ≡ u = cc in
        let old : SoleOn (keeps n) (bears n) w a k (x ∷ []) = subst (λ z. Sole (keeps n) (bears n) w z (x ∷ [])) c.0 h.sole in
        (ap Some same, packed_none (kept_at n (w.slot k)) (old.slots k))

    no_letter : (o : Option U) → more_letter o [] ≡ [] → o ≡ None
    no_letter None e = refl
    no_letter (Some x) e = cc

    -- it is the batch's call
    pub is_met : (item_at n (number_from d.order.next b.rest) ≡ Some u) × (kept_at n (w.slot k) ≡ [])
    is_met = met (item_at n (number_from d.order.next b.rest)) (b.life n)

    -- which is not yet executed: never late
    pub never_late : (d.order.next ≤ n) × (n < first + length batch)
    never_late =
        let h = item_bounds n d.order.next u b.rest is_met.0 in
        let low = h.0 in
        let high = h.1 in
        let i = b.next in
        let p = ap length b.parts in
        let m = length-append d.done b.rest in
        (low, omega (arith, high, i, p, m))

    -- and never held already
    pub never_held : (x : Desk U) → (w.slot k).desk ≡ Some x → item_at n x.order.held ≡ None
    never_held x e =
        let none : held_in n (w.slot k).desk ≡ [] =
        (both_nil (letters_of (of_number n) (w.slot k).stored) (held_in n (w.slot k).desk) is_met.1).1 in
        no_letter (item_at n x.order.held) (sym (ap (held_in n) e) ∙ none)

  -- the first call of a node's orders is the batch's, and the node's part does not hold it
  module _ (place : TokenPlace) (d : Desk U) (b : InTurn first batch w place d) (k n : ℕ) (u : U) (more : List (ℕ × U))
      (at : (w.slot k).stored ≡ (n, u) ∷ more) where
    abbrev others : List U
    others = letters_of (of_number n) more ++ held_in n (w.slot k).desk

    kept_first : kept_at n (w.slot k) ≡ u ∷ others
    kept_first =
        ap (λ l. letters_of (of_number n) l ++ held_in n (w.slot k).desk) at
        ∙ ap (λ t. more_letter t (letters_of (of_number n) more) ++ held_in n (w.slot k).desk)
        (ap (λ t. cond t (Some u) None) (eq-eqb n n refl))

    alone : (y : U) × (item_at n (number_from d.order.next b.rest) ≡ Some y) × (u ∷ others ≡ y ∷ [])
    alone =
        one_is (item_at n (number_from d.order.next b.rest)) (u ∷ others)
        (here_is (keeps n) (bears n) w k (one (item_at n (number_from d.order.next b.rest))) (u ∷ others) (b.life n) (ap packed kept_first))

    pub stored_is_due : item_at n (number_from d.order.next b.rest) ≡ Some u
    stored_is_due =
        let r = alone in
        let same = r.2 in
        let one_is_it : r.0 ≡ u = cc in
        r.1 ∙ ap Some one_is_it

    pub stored_is_free : (x : Desk U) → (w.slot k).desk ≡ Some x → item_at n x.order.held ≡ None
    stored_is_free x e =
        let r = alone in
        let same = r.2 in
        let none : others ≡ [] = cc in
        let free = (both_nil (letters_of (of_number n) more) (held_in n (w.slot k).desk) none).1 in
        none_of (item_at n x.order.held) (sym (ap (held_in n) e) ∙ free)
      where
        none_of : (o : Option U) → more_letter o [] ≡ [] → o ≡ None
        none_of None f = refl
        none_of (Some y) f = cc

  -- a call that the part holds is the batch's
  pub held_is_due : (place : TokenPlace) (d : Desk U) (b : InTurn first batch w place d) (k n : ℕ) (u : U) (x : Desk U) →
      (w.slot k).desk ≡ Some x → item_at n x.order.held ≡ Some u → item_at n (number_from d.order.next b.rest) ≡ Some u
  held_is_due place d b k n u x e at =
      let o = item_at n (number_from d.order.next b.rest) in
      let left = letters_of (of_number n) (w.slot k).stored in
      let kept : kept_at n (w.slot k) ≡ left ++ u ∷ [] = ap (λ y. left ++ held_in n y) e ∙ ap (λ y. left ++ more_letter y []) at in
      let has = ap packed kept ∙ packed_last left u in
      let r = one_is o (left ++ u ∷ []) (here_is (keeps n) (bears n) w k (one o) (left ++ u ∷ []) (b.life n) has) in
      let none = last_alone left u r.0 r.2 in
      let f : u ∷ [] ≡ r.0 ∷ [] = sym (ap (λ l. l ++ u ∷ []) none) ∙ r.2 in
      let same : u ≡ r.0 = cc in
      r.1 ∙ ap Some (sym same)

-- ---- what is true of each call of a batch

module _ {U : Type 0} (P : U → Type 0) where
  item_by : (n m : ℕ) (u x : U) (us : List U) (t : Bool) → P x → (item_at n (number_from (m + 1) us) ≡ Some u → P u) →
      cond t (Some x) (item_at n (number_from (m + 1) us)) ≡ Some u → P u
  item_by n m u x us true p h e = let same : x ≡ u = cc in subst P same p
  item_by n m u x us false p h e = h e

  of_all : (n m : ℕ) (u : U) (us : List U) → AllByRecursion P us → item_at n (number_from m us) ≡ Some u → P u
  of_all n m u [] all e = cc
  of_all n m u (x ∷ us) all e = item_by n m u x us (eqb m n) all.0 (of_all n (m + 1) u us all.1) e

  later_all : (xs ys : List U) → AllByRecursion P (xs ++ ys) → AllByRecursion P ys
  later_all [] ys all = all
  later_all (x ∷ xs) ys all = later_all xs ys all.1

  -- is true of each that waits
  pub due_is : (first : ℕ) (batch : List U) (w : Flow (Post U) (Mail U)) (place : TokenPlace) (d : Desk U)
      (b : InTurn first batch w place d) →
      AllByRecursion P batch → (n : ℕ) (u : U) → item_at n (number_from d.order.next b.rest) ≡ Some u → P u
  due_is first batch w place d b all n u e =
      of_all n d.order.next u b.rest (later_all d.done b.rest (subst (AllByRecursion P) b.parts all)) e

module _ {U : Type 0} (first : ℕ) (batch : List U) where
  -- ---- where nothing moves any more
  module _ (w : Flow (Post U) (Mail U)) (still : IsStill w) (place : TokenPlace) (d : Desk U) (b : InTurn first batch w place d) where
    kept_none : (n j : ℕ) → n ≡ d.order.next → kept_at n (w.slot j) ≡ []
    kept_none n j e = ap (λ l. letters_of (of_number n) l ++ held_in n (w.slot j).desk) (still.stores j) ∙ desk_none ((w.slot j).desk) refl
      where
        desk_none : (o : Option (Desk U)) → (w.slot j).desk ≡ o → held_in n o ≡ []
        desk_none None f = refl
        desk_none (Some x) f =
            let same = (sole_here desk_of parcel_of w place d x j b.sole f).1 in
            ap (λ y. more_letter y []) (ap (λ k. item_at k x.order.held) (e ∙ ap (λ y. y.order.next) (sym same)) ∙ still.ready j x f)

    nowhere : (u : U) (p : TokenPlace) → Sole (keeps d.order.next) (bears d.order.next) w p (u ∷ []) → ⊥
    nowhere u (In k) h = let here = sym h.here ∙ ap packed (kept_none d.order.next k refl) in cc
    nowhere u (On x y) h = let here = sym h.here ∙ ap (letters_of (bears d.order.next)) (still.mail x y) in cc

    none_left : (rest : List U) → WaitsOnce w d.order.next (item_at d.order.next (number_from d.order.next rest)) → rest ≡ []
    none_left [] h = refl
    none_left (u ∷ us) h =
        let s : Somewhere (keeps d.order.next) (bears d.order.next) w (u ∷ []) =
        subst (WaitsOnce w d.order.next) (item_first d.order.next u us) h in
        absurd (nowhere u s.place s.sole)

    pub all_done : d.done ≡ batch
    all_done =
        let none = none_left b.rest (b.life d.order.next) in
        sym (b.parts ∙ (ap (λ l. d.done ++ l) none ∙ append-nil d.done))
