-- Each call once: what each move keeps of the calls that wait and of those that were executed.
use Rattle.std.proofs.Common.{◌≡◌, ℕ, ◌+◌, ◌<◌, ◌≤◌, ◌^◌, cond, eqb, List, [], ◌∷◌, ◌++◌, length, Option, None, Some, refl, sym, ap, ◌∙◌}
use Rattle.std.proofs.Common.{subst, arith, inl, inr}
use Rattle.std.proofs.lemmas.Bool.{cases_eq, eq-eqb, ne_eqb}
use Rattle.std.proofs.lemmas.List.{append-nil, append_assoc, length-append}
use Rattle.seam_law_flow.specs.Prelude.{Flow, Goes, comes, letters_of, more_letter, carried_in, TokenPlace, In, On, Sole, Nobody, SendsNone}
use Rattle.seam_law_flow.specs.Prelude.{SendsOne, turns, number_from, of_number, Desk, Post, Mail, Item, Parcel, held_in, kept_at, packed}
use Rattle.seam_law_flow.specs.Prelude.{keeps, bears, desk_of, parcel_of, one, WaitsOnce, InTurn, Quiet, Only, offered, taken, Passes}
use Rattle.seam_law_flow.specs.Prelude.{rests, sends, offers, takes, place_then, desk_then}
use Rattle.seam_order.specs.Held.{item_at, IsInOrder}
use Rattle.seam_order.specs.Offers.{after_offer, after_item, after_taking, next_item}
use Rattle.seam_order.proofs.OrderLaws.{order_after_offer, order_after_taking, held_early, held_taken}
use Rattle.seam_law_flow.specs.Desks.{borne}
use Rattle.seam_law_flow.specs.CallMoves.{relays, serves, lands, leaves}
use Rattle.seam_law_flow.proofs.TokenLemmas.{sole_here, sole_still, sole_goes, sole_landed, sole_left, same_mail, same_held}
use Rattle.seam_law_flow.proofs.Lasting.{here_is, come_is, lasts_still, lasts_lands, lasts_leaves, lasts_relayed, lasts_met, lasts_ends}
use Rattle.seam_law_flow.proofs.Delivering.{offer_next, offer_early, not_some, first_rest}
use Rattle.seam_law_flow.proofs.Numbers.{item_early, item_other, item_bounds}

module _ {U : Type 0} where
  pub packed_none : (xs : List U) → packed xs ≡ None → xs ≡ []
  packed_none [] e = refl
  packed_none (x ∷ xs) e = cc

  pub both_nil : (xs ys : List U) → xs ++ ys ≡ [] → (xs ≡ []) × (ys ≡ [])
  both_nil [] ys e = (refl, e)
  both_nil (x ∷ xs) ys e = cc

  pub packed_last : (xs : List U) (x : U) → packed (xs ++ x ∷ []) ≡ Some (xs ++ x ∷ [])
  packed_last [] x = refl
  packed_last (y ∷ ys) x = refl

  pub last_alone : (xs : List U) (x y : U) → xs ++ x ∷ [] ≡ y ∷ [] → xs ≡ []
  last_alone [] x y e = refl
  last_alone (z ∷ []) x y e = let f : x ∷ [] ≡ [] = cc in cc
  last_alone (z ∷ a ∷ zs) x y e = let f : a ∷ (zs ++ x ∷ []) ≡ [] = cc in cc

  pub one_is : (o : Option U) (xs : List U) → one o ≡ Some xs → (u : U) × (o ≡ Some u) × (xs ≡ u ∷ [])
  one_is None xs e = cc
  one_is (Some u) xs e = (u, refl, let f : u ∷ [] ≡ xs = cc in sym f)

  number_same : (n : ℕ) (u : U) (m : ℕ) → n ≡ m → of_number m (n, u) ≡ Some u
  number_same n u m e = ap (λ t. cond t (Some u) None) (eq-eqb n m e)

  number_other : (n : ℕ) (u : U) (m : ℕ) → (n ≡ m → ⊥) → of_number m (n, u) ≡ None
  number_other n u m e = ap (λ t. cond t (Some u) None) (ne_eqb n m e)

  module _ {w v : Flow (Post U) (Mail U)} (g : Goes Passes w v) where
    abbrev s_is : Post U
    s_is = w.slot g.k

    abbrev t_is : Post U
    t_is = v.slot g.k

    abbrev left_of : ℕ → List U
    left_of n = letters_of (of_number n) s_is.stored

    nothing : {R : Type 0} (f : Mail U → Option R) → comes g.input ≡ None → carried_in f (comes g.input) ≡ None
    nothing f e = ap (carried_in f) e

    something : {R : Type 0} (f : Mail U → Option R) (m : Mail U) → comes g.input ≡ Some m → carried_in f (comes g.input) ≡ f m
    something f m e = ap (carried_in f) e

    silent : {R : Type 0} (f : Mail U → Option R) → Quiet g.out → SendsNone f g.out
    silent f q j = ap (letters_of f) (q j)

    only_here : {R : Type 0} (f : Mail U → Option R) (to : ℕ) (m : Mail U) (o : Option R) → Only g.out to m → f m ≡ o →
        letters_of f (g.out to) ≡ more_letter o []
    only_here f to m o q e = ap (letters_of f) q.here ∙ ap (λ x. more_letter x []) e

    only_there : {R : Type 0} (f : Mail U → Option R) (to : ℕ) (m : Mail U) → Only g.out to m → (j : ℕ) → (j ≡ to → ⊥) →
        letters_of f (g.out j) ≡ []
    only_there f to m q j n = ap (letters_of f) (q.others j n)

    only_none : {R : Type 0} (f : Mail U → Option R) (to : ℕ) (m : Mail U) → Only g.out to m → f m ≡ None → SendsNone f g.out
    only_none f to m q e j = elim (cases_eq j to) [ inl h ↦ rw h (only_here f to m None q e) | inr n ↦ only_there f to m q j n ]

    only_one : {R : Type 0} (f : Mail U → Option R) (to : ℕ) (m : Mail U) (r : R) → Only g.out to m → f m ≡ Some r → SendsOne f g.out to r
    only_one f to m r q e = record { here = only_here f to m (Some r) q e; others = only_there f to m q }

    -- a call that stands last in a slot stands alone
    alone : (n : ℕ) (o : Option U) (xs : List U) (x : U) → WaitsOnce w n o → kept_at n s_is ≡ xs ++ x ∷ [] →
        (xs ≡ []) × (keeps n s_is ≡ Some (x ∷ []))
    alone n o xs x h e =
        let has : keeps n s_is ≡ Some (xs ++ x ∷ []) = ap packed e ∙ packed_last xs x in
        let u = one_is o (xs ++ x ∷ []) (here_is (keeps n) (bears n) w g.k (one o) (xs ++ x ∷ []) h has) in
        let none = last_alone xs x u.0 u.2 in
        (none, has ∙ ap (λ l. Some (l ++ x ∷ [])) none)

    head_alone : (n : ℕ) (o : Option U) (xs : List U) (x : U) → WaitsOnce w n o → kept_at n s_is ≡ x ∷ xs →
        (xs ≡ []) × (keeps n s_is ≡ Some (x ∷ []))
    head_alone n o xs x h e =
        let has : keeps n s_is ≡ Some (x ∷ xs) = ap packed e in
        let u = one_is o (x ∷ xs) (here_is (keeps n) (bears n) w g.k (one o) (x ∷ xs) h has) in
        let f = u.2 in
        let none : xs ≡ [] = cc in
        (none, has ∙ ap (λ l. Some (x ∷ l)) none)

    -- what comes is the call that is to wait, and the slot has none of that number
    coming : (n : ℕ) (o : Option U) (u : U) (m : Mail U) → comes g.input ≡ Some m → borne n m ≡ u ∷ [] → WaitsOnce w n o →
        (o ≡ Some u) × (kept_at n s_is ≡ [])
    coming n o u m i e h =
        let c = come_is (keeps n) (bears n) g (one o) (u ∷ []) h (something (bears n) m i ∙ ap packed e) in
        let r = one_is o (u ∷ []) c.0 in
        let f = r.2 in
        let same : u ≡ r.0 = cc in
        (r.1 ∙ ap Some (sym same), packed_none (kept_at n s_is) c.1)

    still_waits : (n : ℕ) (o : Option U) → WaitsOnce w n o → kept_at n t_is ≡ kept_at n s_is → carried_in (bears n) (comes g.input) ≡ None →
        SendsNone (bears n) g.out → WaitsOnce v n o
    still_waits n o h e i q = lasts_still (keeps n) (bears n) g (one o) h (ap packed e) i q

    -- ---- a call leaves the store
    sent_waits : (n : ℕ) (u : U) (more : List (ℕ × U)) (to : ℕ) → comes g.input ≡ None → s_is.stored ≡ (n, u) ∷ more →
        t_is ≡ record { stored = more; desk = s_is.desk } → Only g.out to (Item n u) → (m : ℕ) (o : Option U) → WaitsOnce w m o →
        WaitsOnce v m o
    sent_waits n u more to i a b q m o h =
        let before : kept_at m s_is ≡ more_letter (of_number m (n, u)) (letters_of (of_number m) more) ++ held_in m s_is.desk =
        ap (λ l. letters_of (of_number m) l ++ held_in m s_is.desk) a in
        let after : kept_at m t_is ≡ letters_of (of_number m) more ++ held_in m s_is.desk = ap (kept_at m) b in
        elim (cases_eq n m) [
          | inl e ↦
              let one_first : kept_at m s_is ≡ u ∷ (letters_of (of_number m) more ++ held_in m s_is.desk) =
              before ∙ ap (λ x. more_letter x (letters_of (of_number m) more) ++ held_in m s_is.desk) (number_same n u m e) in
              let c = head_alone m o (letters_of (of_number m) more ++ held_in m s_is.desk) u h one_first in
              let born : bears m (Item n u) ≡ Some (u ∷ []) = ap (λ x. packed (more_letter x [])) (number_same n u m e) in
              lasts_leaves (keeps m) (bears m) g (one o) (u ∷ []) to h c.1 (ap packed (after ∙ c.0)) (nothing (bears m) i)
              (only_one (bears m) to (Item n u) (u ∷ []) q born)
          | inr e ↦
              let same : kept_at m s_is ≡ letters_of (of_number m) more ++ held_in m s_is.desk =
              before ∙ ap (λ x. more_letter x (letters_of (of_number m) more) ++ held_in m s_is.desk) (number_other n u m e) in
              still_waits m o h (after ∙ sym same) (nothing (bears m) i)
              (only_none (bears m) to (Item n u) q (ap (λ x. packed (more_letter x [])) (number_other n u m e)))
        ]

    -- ---- a call is passed on
    relayed_waits : (n : ℕ) (u : U) (to : ℕ) → comes g.input ≡ Some (Item n u) → t_is ≡ s_is → Only g.out to (Item n u) →
        (m : ℕ) (o : Option U) → WaitsOnce w m o → WaitsOnce v m o
    relayed_waits n u to i a q m o h = elim (cases_eq n m) [
      | inl e ↦
          let born : bears m (Item n u) ≡ Some (u ∷ []) = ap (λ x. packed (more_letter x [])) (number_same n u m e) in
          lasts_relayed (keeps m) (bears m) g (one o) (u ∷ []) to h (something (bears m) (Item n u) i ∙ born) (ap (keeps m) a)
          (only_one (bears m) to (Item n u) (u ∷ []) q born)
      | inr e ↦
          let born : bears m (Item n u) ≡ None = ap (λ x. packed (more_letter x [])) (number_other n u m e) in
          still_waits m o h (ap (kept_at m) a) (something (bears m) (Item n u) i ∙ born) (only_none (bears m) to (Item n u) q born)
    ]

    -- ---- the part leaves, with the calls that it holds
    left_by : (d : Desk U) (to : ℕ) → comes g.input ≡ None → s_is.desk ≡ Some d → t_is ≡ record { stored = s_is.stored; desk = None } →
        Only g.out to (Parcel d) → (m : ℕ) (o x : Option U) → item_at m d.order.held ≡ x → WaitsOnce w m o → WaitsOnce v m o
    left_by d to i b c q m o None e h =
        let none : held_in m (Some d) ≡ [] = ap (λ y. more_letter y []) e in
        still_waits m o h (ap (kept_at m) c ∙ sym (ap (λ y. left_of m ++ held_in m y) b ∙ ap (λ l. left_of m ++ l) none))
        (nothing (bears m) i) (only_none (bears m) to (Parcel d) q (ap packed none))
    left_by d to i b c q m o (Some x) e h =
        let has : held_in m (Some d) ≡ x ∷ [] = ap (λ y. more_letter y []) e in
        let at = alone m o (left_of m) x h (ap (λ y. left_of m ++ held_in m y) b ∙ ap (λ l. left_of m ++ l) has) in
        lasts_leaves (keeps m) (bears m) g (one o) (x ∷ []) to h at.1 (ap (keeps m) c
        ∙ (ap packed (append-nil (left_of m)) ∙ ap packed at.0)) (nothing (bears m) i)
        (only_one (bears m) to (Parcel d) (x ∷ []) q (ap packed has))

    -- ---- the part lands
    landed_by : (d : Desk U) → comes g.input ≡ Some (Parcel d) → s_is.desk ≡ None → t_is ≡ record { stored = s_is.stored; desk = Some d } →
        Quiet g.out → (m : ℕ) (o x : Option U) → item_at m d.order.held ≡ x → WaitsOnce w m o → WaitsOnce v m o
    landed_by d i b c q m o None e h =
        let none : held_in m (Some d) ≡ [] = ap (λ y. more_letter y []) e in
        still_waits m o h (ap (kept_at m) c ∙ (ap (λ l. left_of m ++ l) none ∙ sym (ap (λ y. left_of m ++ held_in m y) b)))
        (something (bears m) (Parcel d) i ∙ ap packed none) (silent (bears m) q)
    landed_by d i b c q m o (Some x) e h =
        let has : held_in m (Some d) ≡ x ∷ [] = ap (λ y. more_letter y []) e in
        let free = (both_nil (left_of m) (held_in m s_is.desk) (coming m o x (Parcel d) i has h).1).0 in
        lasts_lands (keeps m) (bears m) g (one o) (x ∷ []) h (something (bears m) (Parcel d) i ∙ ap packed has) (ap (keeps m) c
        ∙ ap packed (ap (λ l. l ++ held_in m (Some d)) free ∙ has)) (silent (bears m) q)

    -- ---- the part itself
    module _ (first : ℕ) (batch : List U) (place : TokenPlace) (d : Desk U) (b : InTurn first batch w place d) where
      abbrev is_life : ℕ → Option U
      is_life n = item_at n (number_from d.order.next b.rest)

      with_same : (p : TokenPlace) → Sole desk_of parcel_of v p d → ((m : ℕ) (o : Option U) → WaitsOnce w m o → WaitsOnce v m o) →
          InTurn first batch v p d
      with_same p s f =
          record {
            sole = s;
            rest = b.rest;
            parts = b.parts;
            next = b.next;
            small = b.small;
            in_order = b.in_order;
            life = λ n. f n (is_life n) (b.life n);
          }

      desk_still : t_is.desk ≡ s_is.desk → carried_in parcel_of (comes g.input) ≡ None → SendsNone parcel_of g.out →
          Sole desk_of parcel_of v place d
      desk_still e i q =
          sole_still desk_of parcel_of w v place d b.sole (same_held desk_of parcel_of g e) (same_mail desk_of parcel_of g i q)

      turned : (q : Desk U) → s_is.desk ≡ Some d → t_is.desk ≡ Some q → carried_in parcel_of (comes g.input) ≡ None → Quiet g.out →
          Sole desk_of parcel_of v place q
      turned q e f i o = sole_goes desk_of parcel_of (λ r q. Unit {0}) g place d b.sole (turns d q e f (inr tt) i (silent parcel_of o))

      the_one : (x : Desk U) → s_is.desk ≡ Some x → x ≡ d
      the_one x e = (sole_here desk_of parcel_of w place d x g.k b.sole e).1

      long : first + length batch ≡ d.order.next + length b.rest
      long =
          let n = b.next in
          let l = ap length b.parts in
          let m = length-append d.done b.rest in
          omega (arith, n, l, m)

      more_parts : (q : Desk U) (u : U) (ys : List U) → b.rest ≡ u ∷ ys → q.done ≡ d.done ++ u ∷ [] → batch ≡ q.done ++ ys
      more_parts q u ys e f = b.parts ∙ (ap (λ l. d.done ++ l) e ∙ (sym (append_assoc d.done (u ∷ []) ys) ∙ ap (λ l. l ++ ys) (sym f)))

      more_next : (q : Desk U) (u : U) → q.order.next ≡ d.order.next + 1 → q.done ≡ d.done ++ u ∷ [] → q.order.next ≡ first + length q.done
      more_next q u e f =
          let p = b.next in
          let l = ap length f ∙ length-append d.done (u ∷ []) in
          omega (arith, p, e, l)

      -- of the calls that wait, the next one is no more
      life_past : (q : Desk U) (u : U) (ys : List U) → q.order.next ≡ d.order.next + 1 → b.rest ≡ u ∷ ys →
          ((n : ℕ) → n ≡ d.order.next → Nobody (keeps n) (bears n) v) → ((n : ℕ) → (n ≡ d.order.next → ⊥) → WaitsOnce v n (is_life n)) →
          (n : ℕ) → WaitsOnce v n (item_at n (number_from q.order.next ys))
      life_past q u ys up e a c n = subst (λ x. WaitsOnce v n (item_at n (number_from x ys))) (sym up) (elim (cases_eq n d.order.next) [
        | inl h ↦ subst (WaitsOnce v n) (sym (item_early n (d.order.next + 1) ys (omega (arith, h)))) (a n h)
        | inr m ↦ subst (WaitsOnce v n) (ap (λ l. item_at n (number_from d.order.next l)) e
            ∙ item_other n d.order.next u ys (λ x. m (sym x))) (c n m)
      ])

      -- ---- it executes the next call
      executed : (q : Desk U) (u : U) → is_life d.order.next ≡ Some u → IsInOrder q.order → q.order.next ≡ d.order.next + 1 →
          q.done ≡ d.done ++ u ∷ [] → Sole desk_of parcel_of v place q → ((n : ℕ) → n ≡ d.order.next → Nobody (keeps n) (bears n) v) →
          ((n : ℕ) → (n ≡ d.order.next → ⊥) → WaitsOnce v n (is_life n)) → InTurn first batch v place q
      executed q u due o up line s a c =
          let r = first_rest d.order.next u b.rest due in
          record {
            sole = s;
            rest = r.0;
            parts = more_parts q u r.0 r.1 line;
            next = more_next q u up line;
            small = b.small;
            in_order = o;
            life = life_past q u r.0 up r.1 a c;
          }

      module _ (n : ℕ) (u : U) (i : comes g.input ≡ Some (Item n u)) (at : s_is.desk ≡ Some d)
          (e : t_is ≡ record { stored = s_is.stored; desk = Some (offered d n u) }) (q : Quiet g.out) where
        born : (m : ℕ) → n ≡ m → borne m (Item n u) ≡ u ∷ []
        born m h = ap (λ x. more_letter x []) (number_same n u m h)

        bears_same : (m : ℕ) → n ≡ m → carried_in (bears m) (comes g.input) ≡ Some (u ∷ [])
        bears_same m h = something (bears m) (Item n u) i ∙ ap packed (born m h)

        bears_other : (m : ℕ) → (n ≡ m → ⊥) → carried_in (bears m) (comes g.input) ≡ None
        bears_other m h = something (bears m) (Item n u) i ∙ ap (λ x. packed (more_letter x [])) (number_other n u m h)

        kept_before : (m : ℕ) → kept_at m s_is ≡ left_of m ++ more_letter (item_at m d.order.held) []
        kept_before m = ap (λ y. left_of m ++ held_in m y) at

        kept_after : (m : ℕ) → kept_at m t_is ≡ left_of m ++ more_letter (item_at m (after_offer d.order n u).held) []
        kept_after m = ap (kept_at m) e

        kept_same : (m : ℕ) → item_at m (after_offer d.order n u).held ≡ item_at m d.order.held → kept_at m t_is ≡ kept_at m s_is
        kept_same m h = kept_after m ∙ (ap (λ x. left_of m ++ more_letter x []) h ∙ sym (kept_before m))

        -- it is never stale, and never held already
        pub not_stale : d.order.next ≤ n
        not_stale = (item_bounds n d.order.next u b.rest (coming n (is_life n) u (Item n u) i (born n refl) (b.life n)).0).0

        pub not_held : item_at n d.order.held ≡ None
        not_held =
            let none =
            (both_nil (left_of n) (more_letter (item_at n d.order.held) []) (sym (kept_before n)
            ∙ (coming n (is_life n) u (Item n u) i (born n refl) (b.life n)).1)).1 in
            no_letter (item_at n d.order.held) none
          where
            no_letter : (o : Option U) → more_letter o [] ≡ [] → o ≡ None
            no_letter None e = refl
            no_letter (Some x) e = cc

        few : n < 2 ^ 62
        few =
            let high = (item_bounds n d.order.next u b.rest (coming n (is_life n) u (Item n u) i (born n refl) (b.life n)).0).1 in
            let size = long in
            let limit = b.small in
            omega (arith, high, size, limit)

        keeps_order : IsInOrder (after_offer d.order n u)
        keeps_order = order_after_offer d.order n u b.in_order few (not_some (item_at n d.order.held) not_held)

        desk_now : Sole desk_of parcel_of v place (offered d n u)
        desk_now = turned (offered d n u) at (ap desk_of e) (something parcel_of (Item n u) i) q

        due : is_life n ≡ Some u
        due = (coming n (is_life n) u (Item n u) i (born n refl) (b.life n)).0

        offered_next : n ≡ d.order.next → InTurn first batch v place (offered d n u)
        offered_next h =
            let held_same : (after_offer d.order n u).held ≡ d.order.held = ap (λ x. x.held) (offer_next d.order n u h) in
            executed (offered d n u) u (subst (λ m. is_life m ≡ Some u) h due) keeps_order (ap (λ x. x.next) (offer_next d.order n u h))
            (ap (λ t. d.done ++ cond t (u ∷ []) []) (eq-eqb n d.order.next h)) desk_now
            (λ m x. lasts_met (keeps m) (bears m) g (one (is_life m)) (u ∷ []) (b.life m) (bears_same m (h ∙ sym x))
            (ap packed (kept_same m (ap (item_at m) held_same))) (silent (bears m) q))
            (λ m x. still_waits m (is_life m) (b.life m) (kept_same m (ap (item_at m) held_same)) (bears_other m (λ y. x (sym y ∙ h)))
            (silent (bears m) q))

        offered_early : d.order.next < n → InTurn first batch v place (offered d n u)
        offered_early lt =
            let held_now : (m : ℕ) → item_at m (after_offer d.order n u).held ≡ cond (eqb m n) (Some u) (item_at m d.order.held) =
            λ m. held_early d.order n u m (not_some (item_at n d.order.held) not_held) lt in
            let same : (after_offer d.order n u).next ≡ d.order.next = ap (λ x. x.next) (offer_early d.order n u lt) in
            let line : (offered d n u).done ≡ d.done =
            ap (λ t. d.done ++ cond t (u ∷ []) []) (ne_eqb n d.order.next (λ h. omega (arith, h, lt))) ∙ append-nil d.done in
            record {
              sole = desk_now;
              rest = b.rest;
              parts = b.parts ∙ ap (λ l. l ++ b.rest) (sym line);
              next = same ∙ (b.next ∙ ap (λ l. first + length l) (sym line));
              small = b.small;
              in_order = keeps_order;
              life = λ m. subst (λ x. WaitsOnce v m (item_at m (number_from x b.rest))) (sym same) (elim (cases_eq n m) [
                | inl h ↦
                    let none = (coming m (is_life m) u (Item n u) i (born m h) (b.life m)).1 in
                    let free = (both_nil (left_of m) (more_letter (item_at m d.order.held) []) (sym (kept_before m) ∙ none)).0 in
                    let holds : item_at m (after_offer d.order n u).held ≡ Some u =
                    held_now m ∙ ap (λ t. cond t (Some u) (item_at m d.order.held)) (eq-eqb m n (sym h)) in
                    lasts_lands (keeps m) (bears m) g (one (is_life m)) (u ∷ []) (b.life m) (bears_same m h)
                    (ap packed (kept_after m ∙ (ap (λ l. l ++ more_letter (item_at m (after_offer d.order n u).held) []) free
                    ∙ ap (λ x. more_letter x []) holds))) (silent (bears m) q)
                | inr h ↦ still_waits m (is_life m) (b.life m)
                    (kept_same m (held_now m ∙ ap (λ t. cond t (Some u) (item_at m d.order.held)) (ne_eqb m n (λ x. h (sym x)))))
                    (bears_other m h) (silent (bears m) q)
              ]);
            }

        offered_here : InTurn first batch v place (offered d n u)
        offered_here =
            let low = not_stale in
            elim (cases_eq n d.order.next) [
              | inl h ↦ offered_next h
              | inr h ↦ offered_early (let m : n ≡ d.order.next → ⊥ = h in grind (arith, low, m))
            ]

      -- ---- it executes the next one of those that it holds
      taken_here : (u : U) → comes g.input ≡ None → s_is.desk ≡ Some d → next_item d.order ≡ Some u →
          t_is ≡ record { stored = s_is.stored; desk = Some (taken d u) } → Quiet g.out → InTurn first batch v place (taken d u)
      taken_here u i at ready e q =
          let next = d.order.next in
          let kept_before : (m : ℕ) → kept_at m s_is ≡ left_of m ++ more_letter (item_at m d.order.held) [] =
          λ m. ap (λ y. left_of m ++ held_in m y) at in
          let kept_after : (m : ℕ) → kept_at m t_is ≡ left_of m ++ more_letter (item_at m (after_taking d.order).held) [] =
          λ m. ap (kept_at m) e in
          let held_now : (m : ℕ) → item_at m (after_taking d.order).held ≡ cond (eqb m next) None (item_at m d.order.held) =
          λ m. held_taken d.order m b.in_order in
          let last : (m : ℕ) → m ≡ next → kept_at m s_is ≡ left_of m ++ u ∷ [] =
          λ m h. kept_before m ∙ ap (λ x. left_of m ++ more_letter x []) (ap (λ x. item_at x d.order.held) h ∙ ready) in
          let stands = alone next (is_life next) (left_of next) u (b.life next) (last next refl) in
          let has =
          one_is (is_life next) (u ∷ []) (here_is (keeps next) (bears next) w g.k (one (is_life next)) (u ∷ []) (b.life next)
          stands.1) in
          let same : u ≡ has.0 = let f = has.2 in cc in
          executed (taken d u) u (has.1 ∙ ap Some (sym same)) (order_after_taking d.order b.in_order)
          (ap (λ x. x.next) (ap (after_item d.order) ready)) refl (turned (taken d u) at (ap desk_of e) (nothing parcel_of i) q)
          (λ m h.
          let c = alone m (is_life m) (left_of m) u (b.life m) (last m h) in
          let gone : item_at m (after_taking d.order).held ≡ None =
          held_now m ∙ ap (λ t. cond t None (item_at m d.order.held)) (eq-eqb m next h) in
          lasts_ends (keeps m) (bears m) g (one (is_life m)) (u ∷ []) (b.life m) c.1
          (ap packed (kept_after m ∙ (ap (λ x. left_of m ++ more_letter x []) gone ∙ (append-nil (left_of m) ∙ c.0))))
          (nothing (bears m) i) (silent (bears m) q))
          (λ m h. still_waits m (is_life m) (b.life m) (kept_after m
          ∙ (ap (λ x. left_of m ++ more_letter x []) (held_now m ∙ ap (λ t. cond t None (item_at m d.order.held)) (ne_eqb m next h))
          ∙ sym (kept_before m))) (nothing (bears m) i) (silent (bears m) q))

      -- ---- it is offered a call from the store of its own node
      module _ (n : ℕ) (u : U) (more : List (ℕ × U)) (i : comes g.input ≡ None) (a : s_is.stored ≡ (n, u) ∷ more) (at : s_is.desk ≡ Some d)
          (e : t_is ≡ record { stored = more; desk = Some (offered d n u) }) (q : Quiet g.out) where
        abbrev more_of : ℕ → List U
        more_of m = letters_of (of_number m) more

        abbrev held_of : ℕ → List U
        held_of m = more_letter (item_at m d.order.held) []

        own_before : (m : ℕ) → kept_at m s_is ≡ more_letter (of_number m (n, u)) (more_of m) ++ held_of m
        own_before m =
            ap (λ l. letters_of (of_number m) l ++ held_in m s_is.desk) a
            ∙ ap (λ y. more_letter (of_number m (n, u)) (more_of m) ++ held_in m y) at

        own_first : (m : ℕ) → n ≡ m → kept_at m s_is ≡ u ∷ (more_of m ++ held_of m)
        own_first m h = own_before m ∙ ap (λ x. more_letter x (more_of m) ++ held_of m) (number_same n u m h)

        own_rest : (m : ℕ) → (n ≡ m → ⊥) → kept_at m s_is ≡ more_of m ++ held_of m
        own_rest m h = own_before m ∙ ap (λ x. more_letter x (more_of m) ++ held_of m) (number_other n u m h)

        own_after : (m : ℕ) → kept_at m t_is ≡ more_of m ++ more_letter (item_at m (after_offer d.order n u).held) []
        own_after m = ap (kept_at m) e

        own_alone : (m : ℕ) → n ≡ m → (more_of m ++ held_of m ≡ []) × (keeps m s_is ≡ Some (u ∷ []))
        own_alone m h = head_alone m (is_life m) (more_of m ++ held_of m) u (b.life m) (own_first m h)

        own_due : is_life n ≡ Some u
        own_due =
            let r =
            one_is (is_life n) (u ∷ []) (here_is (keeps n) (bears n) w g.k (one (is_life n)) (u ∷ []) (b.life n)
            (own_alone n refl).1) in
            let f = r.2 in
            let same : u ≡ r.0 = cc in
            r.1 ∙ ap Some (sym same)

        empty_letter : (o : Option U) → more_letter o [] ≡ [] → o ≡ None
        empty_letter None h = refl
        empty_letter (Some x) h = cc

        own_free : item_at n d.order.held ≡ None
        own_free = empty_letter (item_at n d.order.held) (both_nil (more_of n) (held_of n) (own_alone n refl).0).1

        own_few : n < 2 ^ 62
        own_few =
            let high = (item_bounds n d.order.next u b.rest own_due).1 in
            let size = long in
            let limit = b.small in
            omega (arith, high, size, limit)

        own_order : IsInOrder (after_offer d.order n u)
        own_order = order_after_offer d.order n u b.in_order own_few (not_some (item_at n d.order.held) own_free)

        own_desk : Sole desk_of parcel_of v place (offered d n u)
        own_desk = turned (offered d n u) at (ap desk_of e) (nothing parcel_of i) q

        own_still : (m : ℕ) → kept_at m t_is ≡ kept_at m s_is → WaitsOnce v m (is_life m)
        own_still m h = still_waits m (is_life m) (b.life m) h (nothing (bears m) i) (silent (bears m) q)

        own_next : n ≡ d.order.next → InTurn first batch v place (offered d n u)
        own_next h =
            let held_same : (m : ℕ) → kept_at m t_is ≡ more_of m ++ held_of m =
            λ m. own_after m ∙ ap (λ x. more_of m ++ more_letter (item_at m x) []) (ap (λ x. x.held) (offer_next d.order n u h)) in
            executed (offered d n u) u (subst (λ m. is_life m ≡ Some u) h own_due) own_order (ap (λ x. x.next) (offer_next d.order n u h))
            (ap (λ t. d.done ++ cond t (u ∷ []) []) (eq-eqb n d.order.next h)) own_desk
            (λ m x. let c = own_alone m (h ∙ sym x) in
            lasts_ends (keeps m) (bears m) g (one (is_life m)) (u ∷ []) (b.life m) c.1 (ap packed (held_same m ∙ c.0))
            (nothing (bears m) i) (silent (bears m) q))
            (λ m x. own_still m (held_same m ∙ sym (own_rest m (λ y. x (sym y ∙ h)))))

        own_early : d.order.next < n → InTurn first batch v place (offered d n u)
        own_early lt =
            let held_now : (m : ℕ) → item_at m (after_offer d.order n u).held ≡ cond (eqb m n) (Some u) (item_at m d.order.held) =
            λ m. held_early d.order n u m (not_some (item_at n d.order.held) own_free) lt in
            let same : (after_offer d.order n u).next ≡ d.order.next = ap (λ x. x.next) (offer_early d.order n u lt) in
            let line : (offered d n u).done ≡ d.done =
            ap (λ t. d.done ++ cond t (u ∷ []) []) (ne_eqb n d.order.next (λ h. omega (arith, h, lt))) ∙ append-nil d.done in
            record {
              sole = own_desk;
              rest = b.rest;
              parts = b.parts ∙ ap (λ l. l ++ b.rest) (sym line);
              next = same ∙ (b.next ∙ ap (λ l. first + length l) (sym line));
              small = b.small;
              in_order = own_order;
              life = λ m. subst (λ x. WaitsOnce v m (item_at m (number_from x b.rest))) (sym same) (own_still m (elim (cases_eq n m) [
                | inl h ↦
                    let none = (own_alone m h).0 in
                    let free = (both_nil (more_of m) (held_of m) none).0 in
                    let holds : item_at m (after_offer d.order n u).held ≡ Some u =
                    held_now m ∙ ap (λ t. cond t (Some u) (item_at m d.order.held)) (eq-eqb m n (sym h)) in
                    own_after m ∙ (ap (λ l. l ++ more_letter (item_at m (after_offer d.order n u).held) []) free
                    ∙ (ap (λ x. more_letter x []) holds ∙ sym (own_first m h ∙ ap (λ l. u ∷ l) none)))
                | inr h ↦ own_after m
                    ∙ (ap (λ x. more_of m ++ more_letter x []) (held_now m
                    ∙ ap (λ t. cond t (Some u) (item_at m d.order.held)) (ne_eqb m n (λ x. h (sym x)))) ∙ sym (own_rest m h))
              ]));
            }

        served_here : InTurn first batch v place (offered d n u)
        served_here =
            let low = (item_bounds n d.order.next u b.rest own_due).0 in
            elim (cases_eq n d.order.next) [
              | inl h ↦ own_next h
              | inr h ↦ own_early (let m : n ≡ d.order.next → ⊥ = h in grind (arith, low, m))
            ]

      landed_here : (x : Desk U) → comes g.input ≡ Some (Parcel x) → t_is ≡ record { stored = s_is.stored; desk = Some x } → Quiet g.out →
          InTurn first batch v (In g.k) d
      landed_here x i e q =
          let c = come_is desk_of parcel_of g (Some d) x (record { place = place; sole = b.sole }) (something parcel_of (Parcel x) i) in
          let s = c.0 in
          let same : d ≡ x = cc in
          with_same (In g.k) (sole_landed desk_of parcel_of g place d x d b.sole (something parcel_of (Parcel x) i) (ap desk_of e
          ∙ ap Some (sym same)) (silent parcel_of q)) (λ m o. landed_by x i c.1 e q m o (item_at m x.order.held) refl)

      left_here : (x : Desk U) (to : ℕ) → comes g.input ≡ None → s_is.desk ≡ Some x → t_is ≡ record { stored = s_is.stored; desk = None } →
          Only g.out to (Parcel x) → InTurn first batch v (On g.k to) d
      left_here x to i at e q =
          let same = the_one x at in
          with_same (On g.k to) (sole_left desk_of parcel_of g place d x d to b.sole at (ap desk_of e) (nothing parcel_of i)
          (only_one parcel_of to (Parcel x) d q (ap Some same))) (λ m o. left_by x to i at e q m o (item_at m x.order.held) refl)

      -- whatever a move does with the calls, they stay in turn
      pub in_turn_goes : (m : Passes g.k s_is (comes g.input) t_is g.out) → InTurn first batch v (place_then m place) (desk_then m d)
      in_turn_goes (rests i e q) =
          with_same place (desk_still (ap desk_of e) (nothing parcel_of i) (silent parcel_of q))
          (λ m o h. still_waits m o h (ap (kept_at m) e) (nothing (bears m) i) (silent (bears m) q))
      in_turn_goes (sends n u more to i a e q) =
          with_same place (desk_still (ap desk_of e) (nothing parcel_of i) (only_none parcel_of to (Item n u) q refl))
          (sent_waits n u more to i a e q)
      in_turn_goes (relays n u to i e q) =
          with_same place (desk_still (ap desk_of e) (something parcel_of (Item n u) i) (only_none parcel_of to (Item n u) q refl))
          (relayed_waits n u to i e q)
      in_turn_goes (offers n u x i at e q) =
          let same = the_one x at in
          offered_here n u i (at ∙ ap Some same) (e ∙ ap (λ y. record { stored = s_is.stored; desk = Some (offered y n u) }) same) q
      in_turn_goes (serves n u more x i a at e q) =
          let same = the_one x at in
          served_here n u more i a (at ∙ ap Some same) (e ∙ ap (λ y. record { stored = more; desk = Some (offered y n u) }) same) q
      in_turn_goes (takes u x i at ready e q) =
          let same = the_one x at in
          taken_here u i (at ∙ ap Some same) (ap (λ y. next_item y.order) (sym same) ∙ ready) (e
          ∙ ap (λ y. record { stored = s_is.stored; desk = Some (taken y u) }) same) q
      in_turn_goes (lands x i e q) = landed_here x i e q
      in_turn_goes (leaves x to i at e q) = left_here x to i at e q
