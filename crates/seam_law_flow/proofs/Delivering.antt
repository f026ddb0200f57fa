-- Delivery in number order: what each step keeps of the items that one source issued and one node delivers.
use Rattle.std.proofs.Common.{◌≡◌, ℕ, ◌+◌, ◌<◌, ◌≤◌, ◌^◌, false, cond, eqb, List, [], ◌∷◌, ◌++◌, length, Option, None, Some, is_some, refl}
use Rattle.std.proofs.Common.{sym, ap, ◌∙◌, subst, arith, inl, inr}
use Rattle.std.specs.Ordering.{nat_cmp, match_ordering}
use Rattle.std.specs.declared.cmp.Ordering.TheVariants.{Less, Equal, Greater}
use Rattle.std.proofs.lemmas.Bool.{cases_eq, eq-eqb, ne_eqb}
use Rattle.std.proofs.lemmas.Bool.Decides.{nat_tests}
use Rattle.std.proofs.lemmas.List.{append-nil, append_assoc, length-append}
use Rattle.seam_law_flow.specs.Prelude.{Flow, Goes, comes, letters_of, more_letter, carried_in, TokenPlace, In, On, SoleOn, Sole, Nobody}
use Rattle.seam_law_flow.specs.Prelude.{SendsNone, Delivery, at_once, more_issued, IsToward, Life, number_from, of_number, numbered}
use Rattle.seam_order.specs.Held.{OrderView, item_at, with_item, RiseFrom, IsInOrder}
use Rattle.seam_order.specs.Offers.{after_offer, after_item, after_taking, next_item}
use Rattle.seam_order.proofs.OrderLaws.{order_after_offer, order_after_taking, held_early, held_taken}
use Rattle.seam_law_flow.specs.Deliveries.{Passes, rests, issues, offers, gives}
use Rattle.seam_law_flow.specs.Lives.{Waits}
use Rattle.seam_law_flow.proofs.TokenLemmas.{sole_here, first_is, sole_first, one_more, sole_landed}
use Rattle.seam_law_flow.proofs.Lives.{life_still, sole_born, nobody_met, nobody_ends}
use Rattle.seam_law_flow.proofs.Numbers.{either, item_early, item_late, item_first, item_other, item_bounds, item_at-append}
use Rattle.seam_law_flow.proofs.Numbers.{number_from-append, letters_of-number_from, letters_of-numbered}

-- who has the token, and who is met by it, is the node that it waits for
toward_in : (b k : ℕ) (p : TokenPlace) → IsToward b p → p ≡ In k → k ≡ b
toward_in b k (In j) d e = let s : j ≡ k = ap (λ q. elim q as (λ _. ℕ) [ In x ↦ x | On x y ↦ y ]) e in sym s ∙ d
toward_in b k (On x y) d e = cc

toward_on : (b a k : ℕ) (p : TokenPlace) → IsToward b p → p ≡ On a k → k ≡ b
toward_on b a k (In j) d e = cc
toward_on b a k (On x y) d e = let s : y ≡ k = ap (λ q. elim q as (λ _. ℕ) [ In x ↦ x | On x y ↦ y ]) e in sym s ∙ d

module _ {S L R : Type 0} (held : S → Option R) (carried : L → Option R) where
  pub held_is : (w : Flow S L) (b k : ℕ) (o : Option R) (r : R) → Life held carried w b o → held (w.slot k) ≡ Some r →
      (o ≡ Some r) × (k ≡ b)
  held_is w b k None r h e = let n = h.slots k in cc
  held_is w b k (Some x) r h e =
      let at = sole_here held carried w h.place x r k h.sole e in
      (ap Some (sym at.1), toward_in b k h.place h.toward at.0)

module _ {S L R : Type 0} (held : S → Option R) (carried : L → Option R) {Moves : ℕ → S → Option L → S → (ℕ → List L) → Type 0} where
  pub met_is : {w v : Flow S L} (g : Goes Moves w v) (b : ℕ) (o : Option R) (r : R) → Life held carried w b o →
      carried_in carried (comes g.input) ≡ Some r → (o ≡ Some r) × (g.k ≡ b)
  met_is {w} {v} g b None r h e =
      let i = first_is held carried w g.k g.input g.rest r g.head e in
      let n = h.mail i.0 g.k in
      let yes = ap (letters_of carried) i.4 ∙ one_more held carried i.1 g.rest (Some r) i.3 in
      cc
  met_is {w} {v} g b (Some x) r h e =
      let i = first_is held carried w g.k g.input g.rest r g.head e in
      let at = sole_first held carried w h.place x r i.0 g.k i.1 g.rest h.sole i.3 i.4 in
      (ap Some (sym at.1), toward_on b i.0 g.k h.place h.toward at.0)

  -- while it is on its way no slot holds it
  pub met_free : {w v : Flow S L} (g : Goes Moves w v) (b : ℕ) (x r : R) → Waits held carried w b x →
      carried_in carried (comes g.input) ≡ Some r → held (w.slot g.k) ≡ None
  met_free {w} {v} g b x r h e =
      let i = first_is held carried w g.k g.input g.rest r g.head e in
      let at = sole_first held carried w h.place x r i.0 g.k i.1 g.rest h.sole i.3 i.4 in
      let old : SoleOn held carried w i.0 g.k x = subst (λ z. Sole held carried w z x) at.0 h.sole in
      old.slots g.k

cmp_equal : (a b : ℕ) → a ≡ b → nat_cmp a b ≡ Equal
cmp_equal a b e = grind (arith, nat_tests)

cmp_greater : (a b : ℕ) → b < a → nat_cmp a b ≡ Greater
cmp_greater a b lt = grind (arith, nat_tests)

cmp_less : (a b : ℕ) → a < b → nat_cmp a b ≡ Less
cmp_less a b lt = grind (arith, nat_tests)

pub offer_next : {U : Type 0} (w : OrderView U) (n : ℕ) (u : U) → n ≡ w.next → after_offer w n u ≡ record w { next = w.next + 1 }
offer_next w n u e =
    ap (λ o. match_ordering o w (record w { next = w.next + 1 }) (record w { held = with_item n u w.held })) (cmp_equal n w.next e)

pub offer_early : {U : Type 0} (w : OrderView U) (n : ℕ) (u : U) → w.next < n → after_offer w n u ≡ record w { held = with_item n u w.held }
offer_early w n u lt =
    ap (λ o. match_ordering o w (record w { next = w.next + 1 }) (record w { held = with_item n u w.held })) (cmp_greater n w.next lt)

pub offer_late : {U : Type 0} (w : OrderView U) (n : ℕ) (u : U) → n < w.next → after_offer w n u ≡ w
offer_late w n u lt =
    ap (λ o. match_ordering o w (record w { next = w.next + 1 }) (record w { held = with_item n u w.held })) (cmp_less n w.next lt)

pub not_some : {U : Type 0} (o : Option U) → o ≡ None → is_some o ≡ false
not_some o e = ap is_some e

pub first_rest : {U : Type 0} (m : ℕ) (u : U) (xs : List U) → item_at m (number_from m xs) ≡ Some u → (ys : List U) × (xs ≡ u ∷ ys)
first_rest m u [] e = cc
first_rest m u (x ∷ xs) e = let h : Some x ≡ Some u = sym (item_first m x xs) ∙ e in (xs, let s : x ≡ u = cc in ap (λ y. y ∷ xs) s)

either_none : {U : Type 0} (a b : Option U) → b ≡ None → either a b ≡ a
either_none None b e = e
either_none (Some x) b e = refl

either_some : {U : Type 0} (a b : Option U) → a ≡ None → either a b ≡ b
either_some a b e = ap (λ x. either x b) e

module _ {S L U : Type 0} (order : S → OrderView U) (delivered : S → List U) (brings : L → Option (ℕ × U)) where
  abbrev keeps : ℕ → S → Option U
  keeps n s = item_at n (order s).held

  abbrev bears : ℕ → L → Option U
  bears n l = numbered n (brings l)

  abbrev Are : Flow S L → ℕ → ℕ → List U → Type 0
  Are w b first us = Delivery order delivered brings w b first us

  bears_is : (n : ℕ) (i : Option L) → carried_in (bears n) i ≡ numbered n (carried_in brings i)
  bears_is n None = refl
  bears_is n (Some l) = refl

  bears_none : (n : ℕ) (i : Option L) → carried_in brings i ≡ None → carried_in (bears n) i ≡ None
  bears_none n i e = bears_is n i ∙ ap (numbered n) e

  bears_same : (n : ℕ) (u : U) (i : Option L) → carried_in brings i ≡ Some (n, u) → carried_in (bears n) i ≡ Some u
  bears_same n u i e = bears_is n i ∙ (ap (numbered n) e ∙ ap (λ t. cond t (Some u) None) (eq-eqb n n refl))

  bears_other : (n m : ℕ) (u : U) (i : Option L) → (m ≡ n → ⊥) → carried_in brings i ≡ Some (m, u) → carried_in (bears n) i ≡ None
  bears_other n m u i h e = bears_is n i ∙ (ap (numbered n) e ∙ ap (λ t. cond t (Some u) None) (ne_eqb m n h))

  none_sent : (n : ℕ) (out : ℕ → List L) → SendsNone brings out → SendsNone (bears n) out
  none_sent n out h j = letters_of-numbered brings n (out j) ∙ ap (letters_of (of_number n)) (h j)

  module _ {Moves : ℕ → S → Option L → S → (ℕ → List L) → Type 0} {w v : Flow S L} (g : Goes Moves w v) (first : ℕ) (us : List U) where
    same_at : {X : Type 0} (f : S → X) → f (v.slot g.k) ≡ f (w.slot g.k) → (j : ℕ) → f (v.slot j) ≡ f (w.slot j)
    same_at f e j = elim (cases_eq j g.k) [ inl h ↦ rw h e | inr n ↦ ap f (g.others j n) ]

    rests_goes : (b : ℕ) → Are w b first us → order (v.slot g.k) ≡ order (w.slot g.k) → delivered (v.slot g.k) ≡ delivered (w.slot g.k) →
        carried_in brings (comes g.input) ≡ None → SendsNone brings g.out → Are v b first us
    rests_goes b d eo es nh o =
        let ob = same_at order eo b in
        let sb = same_at delivered es b in
        record {
          rest = d.rest;
          parts = d.parts ∙ ap (λ l. l ++ d.rest) (sym sb);
          next = ap (λ x. x.next) ob ∙ (d.next ∙ ap (λ l. first + length l) (sym sb));
          small = d.small;
          in_order = subst IsInOrder (sym ob) d.in_order;
          life = λ n.
              subst (λ x. Life (keeps n) (bears n) v b (item_at n (number_from x.next d.rest))) (sym ob)
              (life_still (keeps n) (bears n) g b (item_at n (number_from (order (w.slot b)).next d.rest)) (d.life n)
              (ap (λ x. item_at n x.held) eo) (bears_none n (comes g.input) nh) (none_sent n g.out o));
        }

    issued_none : (b number n : ℕ) (more : List U) → letters_of brings (g.out b) ≡ number_from number more →
        ((j : ℕ) → (j ≡ b → ⊥) → letters_of brings (g.out j) ≡ []) → item_at n (number_from number more) ≡ None → SendsNone (bears n) g.out
    issued_none b number n more o z e j = elim (cases_eq j b) [
      | inl h ↦ rw h (letters_of-numbered brings n (g.out b)
          ∙ (ap (letters_of (of_number n)) o ∙ (letters_of-number_from n number more ∙ ap (λ x. more_letter x []) e)))
      | inr m ↦ letters_of-numbered brings n (g.out j) ∙ ap (letters_of (of_number n)) (z j m)
    ]

    issued_life : (b number n next : ℕ) (rest more : List U) (o : Option U) → item_at n (number_from number more) ≡ o →
        number ≡ next + length rest → Life (keeps n) (bears n) w b (item_at n (number_from next rest)) →
        order (v.slot g.k) ≡ order (w.slot g.k) → carried_in brings (comes g.input) ≡ None
        → letters_of brings (g.out b) ≡ number_from number more → ((j : ℕ) → (j ≡ b → ⊥) → letters_of brings (g.out j) ≡ []) →
        Life (keeps n) (bears n) v b (either (item_at n (number_from next rest)) (item_at n (number_from number more)))
    issued_life b number n next rest more None e at h eo nh o z =
        subst (Life (keeps n) (bears n) v b) (sym (either_none (item_at n (number_from next rest)) (item_at n (number_from number more)) e))
        (life_still (keeps n) (bears n) g b (item_at n (number_from next rest)) h (ap (λ x. item_at n x.held) eo)
        (bears_none n (comes g.input) nh) (issued_none b number n more o z e))
    issued_life b number n next rest more (Some u) e at h eo nh o z =
        let least = (item_bounds n number u more e).0 in
        let before : item_at n (number_from next rest) ≡ None = item_late n next rest (omega (arith, least, at)) in
        let none : Nobody (keeps n) (bears n) w = subst (Life (keeps n) (bears n) w b) before h in
        subst (Life (keeps n) (bears n) v b)
        (sym (either_some (item_at n (number_from next rest)) (item_at n (number_from number more)) before ∙ e)) (record {
          place = On g.k b;
          sole = sole_born (keeps n) (bears n) g none (ap (λ x. item_at n x.held) eo) (bears_none n (comes g.input) nh) b u (record {
            here =
                letters_of-numbered brings n (g.out b)
                ∙ (ap (letters_of (of_number n)) o ∙ (letters_of-number_from n number more ∙ ap (λ x. more_letter x []) e));
            others = λ j m. letters_of-numbered brings n (g.out j) ∙ ap (letters_of (of_number n)) (z j m);
          });
          toward = refl;
        })

    long : (b : ℕ) (d : Are w b first us) → first + length us ≡ (order (w.slot b)).next + length d.rest
    long b d =
        let n = d.next in
        let l = ap length d.parts in
        let m = length-append (delivered (w.slot b)) d.rest in
        omega (arith, n, l, m)

    issues_goes : (b : ℕ) (more : List U) → Are w b first us → order (v.slot g.k) ≡ order (w.slot g.k) →
        delivered (v.slot g.k) ≡ delivered (w.slot g.k) → carried_in brings (comes g.input) ≡ None
        → letters_of brings (g.out b) ≡ number_from (first + length us) more → ((j : ℕ) → (j ≡ b → ⊥) → letters_of brings (g.out j) ≡ []) →
        first + length us + length more ≤ 2 ^ 62 → Are v b first (us ++ more)
    issues_goes b more d eo es nh o z few =
        let ob = same_at order eo b in
        let sb = same_at delivered es b in
        let next = (order (w.slot b)).next in
        let number = first + length us in
        let is : number ≡ next + length d.rest = long b d in
        record {
          rest = d.rest ++ more;
          parts =
              ap (λ l. l ++ more) d.parts ∙ (append_assoc (delivered (w.slot b)) d.rest more ∙ ap (λ l. l ++ (d.rest ++ more)) (sym sb));
          next = ap (λ x. x.next) ob ∙ (d.next ∙ ap (λ l. first + length l) (sym sb));
          small = let l = length-append us more in omega (arith, l, few);
          in_order = subst IsInOrder (sym ob) d.in_order;
          life = λ n.
              let parted : item_at n (number_from next (d.rest ++ more))
              ≡ either (item_at n (number_from next d.rest)) (item_at n (number_from number more)) =
              ap (item_at n) (number_from-append next d.rest more ∙ ap (λ k. number_from next d.rest ++ number_from k more) (sym is))
              ∙ item_at-append n (number_from next d.rest) (number_from number more) in
              subst (λ x. Life (keeps n) (bears n) v b (item_at n (number_from x.next (d.rest ++ more)))) (sym ob)
              (subst (Life (keeps n) (bears n) v b) (sym parted)
              (issued_life b number n next d.rest more (item_at n (number_from number more)) refl is (d.life n) eo nh o z));
        }

    -- ---- at the node that delivers
    abbrev s_is : S
    s_is = w.slot g.k

    abbrev t_is : S
    t_is = v.slot g.k

    delivered_parts : (rest ys : List U) (u : U) → us ≡ delivered s_is ++ rest → rest ≡ u ∷ ys → delivered t_is ≡ delivered s_is ++ u ∷ [] →
        us ≡ delivered t_is ++ ys
    delivered_parts rest ys u p e f =
        p ∙ (ap (λ l. delivered s_is ++ l) e ∙ (sym (append_assoc (delivered s_is) (u ∷ []) ys) ∙ ap (λ l. l ++ ys) (sym f)))

    delivered_next : (u : U) → (order s_is).next ≡ first + length (delivered s_is) → (order t_is).next ≡ (order s_is).next + 1 →
        delivered t_is ≡ delivered s_is ++ u ∷ [] → (order t_is).next ≡ first + length (delivered t_is)
    delivered_next u p e f =
        let l = ap length f ∙ length-append (delivered s_is) (u ∷ []) in
        omega (arith, p, e, l)

    -- of the items that remain, the next one is delivered
    life_past : (n next : ℕ) (rest ys : List U) (u : U) → rest ≡ u ∷ ys → (n ≡ next → Nobody (keeps n) (bears n) v) →
        ((n ≡ next → ⊥) → Life (keeps n) (bears n) v g.k (item_at n (number_from next rest))) →
        Life (keeps n) (bears n) v g.k (item_at n (number_from (next + 1) ys))
    life_past n next rest ys u e a b = elim (cases_eq n next) [
      | inl h ↦ subst (Life (keeps n) (bears n) v g.k) (sym (item_early n (next + 1) ys (omega (arith, h)))) (a h)
      | inr m ↦ subst (Life (keeps n) (bears n) v g.k) (ap (λ l. item_at n (number_from next l)) e
          ∙ item_other n next u ys (λ x. m (sym x))) (b m)
    ]

    module _ (d : Are w g.k first us) where
      abbrev next_is : ℕ
      next_is = (order s_is).next

      offered_next : (n : ℕ) (u : U) → n ≡ next_is → item_at n (number_from next_is d.rest) ≡ Some u →
          carried_in brings (comes g.input) ≡ Some (n, u) → IsInOrder (after_offer (order s_is) n u) →
          order t_is ≡ after_offer (order s_is) n u → delivered t_is ≡ delivered s_is ++ at_once next_is n u → SendsNone brings g.out →
          Are v g.k first us
      offered_next n u at due i q eo es o =
          let new = eo ∙ offer_next (order s_is) n u at in
          let held_same = ap (λ x. x.held) new in
          let r = first_rest next_is u d.rest (subst (λ m. item_at m (number_from next_is d.rest) ≡ Some u) at due) in
          let line : delivered t_is ≡ delivered s_is ++ u ∷ [] =
          es ∙ ap (λ t. delivered s_is ++ cond t (u ∷ []) []) (eq-eqb n next_is at) in
          let up : (order t_is).next ≡ next_is + 1 = ap (λ x. x.next) new in
          record {
            rest = r.0;
            parts = delivered_parts d.rest r.0 u d.parts r.1 line;
            next = delivered_next u d.next up line;
            small = d.small;
            in_order = subst IsInOrder (sym eo) q;
            life =
                λ m. subst (λ x. Life (keeps m) (bears m) v g.k (item_at m (number_from x r.0))) (sym up)
                (life_past m next_is d.rest r.0 u r.1
                (λ e.
                let mn : m ≡ n = e ∙ sym at in
                let waits : Waits (keeps m) (bears m) w g.k u =
                subst (Life (keeps m) (bears m) w g.k) (ap (λ x. item_at x (number_from next_is d.rest)) mn ∙ due) (d.life m) in
                nobody_met (keeps m) (bears m) g waits.place u u waits.sole
                (bears_same m u (comes g.input) (i ∙ ap (λ x. Some (x, u)) (sym mn))) (ap (item_at m) held_same) (none_sent m g.out o))
                (λ e. life_still (keeps m) (bears m) g g.k (item_at m (number_from next_is d.rest)) (d.life m) (ap (item_at m) held_same)
                (bears_other m n u (comes g.input) (λ x. e (sym x ∙ at)) i) (none_sent m g.out o)));
          }

      offered_early : (n : ℕ) (u : U) → next_is < n → item_at n (number_from next_is d.rest) ≡ Some u → item_at n (order s_is).held ≡ None →
          carried_in brings (comes g.input) ≡ Some (n, u) → IsInOrder (after_offer (order s_is) n u) →
          order t_is ≡ after_offer (order s_is) n u → delivered t_is ≡ delivered s_is ++ at_once next_is n u → SendsNone brings g.out →
          Are v g.k first us
      offered_early n u more due free i q eo es o =
          let new = eo ∙ offer_early (order s_is) n u more in
          let held_is_now : (m : ℕ) → item_at m (order t_is).held ≡ cond (eqb m n) (Some u) (item_at m (order s_is).held) =
          λ m. ap (λ x. item_at m x.held) eo ∙ held_early (order s_is) n u m (not_some (item_at n (order s_is).held) free) more in
          let line : delivered t_is ≡ delivered s_is =
          es ∙ (ap (λ t. delivered s_is ++ cond t (u ∷ []) []) (ne_eqb n next_is (λ e. omega (arith, e, more)))
          ∙ append-nil (delivered s_is)) in
          let same : (order t_is).next ≡ next_is = ap (λ x. x.next) new in
          record {
            rest = d.rest;
            parts = d.parts ∙ ap (λ l. l ++ d.rest) (sym line);
            next = same ∙ (d.next ∙ ap (λ l. first + length l) (sym line));
            small = d.small;
            in_order = subst IsInOrder (sym eo) q;
            life = λ m. subst (λ x. Life (keeps m) (bears m) v g.k (item_at m (number_from x d.rest))) (sym same) (elim (cases_eq m n) [
              | inl e ↦
                  let is : item_at m (number_from next_is d.rest) ≡ Some u = ap (λ x. item_at x (number_from next_is d.rest)) e ∙ due in
                  let waits : Waits (keeps m) (bears m) w g.k u = subst (Life (keeps m) (bears m) w g.k) is (d.life m) in
                  let here : item_at m (order t_is).held ≡ Some u =
                  held_is_now m ∙ ap (λ t. cond t (Some u) (item_at m (order s_is).held)) (eq-eqb m n e) in
                  subst (Life (keeps m) (bears m) v g.k) (sym is) (record {
                    place = In g.k;
                    sole =
                        sole_landed (keeps m) (bears m) g waits.place u u u waits.sole
                        (bears_same m u (comes g.input) (i ∙ ap (λ x. Some (x, u)) (sym e))) here (none_sent m g.out o);
                    toward = refl;
                  })
              | inr e ↦ life_still (keeps m) (bears m) g g.k (item_at m (number_from next_is d.rest)) (d.life m) (held_is_now m
                  ∙ ap (λ t. cond t (Some u) (item_at m (order s_is).held)) (ne_eqb m n e))
                  (bears_other m n u (comes g.input) (λ x. e (sym x)) i) (none_sent m g.out o)
            ]);
          }

      offered_here : (n : ℕ) (u : U) → carried_in brings (comes g.input) ≡ Some (n, u) → order t_is ≡ after_offer (order s_is) n u →
          delivered t_is ≡ delivered s_is ++ at_once next_is n u → SendsNone brings g.out → Are v g.k first us
      offered_here n u i eo es o =
          let met =
          met_is (keeps n) (bears n) g g.k (item_at n (number_from next_is d.rest)) u (d.life n) (bears_same n u (comes g.input) i) in
          let waits : Waits (keeps n) (bears n) w g.k u = subst (Life (keeps n) (bears n) w g.k) met.0 (d.life n) in
          let free = met_free (keeps n) (bears n) g g.k u u waits (bears_same n u (comes g.input) i) in
          let bounds = item_bounds n next_is u d.rest met.0 in
          let low = bounds.0 in
          let high = bounds.1 in
          let size = long g.k d in
          let limit = d.small in
          let few : n < 2 ^ 62 = omega (arith, high, size, limit) in
          let q = order_after_offer (order s_is) n u d.in_order few (not_some (item_at n (order s_is).held) free) in
          elim (cases_eq n next_is) [
            | inl e ↦ offered_next n u e met.0 i q eo es o
            | inr e ↦ offered_early n u (let m : n ≡ next_is → ⊥ = e in grind (arith, low, m)) met.0 free i q eo es o
          ]

      given_here : (u : U) → next_item (order s_is) ≡ Some u → order t_is ≡ after_taking (order s_is) →
          delivered t_is ≡ delivered s_is ++ u ∷ [] → carried_in brings (comes g.input) ≡ None → SendsNone brings g.out → Are v g.k first us
      given_here u due eo line nh o =
          let has =
          held_is (keeps next_is) (bears next_is) w g.k g.k (item_at next_is (number_from next_is d.rest)) u (d.life next_is) due in
          let r = first_rest next_is u d.rest has.0 in
          let up : (order t_is).next ≡ next_is + 1 = ap (λ x. x.next) (eo ∙ ap (after_item (order s_is)) due) in
          let held_now : (m : ℕ) → item_at m (order t_is).held ≡ cond (eqb m next_is) None (item_at m (order s_is).held) =
          λ m. ap (λ x. item_at m x.held) eo ∙ held_taken (order s_is) m d.in_order in
          record {
            rest = r.0;
            parts = delivered_parts d.rest r.0 u d.parts r.1 line;
            next = delivered_next u d.next up line;
            small = d.small;
            in_order = subst IsInOrder (sym eo) (order_after_taking (order s_is) d.in_order);
            life =
                λ m. subst (λ x. Life (keeps m) (bears m) v g.k (item_at m (number_from x r.0))) (sym up)
                (life_past m next_is d.rest r.0 u r.1
                (λ e.
                let waits : Waits (keeps m) (bears m) w g.k u =
                subst (Life (keeps m) (bears m) w g.k) (ap (λ x. item_at x (number_from next_is d.rest)) e ∙ has.0) (d.life m) in
                nobody_ends (keeps m) (bears m) g waits.place u u waits.sole (ap (λ x. item_at x (order s_is).held) e ∙ due) (held_now m
                ∙ ap (λ t. cond t None (item_at m (order s_is).held)) (eq-eqb m next_is e)) (bears_none m (comes g.input) nh)
                (none_sent m g.out o))
                (λ e. life_still (keeps m) (bears m) g g.k (item_at m (number_from next_is d.rest)) (d.life m) (held_now m
                ∙ ap (λ t. cond t None (item_at m (order s_is).held)) (ne_eqb m next_is e)) (bears_none m (comes g.input) nh)
                (none_sent m g.out o)));
          }

    abbrev Step : ℕ → Type 0
    Step b = Passes order delivered brings b (first + length us) (w.slot g.k) (comes g.input) (v.slot g.k) g.out

    -- whatever a step does with the items, they stay in order
    pub delivery_goes : (b : ℕ) → Are w b first us → (p : Step b) → Are v b first (us ++ more_issued p)
    delivery_goes b d (rests eo es nh o) = subst (Are v b first) (sym (append-nil us)) (rests_goes b d eo es nh o)
    delivery_goes b d (issues more eo es nh o z few) = issues_goes b more d eo es nh o z few
    delivery_goes b d (offers n u i eo es o) =
        let at =
        (met_is (keeps n) (bears n) g b (item_at n (number_from (order (w.slot b)).next d.rest)) u (d.life n)
        (bears_same n u (comes g.input) i)).1 in
        subst (λ x. Are v x first (us ++ [])) at
        (subst (Are v g.k first) (sym (append-nil us)) (offered_here (subst (λ x. Are w x first us) (sym at) d) n u i eo es o))
    delivery_goes b d (gives u due eo line nh o) =
        let n = (order (w.slot g.k)).next in
        let at = (held_is (keeps n) (bears n) w b g.k (item_at n (number_from (order (w.slot b)).next d.rest)) u (d.life n) due).1 in
        subst (λ x. Are v x first (us ++ [])) at
        (subst (Are v g.k first) (sym (append-nil us)) (given_here (subst (λ x. Are w x first us) (sym at) d) u due eo line nh o))

  nowhere : (w : Flow S L) (b n : ℕ) (u : U) (p : TokenPlace) → Sole (keeps n) (bears n) w p u → IsToward b p →
      ((x : ℕ) → w.mail x b ≡ []) →
      keeps n (w.slot b) ≡ None → ⊥
  nowhere w b n u (In k) h d m e = let here = ap (λ j. keeps n (w.slot j)) (sym d) ∙ h.here in cc
  nowhere w b n u (On x y) h d m e =
      let here = sym h.here ∙ (ap (λ j. letters_of (bears n) (w.mail x j)) d ∙ ap (letters_of (bears n)) (m x)) in
      cc

  -- with nothing on its way and nothing to be delivered, all that was issued was delivered
  all_by : (w : Flow S L) (b next : ℕ) (rest : List U) → (order (w.slot b)).next ≡ next →
      Life (keeps next) (bears next) w b (item_at next (number_from next rest)) → ((x : ℕ) → w.mail x b ≡ []) →
      next_item (order (w.slot b)) ≡ None → rest ≡ []
  all_by w b next [] e h m n = refl
  all_by w b next (u ∷ us) e h m n =
      let waits : Waits (keeps next) (bears next) w b u = subst (Life (keeps next) (bears next) w b) (item_first next u us) h in
      let held_none : keeps next (w.slot b) ≡ None = subst (λ k. keeps k (w.slot b) ≡ None) e n in
      absurd (nowhere w b next u waits.place waits.sole waits.toward m held_none)

  pub all_delivered : (w : Flow S L) (b first : ℕ) (us : List U) → Are w b first us → ((x : ℕ) → w.mail x b ≡ []) →
      next_item (order (w.slot b)) ≡ None → delivered (w.slot b) ≡ us
  all_delivered w b first us d m n =
      let none = all_by w b (order (w.slot b)).next d.rest refl (d.life (order (w.slot b)).next) m n in
      sym (d.parts ∙ (ap (λ l. delivered (w.slot b) ++ l) none ∙ append-nil (delivered (w.slot b))))

  -- where nothing was issued, and nothing is held or on its way, the delivery can begin
  pub delivery_starts : (w : Flow S L) (b first : ℕ) → 1 ≤ first → first ≤ 2 ^ 62 → (order (w.slot b)).next ≡ first →
      delivered (w.slot b) ≡ [] → ((j : ℕ) → (order (w.slot j)).held ≡ []) → ((x y : ℕ) → letters_of brings (w.mail x y) ≡ []) →
      Are w b first []
  delivery_starts w b first low few at none held_none empty = record {
    rest = [];
    parts = sym (append-nil (delivered (w.slot b)) ∙ none);
    next = at ∙ (omega arith ∙ ap (λ l. first + length l) (sym none));
    small = omega (arith, few);
    in_order = record {
      from_one = omega (arith, at, low);
      small = omega (arith, at, few);
      rising = subst (RiseFrom (order (w.slot b)).next) (sym (held_none b)) tt;
    };
    life = λ n. record {
      slots = λ j. ap (item_at n) (held_none j);
      mail = λ x y. letters_of-numbered brings n (w.mail x y) ∙ ap (letters_of (of_number n)) (empty x y);
    };
  }
