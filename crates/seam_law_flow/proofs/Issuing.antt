-- A call that is made up in a round waits, once, and the calls before it stay in turn.
use Rattle.std.proofs.Common.{◌≡◌, ℕ, ◌+◌, ◌<◌, ◌≤◌, ◌^◌, cond, eqb, List, [], ◌∷◌, ◌++◌, length, Option, None, Some, refl, sym, ap, ◌∙◌}
use Rattle.std.proofs.Common.{subst, arith, inl, inr}
use Rattle.std.proofs.lemmas.Bool.{cases_eq, eq-eqb, ne_eqb}
use Rattle.std.proofs.lemmas.List.{append_assoc, length-append}
use Rattle.seam_law_flow.specs.Flows.{Flow, Goes, comes, letters_of, more_letter}
use Rattle.seam_order.specs.Held.{item_at}
use Rattle.seam_law_flow.specs.Tokens.{carried_in, TokenPlace, On, Sole, Nobody, SendsNone, SendsOne}
use Rattle.seam_law_flow.specs.Numbered.{number_from, of_number}
use Rattle.seam_law_flow.specs.Desks.{Desk, Post, Mail, Item, kept_at, borne, packed, keeps, bears, desk_of, parcel_of, WaitsOnce, InTurn}
use Rattle.seam_law_flow.specs.Desks.{AreInTurn}
use Rattle.seam_law_flow.specs.CallMoves.{Only}
use Rattle.seam_law_flow.specs.Issues.{Issues}
use Rattle.seam_law_flow.proofs.TokenLemmas.{sole_still, same_mail, same_held}
use Rattle.seam_law_flow.proofs.Lives.{sole_born}
use Rattle.seam_law_flow.proofs.Lasting.{lasts_still}
use Rattle.seam_law_flow.proofs.Numbers.{either, item_late, item_first, item_other, item_at-append, number_from-append}

module _ {U : Type 0} where
  number_same : (n : ℕ) (u : U) (m : ℕ) → n ≡ m → of_number m (n, u) ≡ Some u
  number_same n u m e = ap (λ t. cond t (Some u) None) (eq-eqb n m e)

  number_other : (n : ℕ) (u : U) (m : ℕ) → (n ≡ m → ⊥) → of_number m (n, u) ≡ None
  number_other n u m e = ap (λ t. cond t (Some u) None) (ne_eqb n m e)

  either_none : (o x : Option U) → x ≡ None → either o x ≡ o
  either_none None x e = e
  either_none (Some u) x e = refl

  either_some : (o x : Option U) → o ≡ None → either o x ≡ x
  either_some None x e = refl
  either_some (Some u) x e = cc

  module _ {w v : Flow (Post U) (Mail U)} (first : ℕ) (batch : List U) (u : U) (g : Goes (Issues (first + length batch) u) w v) where
    abbrev number : ℕ
    number = first + length batch

    abbrev m : Issues (first + length batch) u g.k (w.slot g.k) (comes g.input) (v.slot g.k) g.out
    m = g.moves

    quiet : {R : Type 0} (f : Mail U → Option R) → carried_in f (comes g.input) ≡ None
    quiet f = ap (carried_in f) m.nothing

    sent_here : {R : Type 0} (f : Mail U → Option R) (o : Option R) → f (Item number u) ≡ o → letters_of f (g.out m.to) ≡ more_letter o []
    sent_here f o e = ap (letters_of f) m.only.here ∙ ap (λ x. more_letter x []) e

    sent_there : {R : Type 0} (f : Mail U → Option R) (j : ℕ) → (j ≡ m.to → ⊥) → letters_of f (g.out j) ≡ []
    sent_there f j n = ap (letters_of f) (m.only.others j n)

    sends_none : {R : Type 0} (f : Mail U → Option R) → f (Item number u) ≡ None → SendsNone f g.out
    sends_none f e j = elim (cases_eq j m.to) [ inl h ↦ rw h (sent_here f None e) | inr n ↦ sent_there f j n ]

    sends_one : {R : Type 0} (f : Mail U → Option R) (r : R) → f (Item number u) ≡ Some r → SendsOne f g.out m.to r
    sends_one f r e = record { here = sent_here f (Some r) e; others = λ j n. sent_there f j n }

    -- those of other numbers wait as before
    still : (n : ℕ) (o : Option U) → (number ≡ n → ⊥) → WaitsOnce w n o → WaitsOnce v n o
    still n o h x =
        lasts_still (keeps n) (bears n) g _ x (ap (keeps n) m.same) (quiet (bears n))
        (sends_none (bears n) (ap (λ y. packed (more_letter y [])) (number_other number u n h)))

    -- of its own number none waited, and now it does, on its way
    born : (n : ℕ) → number ≡ n → WaitsOnce w n None → WaitsOnce v n (Some u)
    born n h x = record {
      place = On g.k m.to;
      sole = sole_born (keeps n) (bears n) g x (ap (keeps n) m.same) (quiet (bears n)) m.to (u ∷ [])
          (sends_one (bears n) (u ∷ []) (ap (λ y. packed (more_letter y [])) (number_same number u n h)));
    }

    module _ (place : TokenPlace) (d : Desk U) (b : InTurn first batch w place d) where
      long : first + length batch ≡ d.order.next + length b.rest
      long =
          let n = b.next in
          let l = ap length b.parts in
          let s = length-append d.done b.rest in
          omega (arith, n, l, s)

      life_by : (n : ℕ) → WaitsOnce v n (item_at n (number_from d.order.next (b.rest ++ u ∷ [])))
      life_by n =
          let next = d.order.next in
          let parted : item_at n (number_from next (b.rest ++ u ∷ []))
          ≡ either (item_at n (number_from next b.rest)) (item_at n (number_from number (u ∷ []))) =
          ap (item_at n) (number_from-append next b.rest (u ∷ []) ∙ ap (λ k. number_from next b.rest ++ number_from k (u ∷ [])) (sym long))
          ∙ item_at-append n (number_from next b.rest) (number_from number (u ∷ [])) in
          subst (WaitsOnce v n) (sym parted) (elim (cases_eq number n) [
            | inl h ↦
                let none : item_at n (number_from next b.rest) ≡ None = let l = long in item_late n next b.rest (omega (arith, h, l)) in
                let own : item_at n (number_from number (u ∷ [])) ≡ Some u =
                subst (λ k. item_at k (number_from number (u ∷ [])) ≡ Some u) h (item_first number u []) in
                subst (WaitsOnce v n) (sym (either_some (item_at n (number_from next b.rest)) (item_at n (number_from number (u ∷ []))) none
                ∙ own)) (born n h (subst (WaitsOnce w n) none (b.life n)))
            | inr h ↦
                let other : item_at n (number_from number (u ∷ [])) ≡ None = item_other n number u [] h in
                subst (WaitsOnce v n)
                (sym (either_none (item_at n (number_from next b.rest)) (item_at n (number_from number (u ∷ []))) other))
                (still n (item_at n (number_from next b.rest)) h (b.life n))
          ])

      pub issued_in_turn : number + 1 < 2 ^ 62 → InTurn first (batch ++ u ∷ []) v place d
      issued_in_turn few = record {
        sole = sole_still desk_of parcel_of w v place d b.sole (same_held desk_of parcel_of g (ap desk_of m.same))
            (same_mail desk_of parcel_of g (quiet parcel_of) (sends_none parcel_of refl));
        rest = b.rest ++ u ∷ [];
        parts = ap (λ l. l ++ u ∷ []) b.parts ∙ append_assoc d.done b.rest (u ∷ []);
        next = b.next;
        small = let l = length-append batch (u ∷ []) in omega (arith, l, few);
        in_order = b.in_order;
        life = life_by;
      }

    pub issue_goes : number + 1 < 2 ^ 62 → AreInTurn first batch w → AreInTurn first (batch ++ u ∷ []) v
    issue_goes few h = record { place = h.place; desk = h.desk; in_turn = issued_in_turn h.place h.desk h.in_turn few }
