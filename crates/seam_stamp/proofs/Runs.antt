-- A move that comes first is an event of the net, and the rest fits the net after it.
use Rattle.std.proofs.Common.{◌≡◌, ◌≢◌, ℕ, ◌<◌, Bool, true, false, List, [], ◌∷◌, ◌++◌, length, Option, None, Some, drop, refl, sym, ap}
use Rattle.std.proofs.Common.{◌∙◌, subst, arith, eqb, cond, ◌&&◌, inl, inr, append_assoc}
use Rattle.std.specs.Prelude.{slice_get}
use Rattle.std.proofs.lemmas.Bool.{cases_eq}
use Rattle.std.proofs.lemmas.List.{append-nil}
use Rattle.seam_machine.specs.Views.{Stepped, NetView}
use Rattle.seam_machine.specs.Nets.{link, enabled, happens, input_from, letter, is_ready}
use Rattle.seam_machine.specs.Sends.{items_to, AllBelow}
use Rattle.seam_machine.specs.Events.{Occurs, link_left, link_added}
use Rattle.seam_machine.proofs.SendLemmas.{items_to-append}
use Rattle.seam_machine.proofs.Occurring.{square-happens, length-happens}
use Rattle.seam_machine.proofs.Occurring.{node_here, node_there}
use Rattle.seam_net_runs.proofs.Keeping.{link_is_exact}
use Rattle.seam_machine.specs.declared.machines.Input.{Input}
use Rattle.seam_machine.specs.declared.machines.Event.{Event}
use Rattle.seam_stamp.specs.declared.Letter.{Letter}
use Rattle.seam_stamp.specs.Acts.{Act, received, state_after, sends, Legal, event_by, items, stamped, taken_by, input_by, from_by, stamp_by}
use Rattle.seam_stamp.specs.Acts.{may_do}
use Rattle.seam_stamp.specs.Moves.{Move, own, Rises, Fits, IsRun}
use Rattle.seam_stamp.proofs.Moves.{eq_yes, eq_no, cancel, items_append, items_drop, items_stamped, own_here, own_other, late_sends}
use Rattle.seam_stamp.proofs.Moves.{late_own, first_of_links}

-- a function changed at one number
abbrev pub changed : {X : Type 0} → (ℕ → X) → ℕ → X → ℕ → X
changed f k v j = cond (eqb j k) v (f j)

pub changed_here : {X : Type 0} (f : ℕ → X) (k : ℕ) (v : X) (j : ℕ) → j ≡ k → changed f k v j ≡ v
changed_here f k v j e = ap (λ y. cond y v (f j)) (eq_yes j k e)

pub changed_other : {X : Type 0} (f : ℕ → X) (k : ℕ) (v : X) (j : ℕ) → j ≢ k → changed f k v j ≡ f j
changed_other f k v j e = ap (λ y. cond y v (f j)) (eq_no j k e)

-- what node b takes from the link from p to q
abbrev pub goes : {M : Type 0} → ℕ → Option (ℕ × Letter M) → ℕ → ℕ → List (Letter M)
goes b took p q = cond (eqb q b) (taken_by p took) []

-- what node b adds to the link from p to q
abbrev pub comes : {M : Type 0} → ℕ → List (ℕ × Letter M) → ℕ → ℕ → List (Letter M)
comes b sent p q = cond (eqb p b) (items_to q sent) []

goes_here : {M : Type 0} (b : ℕ) (took : Option (ℕ × Letter M)) (p q : ℕ) → q ≡ b → goes b took p q ≡ taken_by p took
goes_here b took p q e = ap (λ y. cond y (taken_by p took) []) (eq_yes q b e)

goes_other : {M : Type 0} (b : ℕ) (took : Option (ℕ × Letter M)) (p q : ℕ) → q ≢ b → goes b took p q ≡ []
goes_other b took p q e = ap (λ y. cond y (taken_by p took) []) (eq_no q b e)

comes_here : {M : Type 0} (b : ℕ) (sent : List (ℕ × Letter M)) (p q : ℕ) → p ≡ b → comes b sent p q ≡ items_to q sent
comes_here b sent p q e = ap (λ y. cond y (items_to q sent) []) (eq_yes p b e)

comes_other : {M : Type 0} (b : ℕ) (sent : List (ℕ × Letter M)) (p q : ℕ) → p ≢ b → comes b sent p q ≡ []
comes_other b sent p q e = ap (λ y. cond y (items_to q sent) []) (eq_no p b e)

taken_other : {M : Type 0} (p a : ℕ) (l : Letter M) → a ≢ p → taken_by p (Some (a, l)) ≡ []
taken_other p a l e = ap (λ y. cond y (l ∷ []) []) (eq_no a p e)

taken_here : {M : Type 0} (p a : ℕ) (l : Letter M) → a ≡ p → taken_by p (Some (a, l)) ≡ l ∷ []
taken_here p a l e = ap (λ y. cond y (l ∷ []) []) (eq_yes a p e)

-- what is left of a link
left_by_move : {M : Type 0} (rows : List (List (List M))) (b : ℕ) (took : Option (ℕ × Letter M)) (p q : ℕ) →
    link_left rows b (from_by took) p q ≡ drop (length (goes b took p q)) (link rows p q)
left_by_move rows b None p q = elim (cases_eq q b) [ inl e ↦ rw (goes_here b None p q e) refl | inr e ↦ rw (goes_other b None p q e) refl ]
left_by_move rows b (Some t) p q = elim (cases_eq q b) [
  | inl e ↦ elim (cases_eq p t.0) [
    | inl f ↦ rw (goes_here b (Some t) p q e, taken_here p t.0 t.1 (sym f), eq_yes p t.0 f, eq_yes q b e) refl
    | inr f ↦ rw (goes_here b (Some t) p q e, taken_other p t.0 t.1 (λ g. f (sym g)), eq_no p t.0 f) refl
  ]
  | inr e ↦ elim (eqb p t.0) as (λ y. cond (y && eqb q b) (drop 1 (link rows p q)) (link rows p q)
      ≡ drop (length (goes b (Some t) p q)) (link rows p q)) [
        | true ↦ rw (goes_other b (Some t) p q e, eq_no q b e) refl
        | false ↦ rw (goes_other b (Some t) p q e) refl
      ]
]

-- what a node added to a link
added_by_move : {M : Type 0} (b t : ℕ) (sent : List (ℕ × M)) (p q : ℕ) → link_added b sent p q ≡ items (comes b (stamped t sent) p q)
added_by_move b t sent p q =
    elim (eqb p b) as (λ y. cond y (items_to q sent) [] ≡ items (cond y (items_to q (stamped t sent)) []))
    [ true ↦ sym (items_stamped t q sent) | false ↦ refl ]

module _ {N M : Type 0} (has_work : N → Bool) (steps : N → Input M → Stepped N M) (n : ℕ) (w : NetView N M) (start : ℕ → N) (last : ℕ → ℕ)
    (first rest : ℕ → ℕ → List (Letter M)) (x : Move M) (xs : List (Move M)) (low : ℕ)
    (fits : Fits has_work steps n w start last first rest (x ∷ xs)) (rises : Rises n low (x ∷ xs)) where
  abbrev b : ℕ
  b = x.node

  abbrev d : Act M
  d = x.act

  abbrev t : Stepped N M
  t = steps (start b) (input_by d.took)

  abbrev e : Event
  e = event_by b d

  here : Legal has_work steps n (last b) (start b) (d ∷ own b xs)
  here = subst (Legal has_work steps n (last b) (start b)) (own_here x xs b refl) (fits.legal b rises.1)

  received_by_move : (p q : ℕ) → received p (own q (x ∷ xs)) ≡ goes b d.took p q ++ received p (own q xs)
  received_by_move p q = elim (cases_eq b q) [
    | inl f ↦ rw (own_here x xs q f, goes_here b d.took p q (sym f)) refl
    | inr f ↦ rw (own_other x xs q f, goes_other b d.took p q (λ g. f (sym g))) refl
  ]

  abbrev start' : ℕ → N
  start' = changed start b t.state

  sends_by_move : (p q : ℕ) → items_to q (sends steps (start p) (own p (x ∷ xs)))
      ≡ comes b (stamped d.stamp t.sent) p q ++ items_to q (sends steps (start' p) (own p xs))
  sends_by_move p q = elim (cases_eq p b) [
    | inl f ↦
        let one = ap (λ j. items_to q (sends steps (start j) (own j (x ∷ xs)))) f in
        let two = ap (λ ds. items_to q (sends steps (start b) ds)) (own_here x xs b refl) in
        let three = items_to-append q (stamped d.stamp t.sent) (sends steps t.state (own b xs)) in
        let four = ap (λ s. items_to q (sends steps s (own p xs))) (changed_here start b t.state p f) in
        rw (comes_here b (stamped d.stamp t.sent) p q f, four) (one
        ∙ (two ∙ (three ∙ ap (λ j. items_to q (stamped d.stamp t.sent) ++ items_to q (sends steps t.state (own j xs))) (sym f))))
    | inr f ↦
        let four = ap (λ s. items_to q (sends steps s (own p xs))) (changed_other start b t.state p f) in
        rw (comes_other b (stamped d.stamp t.sent) p q f, four, own_other x xs p (λ g. f (sym g))) refl
  ]

  taken_first : (took : Option (ℕ × Letter M)) → d.took ≡ took → (p q : ℕ) → p < n → q < n → q ≡ b →
      first p q ≡ taken_by p took ++ drop (length (taken_by p took)) (first p q)
  taken_first None k p q lp lq f = refl
  taken_first (Some s) k p q lp lq f = elim (cases_eq s.0 p) [
    | inl g ↦
        let l = s.1 in
        let one : goes b d.took p q ≡ l ∷ [] = goes_here b d.took p q f ∙ (ap (taken_by p) k ∙ taken_here p s.0 l g) in
        let sent = items_to q (sends steps (start p) (own p (x ∷ xs))) in
        let all : l ∷ (received p (own q xs) ++ rest p q) ≡ first p q ++ sent =
        ap (λ z. z ++ received p (own q xs) ++ rest p q) (sym one)
        ∙ (ap (λ z. z ++ rest p q) (sym (received_by_move p q)) ∙ fits.passed p q lp lq) in
        let late =
        late_sends steps d.stamp q (start p) (own p (x ∷ xs))
        (late_own n d.stamp d.stamp p (x ∷ xs) (omega arith) (omega arith, rises.1, rises.2)) in
        let lt : l.stamp < d.stamp = omega (arith, here.1, ap stamp_by k) in
        rw (taken_here p s.0 l g) (first_of_links l d.stamp (received p (own q xs) ++ rest p q) (first p q) sent lt late all)
    | inr g ↦ rw (taken_other p s.0 s.1 g) refl
  ]

  first_is : (p q : ℕ) → p < n → q < n → first p q ≡ goes b d.took p q ++ drop (length (goes b d.took p q)) (first p q)
  first_is p q lp lq = elim (cases_eq q b) [
    | inl f ↦ rw (goes_here b d.took p q f) (taken_first d.took refl p q lp lq f)
    | inr f ↦ rw (goes_other b d.took p q f) refl
  ]

  abbrev first' : ℕ → ℕ → List (Letter M)
  first' p q = drop (length (goes b d.took p q)) (first p q) ++ comes b (stamped d.stamp t.sent) p q

  may_take : (a : ℕ) (l : Letter M) → d.took ≡ Some (a, l) → a < n
  may_take a l k = subst (λ o. may_do has_work n (start b) o) k here.2

  fed_is : (took : Option (ℕ × Letter M)) → d.took ≡ took → input_from w.rows b (from_by took) ≡ Some (input_by took)
  fed_is None k = refl
  fed_is (Some s) k =
      let one = taken_first (Some s) k s.0 b (may_take s.0 s.1 k) rises.1 refl in
      let two : link w.rows s.0 b ≡ s.1.item ∷ items (drop (length (taken_by s.0 (Some s))) (first s.0 b)) =
      fits.links s.0 b (may_take s.0 s.1 k) rises.1
      ∙ (ap items one ∙ ap (λ z. items (z ++ drop (length (taken_by s.0 (Some s))) (first s.0 b))) (taken_here s.0 s.0 s.1 refl)) in
      ap (letter s.0) two

  abbrev occurs_now : Occurs w e
  occurs_now = record { node = start b; input = input_by d.took; is_node = fits.nodes b rises.1; is_fed = fed_is d.took refl }

  ready : (took : Option (ℕ × Letter M)) → may_do has_work n (start b) took →
      is_ready has_work (Some (start b)) (Some (input_by took)) ≡ true
  ready None h = h
  ready (Some s) h = refl

  enabled_now : enabled has_work w e ≡ true
  enabled_now = rw (fits.nodes b rises.1, fed_is d.took refl) (ready d.took here.2)

  abbrev w' : NetView N M
  w' = happens steps w e

  nodes_after : (k : ℕ) → k < n → slice_get w'.nodes k ≡ Some (start' k)
  nodes_after k lt = elim (cases_eq k b) [
    | inl f ↦ rw (changed_here start b t.state k f, f) (node_here steps w e occurs_now)
    | inr f ↦ rw (changed_other start b t.state k f) (node_there steps w e occurs_now k f ∙ fits.nodes k lt)
  ]

  below : AllBelow (length w.nodes) t.sent
  below = subst (λ m. AllBelow m t.sent) (sym fits.count) here.3

  links_after : (p q : ℕ) → p < n → q < n → link w'.rows p q ≡ items (first' p q)
  links_after p q lp lq =
      let got = drop (length (goes b d.took p q)) (first p q) in
      let more = comes b (stamped d.stamp t.sent) p q in
      let left : link_left w.rows b (from_by d.took) p q ≡ items got =
      left_by_move w.rows b d.took p q ∙ (ap (drop (length (goes b d.took p q))) (fits.links p q lp lq)
      ∙ sym (items_drop (length (goes b d.took p q)) (first p q))) in
      link_is_exact steps w e occurs_now fits.square below p q
      ∙ (ap (λ z. z ++ link_added b t.sent p q) left
      ∙ (ap (λ z. items got ++ z) (added_by_move b d.stamp t.sent p q) ∙ sym (items_append got more)))

  abbrev last' : ℕ → ℕ
  last' = changed last b d.stamp

  legal_after : (k : ℕ) → k < n → Legal has_work steps n (last' k) (start' k) (own k xs)
  legal_after k lt = elim (cases_eq k b) [
    | inl f ↦ rw (changed_here last b d.stamp k f, changed_here start b t.state k f, f) here.4
    | inr f ↦ rw (changed_other last b d.stamp k f, changed_other start b t.state k f)
        (subst (Legal has_work steps n (last k) (start k)) (own_other x xs k (λ g. f (sym g))) (fits.legal k lt))
  ]

  passed_after : (p q : ℕ) → p < n → q < n → received p (own q xs) ++ rest p q
      ≡ first' p q ++ items_to q (sends steps (start' p) (own p xs))
  passed_after p q lp lq =
      let g = goes b d.took p q in
      let left = drop (length g) (first p q) in
      let more = comes b (stamped d.stamp t.sent) p q in
      let later = items_to q (sends steps (start' p) (own p xs)) in
      let one : g ++ (received p (own q xs) ++ rest p q) ≡ first p q ++ (more ++ later) =
      sym (append_assoc g (received p (own q xs)) (rest p q))
      ∙ (ap (λ z. z ++ rest p q) (sym (received_by_move p q))
      ∙ (fits.passed p q lp lq ∙ ap (λ z. first p q ++ z) (sends_by_move p q))) in
      let two : first p q ++ (more ++ later) ≡ g ++ (left ++ (more ++ later)) =
      ap (λ z. z ++ (more ++ later)) (first_is p q lp lq) ∙ append_assoc g left (more ++ later) in
      cancel g (received p (own q xs) ++ rest p q) (left ++ (more ++ later)) (one ∙ two) ∙ sym (append_assoc left more later)

  pub fits_after : Fits has_work steps n w' start' last' first' rest xs
  fits_after = record {
    square = square-happens steps w e occurs_now fits.square;
    count = length-happens steps w e occurs_now ∙ fits.count;
    nodes = nodes_after;
    links = links_after;
    legal = legal_after;
    passed = passed_after;
  }

  pub run_after : IsRun has_work steps n w' start' rest xs → IsRun has_work steps n w start rest (x ∷ xs)
  run_after r = record {
    enabled = (enabled_now, r.enabled);
    nodes = λ k lt. r.nodes k lt ∙ ap Some (elim (cases_eq k b) [
      | inl f ↦ ap (λ s. state_after steps s (own k xs)) (changed_here start b t.state k f)
          ∙ sym (ap (λ j. state_after steps (start j) (own j (x ∷ xs))) f
          ∙ (ap (state_after steps (start b)) (own_here x xs b refl) ∙ ap (λ j. state_after steps t.state (own j xs)) (sym f)))
      | inr f ↦ ap (λ s. state_after steps s (own k xs)) (changed_other start b t.state k f)
          ∙ sym (ap (state_after steps (start k)) (own_other x xs k (λ g. f (sym g))))
    ]);
    links = r.links;
  }

-- the law
pub moves_are_run : {N M : Type 0} (has_work : N → Bool) (steps : N → Input M → Stepped N M) (n : ℕ) (w : NetView N M) (start : ℕ → N)
    (last : ℕ → ℕ) (first rest : ℕ → ℕ → List (Letter M)) (xs : List (Move M)) (low : ℕ) →
    Fits has_work steps n w start last first rest xs → Rises n low xs → IsRun has_work steps n w start rest xs
moves_are_run has_work steps n w start last first rest [] low fits rises = record {
  enabled = tt;
  nodes = fits.nodes;
  links = λ a b la lb. fits.links a b la lb ∙ ap items (sym (fits.passed a b la lb ∙ append-nil (first a b)));
}
moves_are_run has_work steps n w start last first rest (x ∷ xs) low fits rises =
    run_after has_work steps n w start last first rest x xs low fits rises
    (moves_are_run has_work steps n (w' has_work steps n w start last first rest x xs low fits rises)
    (start' has_work steps n w start last first rest x xs low fits rises)
    (last' has_work steps n w start last first rest x xs low fits rises)
    (first' has_work steps n w start last first rest x xs low fits rises) rest xs x.act.stamp
    (fits_after has_work steps n w start last first rest x xs low fits rises) rises.2)
