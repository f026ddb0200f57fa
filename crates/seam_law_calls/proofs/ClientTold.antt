-- Each step of a node is one of the moves of a client's updates: some are issued by the witness, one is offered, or one that was held is
-- shown; and how many the witness told is known after it.
use Rattle.seam_law_calls.proofs.Prelude.{◌≡◌, ℕ, ◌+◌, ◌<◌, cond, is_some, List, [], ◌∷◌, ◌++◌, length, ◌⊎◌, Option, None, Some, refl, sym}
use Rattle.seam_law_calls.proofs.Prelude.{ap, ◌∙◌, subst, arith, inl, inr, true, Bool, false, option_map, AllByRecursion, nat_cmp}
use Rattle.seam_law_calls.proofs.Prelude.{match_ordering, Ordering, Less, Equal, Greater, eq-eqb, ne_eqb, nat_tests, append-nil, items_to}
use Rattle.seam_law_calls.proofs.Prelude.{with_item, after_offer, after_taking, next_item, Order, Shown, RealView, Boundaries, Msg, Hand}
use Rattle.seam_law_calls.proofs.Prelude.{Update, Here, cell_count, PartView, ProxyView, line_if, base_text, offered_update, shows_next}
use Rattle.seam_law_calls.proofs.Prelude.{numbered, letters_of, IsSilent, carried_in, SendsNone, at_once, more_issued, number_from, Frame}
use Rattle.seam_law_calls.proofs.Prelude.{here_at, Has, Moves, at_a_cell, at_a_base, real_in, real_of, update_in, told, Missed, sent_of}
use Rattle.seam_law_calls.proofs.Prelude.{sent_by, WitnessMoves, home_of, with_number, tells, proxy_of, order_in, updates_at, shown_in}
use Rattle.seam_law_calls.proofs.Prelude.{lines_in, shown_at, letters_of-append, all_append, sees_none, items_fit}
use Rattle.seam_law_flow.specs.Deliveries.{Passes}
use Rattle.seam_law_flow.specs.Deliveries as pass
use Rattle.seam_call.specs.declared.order.Order.TheVariants as order
use Rattle.seam_call.specs.declared.shown.Update.{Update as UpdateData}
use Rattle.seam_law_calls.specs.WitnessMoves as witness
use Rattle.seam_law_calls.proofs.PartSteps.{equal_of, part_moves}
use Rattle.seam_law_calls.proofs.ClientSteps.{CallShown, as_it_was, lined, ClientAfter, keeps, calls, misses_it, is_told, is_shown}
use Rattle.seam_law_calls.proofs.ClientSteps.{client_after}
use Rattle.seam_law_calls.proofs.WitnessSteps.{witness_moves}
use Rattle.seam_law_calls.proofs.WitnessKept.{none_carried}
use Rattle.seam_law_calls.proofs.BaseSilent.{sees_no_update, sees_no_real, numbered_unreal, base_silent}

-- ---- what comes

tells_by : (i : Option Msg) → carried_in tells i ≡ option_map with_number (told i)
tells_by None = refl
tells_by (Some m) = refl

pub update_is : (m : Msg) (o : Option UpdateData) → update_in m ≡ o → (o ≡ None) ⊎ ((u : UpdateData) × (m ≡ Update u))
update_is (Update u) o is = inr (u, refl)
update_is _ o is = inl (sym is)

told_cases : (i : Option Msg) → (told i ≡ None) ⊎ ((u : UpdateData) × (i ≡ Some (Update u)))
told_cases None = inl refl
told_cases (Some m) = by (update_is m (update_in m) refl)
  where
    by : (update_in m ≡ None) ⊎ ((u : UpdateData) × (m ≡ Update u)) → (update_in m ≡ None) ⊎ ((u : UpdateData) × (Some m ≡ Some (Update u)))
    by (inl a) = inl a
    by (inr p) = inr (p.0, ap Some p.1)

pub untold : (ps : List (ℕ × Msg)) → IsSilent update_in ps → IsSilent tells ps
untold [] z = tt
untold (p ∷ ps) z = (ap (option_map with_number) z.0, untold ps z.1)

-- ---- what a look sends

pub numbered_here : (b e n : ℕ) (ss : List Shown) → letters_of tells (items_to b (numbered b e n ss)) ≡ number_from (n + 1) ss
numbered_here b e n [] = refl
numbered_here b e n (s ∷ ss) = rw (eq-eqb b b refl) (ap (λ l. (n + 1, s) ∷ l) (numbered_here b e (n + 1) ss))

numbered_there : (b e n j : ℕ) (ss : List Shown) → (j ≡ b → ⊥) → letters_of tells (items_to j (numbered b e n ss)) ≡ []
numbered_there b e n j [] other = refl
numbered_there b e n j (s ∷ ss) other = rw (ne_eqb b j (λ x. other (sym x))) (numbered_there b e (n + 1) j ss other)

-- ---- what an update leaves of a proxy

offer_by : (x : ProxyView) (u : UpdateData) (o : Ordering) → nat_cmp u.number x.updates.next ≡ o →
    (offered_update x u o).updates ≡ after_offer x.updates u.number u.shown
offer_by x u Less is =
    sym (ap (λ o. match_ordering o x.updates (record x.updates { next = x.updates.next + 1 })
    (record x.updates { held = with_item u.number u.shown x.updates.held })) is)
offer_by x u Equal is = refl
offer_by x u Greater is = refl

apart_by : (a b : ℕ) (o : Ordering) → nat_cmp a b ≡ o → (o ≡ Equal → ⊥) → a ≡ b → ⊥
apart_by a b o is n same = n (sym is ∙ equal_is a b same)
  where
    equal_is : (a b : ℕ) → a ≡ b → nat_cmp a b ≡ Equal
    equal_is a b is = grind (arith, nat_tests)

shown_once : (x : ProxyView) (u : UpdateData) (o : Ordering) → nat_cmp u.number x.updates.next ≡ o →
    letters_of shown_in (offered_update x u o).lines ≡ letters_of shown_in x.lines ++ at_once x.updates.next u.number u.shown
shown_once x u Less is =
    sym (ap (λ t. letters_of shown_in x.lines ++ cond t (u.shown ∷ []) [])
    (ne_eqb u.number x.updates.next (apart_by u.number x.updates.next Less is (λ e. cc)))
    ∙ append-nil (letters_of shown_in x.lines))
shown_once x u Equal is =
    letters_of-append shown_in x.lines (_ ∷ [])
    ∙ sym (ap (λ t. letters_of shown_in x.lines ++ cond t (u.shown ∷ []) [])
    (eq-eqb u.number x.updates.next (equal_of u.number x.updates.next is)))
shown_once x u Greater is =
    sym (ap (λ t. letters_of shown_in x.lines ++ cond t (u.shown ∷ []) [])
    (ne_eqb u.number x.updates.next (apart_by u.number x.updates.next Greater is (λ e. cc)))
    ∙ append-nil (letters_of shown_in x.lines))

pub shows_by : (x : ProxyView) (o : Option Shown) → is_some o ≡ true → next_item x.updates ≡ o →
    (s : Shown) × (next_item x.updates ≡ Some s) × ((shows_next x o).updates ≡ after_taking x.updates) ×
    (letters_of shown_in (shows_next x o).lines ≡ letters_of shown_in x.lines ++ s ∷ [])
shows_by x None ready is = cc
shows_by x (Some s) ready is = (s, is, refl, letters_of-append shown_in x.lines (_ ∷ []))

-- a line of the base part is none of the witness's
line_by : (h : Here) (y : PartView) (due : Bool) (o : Option ProxyView) →
    (order_in (option_map (line_if due (base_text h y)) o) ≡ order_in o)
    × (letters_of shown_in (lines_in (option_map (line_if due (base_text h y)) o)) ≡ letters_of shown_in (lines_in o))
line_by h y due None = (refl, refl)
line_by h y true (Some x) = (refl, letters_of-append shown_in x.lines (_ ∷ []) ∙ append-nil (letters_of shown_in x.lines))
line_by h y false (Some x) = (refl, refl)

call_keeps : (h : Here) (p q : PartView) → CallShown h p q →
    (order_in q.proxy ≡ order_in p.proxy) × (letters_of shown_in (lines_in q.proxy) ≡ letters_of shown_in (lines_in p.proxy))
call_keeps h p q (as_it_was v is) = (ap order_in is, ap (λ o. letters_of shown_in (lines_in o)) is)
call_keeps h p q (lined due y v is) =
    let l = line_by h y due p.proxy in
    (ap order_in is ∙ l.0, ap (λ o. letters_of shown_in (lines_in o)) is ∙ l.1)

-- ---- a step

module _ (f : Frame) (e k number : ℕ) (s : Has) (i : Option Msg) (t : Has) (sent : List (ℕ × Msg)) (out : ℕ → List Msg)
    (items : (j : ℕ) → out j ≡ items_to j sent) where
  abbrev Its : Type 0
  Its = Passes updates_at shown_at tells (home_of f e) number s i t out

  abbrev Follows : List Shown → RealView → Type 0
  Follows us r = sent_by r + 1 ≡ number + length us

  -- the move of the updates, what the witness told in it, and that its reals know
  pub record Told : Type 0 where
    pub passes : Its
    pub us : List Shown
    pub issued : more_issued passes ≡ us
    pub teller : (us ≡ []) ⊎ ((r : RealView) × (real_in s ≡ Some r))
    pub slot : (q : RealView) → real_in t ≡ Some q → Follows us q
    pub hands : (j : ℕ) → AllByRecursion (λ m. (q : RealView) → real_of m ≡ Some q → Follows us q) (out j)

  module _ (here : (r : RealView) → real_in s ≡ Some r → sent_by r + 1 ≡ number)
      (comes : (r : RealView) (bs : Option Boundaries) → i ≡ Some (Hand r bs) → sent_by r + 1 ≡ number)
      (never_missed : (u : UpdateData) → i ≡ Some (Update u) → Missed (here_at f k) u s.base.part → ⊥) where
    quiet : IsSilent update_in sent → SendsNone tells out
    quiet z j = ap (letters_of tells) (items j) ∙ sees_none tells j sent (untold sent z)

    nothing_comes : told i ≡ None → carried_in tells i ≡ None
    nothing_comes n = tells_by i ∙ ap (option_map with_number) n

    comes_so : (u : UpdateData) → i ≡ Some (Update u) → carried_in tells i ≡ Some (u.number, u.shown)
    comes_so u n = ap (carried_in tells) n

    same_number : (r q : RealView) → q.witness ≡ r.witness → sent_by r + 1 ≡ number → Follows [] q
    same_number r q same is = let a = ap sent_of same in omega (arith, a, is)

    hands_of : (us : List Shown) → AllByRecursion (λ p. (q : RealView) → real_of p.1 ≡ Some q → Follows us q) sent → (j : ℕ) →
        AllByRecursion (λ m. (q : RealView) → real_of m ≡ Some q → Follows us q) (out j)
    hands_of us h j =
        subst (AllByRecursion (λ m. (q : RealView) → real_of m ≡ Some q → Follows us q)) (sym (items j))
        (items_fit (λ k m. (q : RealView) → real_of m ≡ Some q → Follows us q) j sent h)

    -- ---- a cell

    module _ (low : k < cell_count) (same : t.base ≡ s.base) where
      order_same : updates_at t ≡ updates_at s
      order_same = ap (λ b. order_in (proxy_of b.part)) same

      lines_same : shown_at t ≡ shown_at s
      lines_same = ap (λ b. letters_of shown_in (lines_in (proxy_of b.part))) same

      none_comes : carried_in tells i ≡ None
      none_comes = by (told_cases i)
        where
          by : (told i ≡ None) ⊎ ((u : UpdateData) × (i ≡ Some (Update u))) → carried_in tells i ≡ None
          by (inl n) = nothing_comes n
          by (inr p) = absurd (never_missed p.0 p.1 (inl low))

      abbrev still : IsSilent update_in sent → Its
      still z = pass.rests order_same lines_same none_comes (quiet z)

      cell_told : WitnessMoves (here_at f k) e s.cell i (real_in t) sent → Told
      cell_told (witness.rests kept a b) = record {
        passes = still a;
        us = [];
        issued = refl;
        teller = inl refl;
        slot = λ q has. let was = kept q has in same_number was.0 q was.2 (here was.0 was.1);
        hands = hands_of [] (none_carried (Follows []) sent b);
      }
      cell_told (witness.lands r bs n now a b) = record {
        passes = still a;
        us = [];
        issued = refl;
        teller = inl refl;
        slot = λ q has. let one : r ≡ q = let z = sym now ∙ has in cc in same_number r q (sym (ap (λ x. x.witness) one)) (comes r bs n);
        hands = hands_of [] (none_carried (Follows []) sent b);
      }
      cell_told (witness.leaves r q to told has gone same z a b) = record {
        passes = still (subst (IsSilent update_in) (sym z) (all_append (λ p. update_in p.1 ≡ None) told _ a (refl, tt)));
        us = [];
        issued = refl;
        teller = inl refl;
        slot = λ x now. let no = sym gone ∙ now in absurd cc;
        hands = hands_of []
            (subst (AllByRecursion (λ p. (x : RealView) → real_of p.1 ≡ Some x → Follows [] x)) (sym z)
            (all_append (λ p. (x : RealView) → real_of p.1 ≡ Some x → Follows [] x) told _ (none_carried (Follows []) told b)
            ((λ x is. let one : q ≡ x = cc in same_number r x (sym (ap (λ y. y.witness) one) ∙ same) (here r has)), tt)));
      }
      cell_told (witness.looks n r q w v shown at has wit now wit' sum small z) =
          let before = here r has in
          let at_first = ap sent_of wit in
          let after = ap sent_of wit' in
          record {
            passes =
                pass.issues shown order_same lines_same none_comes
                (ap (letters_of tells) (items (home_of f e) ∙ ap (items_to (home_of f e)) z)
                ∙ (numbered_here (home_of f e) e w.sent shown
                ∙ ap (λ n. number_from n shown) (let is : w.sent + 1 ≡ number = omega (arith, before, at_first) in is)))
                (λ j n. ap (letters_of tells) (items j ∙ ap (items_to j) z) ∙ numbered_there (home_of f e) e w.sent j shown n)
                (omega (arith, before, at_first, sum, small));
            us = shown;
            issued = refl;
            teller = inr (r, has);
            slot = λ x is.
                let one : q ≡ x = let y = sym now ∙ is in cc in
                let same = ap sent_by one in
                omega (arith, before, at_first, after, sum, same);
            hands =
                hands_of shown
                (none_carried (Follows shown) sent (subst (IsSilent real_of) (sym z) (numbered_unreal (home_of f e) e w.sent shown)));
          }

    -- ---- a base node

    module _ (same : t.cell ≡ s.cell) (z : IsSilent update_in sent) (b : IsSilent real_of sent) where
      told_none : (p : Its) → more_issued p ≡ [] → Told
      told_none p is = record {
        passes = p;
        us = [];
        issued = is;
        teller = inl refl;
        slot = λ q has. same_number q q refl (here q (sym (ap (λ c. c.slot.real) same) ∙ has));
        hands = hands_of [] (none_carried (Follows []) sent b);
      }

      order_of : (o : Option PartView) → t.base.part ≡ o → updates_at t ≡ order_in (proxy_of o)
      order_of o is = ap (λ x. order_in (proxy_of x)) is

      lines_of : (o : Option PartView) → t.base.part ≡ o → shown_at t ≡ letters_of shown_in (lines_in (proxy_of o))
      lines_of o is = ap (λ x. letters_of shown_in (lines_in (proxy_of x))) is

      order_was : (o : Option PartView) → s.base.part ≡ o → updates_at s ≡ order_in (proxy_of o)
      order_was o is = ap (λ x. order_in (proxy_of x)) is

      lines_were : (o : Option PartView) → s.base.part ≡ o → shown_at s ≡ letters_of shown_in (lines_in (proxy_of o))
      lines_were o is = ap (λ x. letters_of shown_in (lines_in (proxy_of x))) is

      client_told : ClientAfter (here_at f k) s.base i t.base → Told
      client_told (keeps n is) =
          told_none (pass.rests (order_of s.base.part is) (lines_of s.base.part is) (nothing_comes n) (quiet z)) refl
      client_told (calls p q n has after c) =
          let k2 = call_keeps (here_at f k) p q c in
          told_none
          (pass.rests (order_of (Some q) after ∙ (k2.0 ∙ sym (order_was (Some p) has)))
          (lines_of (Some q) after ∙ (k2.1 ∙ sym (lines_were (Some p) has))) (nothing_comes n) (quiet z)) refl
      client_told (misses_it u n why is) = absurd (never_missed u n why)
      client_told (is_told u p x n has is after) =
          let was = order_was (Some p) has ∙ ap order_in is in
          let shown = lines_were (Some p) has ∙ ap (λ o. letters_of shown_in (lines_in o)) is in
          told_none
          (pass.offers u.number u.shown (comes_so u n)
          (order_of (Some _) after ∙ (offer_by x u (nat_cmp u.number x.updates.next) refl
          ∙ sym (ap (λ o. after_offer o u.number u.shown) was)))
          (lines_of (Some _) after ∙ (shown_once x u (nat_cmp u.number x.updates.next) refl
          ∙ sym (ap (λ l. l ++ at_once (updates_at s).next u.number u.shown) shown
          ∙ ap (λ o. letters_of shown_in x.lines ++ at_once o.next u.number u.shown) was))) (quiet z)) refl
      client_told (is_shown p x n has is ready after) =
          let was = order_was (Some p) has ∙ ap order_in is in
          let shown = lines_were (Some p) has ∙ ap (λ o. letters_of shown_in (lines_in o)) is in
          let g = shows_by x (next_item x.updates) ready refl in
          told_none
          (pass.gives g.0 (ap next_item was ∙ g.1) (order_of (Some _) after ∙ (g.2 ∙ sym (ap after_taking was)))
          (lines_of (Some _) after ∙ (g.3 ∙ sym (ap (λ l. l ++ g.0 ∷ []) shown)))
          (ap (carried_in tells) n) (quiet z)) refl

    pub told_by : ((os : List Order) → s.base.orders ≡ order.Reap e ∷ os → ⊥) → Moves f e k s i t sent → Told
    told_by calm (at_a_cell tree of low m same) = cell_told low same (witness_moves f e k s i t sent m)
    told_by calm (at_a_base high m same) =
        client_told same (base_silent update_in sees_no_update _ _ e _ i _ sent m) (base_silent real_of sees_no_real _ _ e _ i _ sent m)
        (client_after (here_at f k) e s.base i t.base sent calm (part_moves f e k s i t sent (at_a_base high m same)))
