-- Each move leaves the newest entry of each cell what the real wants.
use Rattle.seam_law_ghosts.proofs.Prelude.{◌≡◌, ℕ, ◌+◌, ◌<◌, ◌≤◌, ◌⊎◌, Bool, true, false, ltb, cond, List, [], ◌∷◌, ◌++◌, Option, None}
use Rattle.seam_law_ghosts.proofs.Prelude.{Some, refl, sym, ap, ◌∙◌, subst, arith, inl, inr, nat_cmp, cases_eq, nat_tests, append-nil}
use Rattle.seam_law_ghosts.proofs.Prelude.{Division, Cells, items_to, GhostCopy, RealView, Msg, Hand, GhostSet, GhostDrop, Reap, cell_count}
use Rattle.seam_law_ghosts.proofs.Prelude.{settled_to, copy_if, is_stray, drops, World, Flow, Goes, comes, letters_of, NotAbove, OfEntry}
use Rattle.seam_law_ghosts.proofs.Prelude.{AllBring, entry_in, greater_entry, Newest, IsSilent, carried_in, TokenPlace, In, On, SendsNone}
use Rattle.seam_law_ghosts.proofs.Prelude.{SendsOne, still, turns, lands, leaves, Frame, here_at, Has, entity_flow, account_of, real_in}
use Rattle.seam_law_ghosts.proofs.Prelude.{real_of, IsOne, Entry, brings, book_entry, IsPlacedAlike, Executes, nothing as still_as}
use Rattle.seam_law_ghosts.proofs.Prelude.{executes, told_settling, staying, going, left_entry, IsMissed, GhostMoves, present, wanted}
use Rattle.seam_law_ghosts.proofs.Prelude.{NewestAreWanted, IsForgotten, newest_stays, newest_rises, not_above_rises, taken_comes}
use Rattle.seam_law_ghosts.proofs.Prelude.{sees_none, sees_after_silent, sees_one_here, sees_one_there, one_here, one_there, sole_here}
use Rattle.seam_law_ghosts.proofs.Prelude.{sole_came, sole_goes, reals_unseen, ghosts_silent, NewestIsWanted, IsAway, items_fit}
use Rattle.std.specs.FinSet as set
use Rattle.seam_law_flow.specs.Prelude.{Has as HasEntry}
use Rattle.seam_machine.proofs.SendLemmas.{items_to-append}
use Rattle.seam_law_ghosts.specs.GhostMoves as ghost
use Rattle.seam_law_ghosts.proofs.Making.{executes_beat, NoEntry, none_carried, all_unseen, none_brought, none_here}
use Rattle.seam_law_ghosts.proofs.Present.{same_shown_of, unseen_same}
use Rattle.seam_law_ghosts.proofs.NewestTelling.{Gets, nothing, entry, none_there, gets, beat_rises, beat_up, drops_to}
use Rattle.seam_node_steps.specs.Prelude.{Boundaries}

-- an entry that is not newer does not change the book
kept_by : (a p : Entry) (t : Bool) → ltb a.0 p.0 ≡ t → p.0 ≤ a.0 → cond t p a ≡ a
kept_by a p true is le = let lt : a.0 < p.0 = grind (arith, nat_tests) in absurd (omega (arith, lt, le))
kept_by a p false is le = refl

greater_kept : (a p : Entry) → p.0 ≤ a.0 → greater_entry a (Some p) ≡ a
greater_kept a p le = kept_by a p (ltb a.0 p.0) refl le

option_any : (Q : Entry → Type 0) (o : Option Entry) → OfEntry NoEntry o → OfEntry Q o
option_any Q None h = tt
option_any Q (Some p) h = absurd h

-- where nothing is brought, all that is brought is such
all_any : (Q : Entry → Type 0) (ms : List Msg) → AllBring brings NoEntry ms → AllBring brings Q ms
all_any Q [] h = tt
all_any Q (m ∷ ms) h = (option_any Q (brings m) h.0, all_any Q ms h.1)

wanted_by : (a b : Bool) (c d : GhostCopy) → b ≡ a → (b ≡ true → c ≡ d) → copy_if a c ≡ copy_if b d
wanted_by true true c d is same = ap Some (same refl)
wanted_by false false c d is same = refl
wanted_by true false c d is same = cc
wanted_by false true c d is same = cc

-- ---- a real that executed a call that others do not see

module _ (f : Frame) (r q : RealView) (changed : Bool) where
  pub executes_haunts : Executes f r q changed → q.haunts ≡ r.haunts
  executes_haunts (still_as e z) = ap (λ x. x.haunts) e
  executes_haunts (executes c h p a z) = h.haunts

  pub executes_unseen : Executes f r q changed → changed ≡ false → present f r ≡ present f q
  executes_unseen (still_as e z) is = ap (present f) (sym e)
  executes_unseen (executes c h p a z) is = (unseen_same f r r q c h.type p a (sym z ∙ is)).1

module _ (f : Frame) (e : ℕ) (w v : World) {Moves : ℕ → Has → Option Msg → Has → (ℕ → List Msg) → Type 0}
    (g : Goes Moves (entity_flow e w) (entity_flow e v)) (sent : List (ℕ × Msg)) (items : (j : ℕ) → g.out j ≡ items_to j sent) where
  abbrev before : Flow Has Msg
  before = entity_flow e w

  abbrev after : Flow Has Msg
  after = entity_flow e v

  abbrev s : Has
  s = before.slot g.k

  abbrev t : Has
  t = after.slot g.k

  abbrev i : Option Msg
  i = comes g.input

  silent_out : IsSilent brings sent → (j : ℕ) → AllBring brings NoEntry (g.out j)
  silent_out silent j =
      subst (AllBring brings NoEntry) (sym (items j))
      (items_fit (λ k m. OfEntry NoEntry (brings m)) j sent (none_brought NoEntry sent silent))

  sends_none : IsSilent brings sent → SendsNone real_of g.out
  sends_none silent j = ap (letters_of real_of) (items j) ∙ sees_none real_of j sent (all_unseen sent silent)

  -- the book of cell k takes what comes, where the step is the cell's
  abbrev Takes : ℕ → Type 0
  Takes k = g.k ≡ k → book_entry (after.slot k) ≡ greater_entry (book_entry (before.slot k)) (entry_in brings i)

  takes_at : (k : ℕ) → k < cell_count → (g.k < cell_count → book_entry t ≡ greater_entry (book_entry s) (entry_in brings i)) → Takes k
  takes_at k low takes is =
      subst (λ x. book_entry (after.slot x) ≡ greater_entry (book_entry (before.slot x)) (entry_in brings i)) is
      (takes (omega (arith, is, low)))

  -- what comes to a cell is not stray
  abbrev pub IsFresh : Type 0
  IsFresh = (m : Msg) (x : Entry) → i ≡ Some m → g.k < cell_count → brings m ≡ Some x → real_of m ≡ None →
      (tree : Division) → is_stray (here_at f g.k) tree s.cell.slot m ≡ true → ⊥

  missed_takes : IsFresh → (m : Msg) (o : Option Entry) → i ≡ Some m → brings m ≡ o → real_of m ≡ None → IsMissed f g.k s m →
      book_entry t ≡ book_entry s → g.k < cell_count → book_entry t ≡ greater_entry (book_entry s) (entry_in brings i)
  missed_takes fresh m o at is none (inl high) book low = absurd (omega (arith, high, low))
  missed_takes fresh m None at is none (inr stray) book low =
      book ∙ sym (ap (greater_entry (book_entry s)) (ap (entry_in brings) at ∙ is))
  missed_takes fresh m (Some x) at is none (inr stray) book low = absurd (fresh m x at low is none stray.0 stray.1)

  -- ---- one cell, of a real r that is q after the step

  module _ (r q : RealView) (up : r.beat ≤ q.beat) (k : ℕ) (told : NewestIsWanted f e w r k) where
    same_told : wanted f r k ≡ wanted f q k → Takes k → AllBring brings NoEntry (g.out k) → NewestIsWanted f e v q k
    same_told same takes none = record {
      beat = told.beat;
      low = let at = told.low in omega (arith, at, up);
      newest =
          subst (Newest book_entry brings after k told.beat) same
          (newest_stays brings book_entry g k told.beat (wanted f r k) told.newest takes
          (all_any (NotAbove told.beat (wanted f r k)) (g.out k) none));
    }

    new_told : r.beat < q.beat → (g.k ≡ k → NotAbove q.beat (wanted f q k) (book_entry (after.slot k))) →
        AllBring brings (NotAbove q.beat (wanted f q k)) (g.out k) →
        (book_entry (after.slot k) ≡ (q.beat, wanted f q k)) ⊎ HasEntry brings (q.beat, wanted f q k) (g.out k) → NewestIsWanted f e v q k
    new_told more own out there = record {
      beat = q.beat;
      low = omega arith;
      newest =
          newest_rises brings book_entry g k told.beat q.beat (wanted f r k) (wanted f q k) told.newest
          (let at = told.low in omega (arith, at, more)) own out there;
    }

    -- one message tells it the new entry, and nothing else is sent
    sent_told : (g.k ≡ k → ⊥) → r.beat < q.beat → (m : Msg) → g.out k ≡ m ∷ [] → brings m ≡ Some (q.beat, wanted f q k) →
        NewestIsWanted f e v q k
    sent_told apart more m out is =
        new_told more (λ at. absurd (apart at))
        (subst (AllBring brings (NotAbove q.beat (wanted f q k))) (sym out)
        (subst (OfEntry (NotAbove q.beat (wanted f q k))) (sym is) (inr (refl, refl)), tt))
        (inr (subst (HasEntry brings (q.beat, wanted f q k)) (sym out) (inl is)))

    gets_told : (g.k ≡ k → ⊥) → (beat : ℕ) (was changed : Bool) (ms : List Msg) → g.out k ≡ ms → was ≡ set.contains r.haunts k →
        (changed ≡ false → present f r ≡ present f q) → ((m : Msg) → ms ≡ m ∷ [] → (beat ≡ q.beat) × (r.beat < q.beat)) →
        Gets beat (present f q) was (set.contains q.haunts k) changed ms → NewestIsWanted f e v q k
    gets_told apart beat was changed ms out is unseen rise (nothing none same kept) =
        same_told (wanted_by (set.contains r.haunts k) (set.contains q.haunts k) (present f r) (present f q) (same ∙ is)
        (λ h. unseen (kept h)))
        (λ at. absurd (apart at)) (subst (AllBring brings NoEntry) (sym (out ∙ none)) tt)
    gets_told apart beat was changed ms out is unseen rise (entry m one at) =
        let two = rise m one in
        sent_told apart two.1 m (out ∙ one) (at ∙ ap (λ n. Some (n, wanted f q k)) two.0)

  -- ---- a move

  -- the real is there, and each cell is told; or the entity is reaped, and each cell is told that
  pub data After : Type 0 where
    here : (p : TokenPlace) (q : RealView) → IsOne e v p q → NewestAreWanted f e v p q → After
    gone : i ≡ Some (Reap e) → real_in t ≡ None → IsForgotten e v → After

  abbrev Any : RealView → RealView → Type 0
  Any r q = Unit {0}

  module _ (p : TokenPlace) (r : RealView) (one : IsOne e w p r) (told : NewestAreWanted f e w p r) (fresh : IsFresh)
      (hushed : (n : ℕ) (c : GhostCopy) (q : RealView) → i ≡ Some (GhostSet e n c) → real_in s ≡ Some q → n ≤ (book_entry s).0) where
    unmoved : carried_in real_of i ≡ None → real_in t ≡ real_in s → IsSilent brings sent →
        (g.k < cell_count → book_entry t ≡ greater_entry (book_entry s) (entry_in brings i)) → After
    unmoved none real silent takes =
        here p r (sole_goes real_in real_of Any g p r one (still real none (sends_none silent)))
        (record {
          away = told.away;
          cells = λ k low. same_told r r (omega arith) k (told.cells k low) refl (takes_at k low takes) (silent_out silent k);
        })

    -- the real is touched, and stays where it is
    touched : (q : RealView) → p ≡ In g.k → real_in s ≡ Some r → real_in t ≡ Some q → carried_in real_of i ≡ None →
        IsPlacedAlike r q → account_of q ≡ account_of r → IsSilent brings sent →
        (g.k < cell_count → book_entry t ≡ greater_entry (book_entry s) (entry_in brings i)) → After
    touched q at has real none alike account silent takes =
        let seen = same_shown_of f r r q alike.type (ap (λ a. a.public) account)
        (ap (λ a. (present f (record r { state = a.state })).state) (sym account)) in
        here p q (sole_goes real_in real_of Any g p r one (turns r q has real (inr tt) none (sends_none silent)))
        (record {
          away = away_by p at told.away;
          cells = λ k low.
              same_told r q (let same = alike.beat in omega (arith, same)) k (told.cells k low)
              (wanted_by (set.contains r.haunts k) (set.contains q.haunts k) (present f r) (present f q)
              (ap (λ h. set.contains h k) alike.haunts) (λ h. seen))
              (takes_at k low takes) (silent_out silent k);
        })
      where
        away_by : (x : TokenPlace) → x ≡ In g.k → IsAway x r → IsAway x q
        away_by (In k) is h = ap (λ y. set.contains y k) alike.haunts ∙ h
        away_by (On a k) is h = ap (λ y. set.contains y k) alike.haunts ∙ h

    -- the real lands
    landed : (a : ℕ) → p ≡ On a g.k → carried_in real_of i ≡ Some r → real_in t ≡ Some r → IsSilent brings sent →
        (g.k < cell_count → book_entry t ≡ greater_entry (book_entry s) (entry_in brings i)) → After
    landed a at none real silent takes =
        here (In g.k) r (sole_goes real_in real_of Any g p r one (lands r r none real (inl refl) (sends_none silent)))
        (record {
          away = subst (λ x. IsAway x r) at told.away;
          cells = λ k low. same_told r r (omega arith) k (told.cells k low) refl (takes_at k low takes) (silent_out silent k);
        })

    -- ---- the real settles

    under : (k : ℕ) → NewestIsWanted f e w r k → (n : ℕ) → r.beat < n → (c : Option GhostCopy) → NotAbove n c (book_entry (before.slot k))
    under k told n more c = let low = told.low in not_above_rises told.beat n (wanted f r k) c (book_entry (before.slot k)) (omega
        (arith, low, more)) told.newest.here

    away_here : p ≡ In g.k → set.contains r.haunts g.k ≡ false
    away_here at = subst (λ x. IsAway x r) at told.away

    -- and stays
    module _ (q : RealView) (changed : Bool) (haunts : Cells) (own : set.contains haunts g.k ≡ false) (at : p ≡ In g.k)
        (acts : Executes f r q changed)
        (takes : g.k < cell_count → book_entry t ≡ greater_entry (book_entry s) (entry_in brings i))
        (z : sent ≡ told_settling f g.k g.k haunts q changed) where
      abbrev next : RealView
      next = staying f g.k haunts q changed

      abbrev ms : List (ℕ × Msg)
      ms = told_settling f g.k g.k haunts q changed

      unseen : IsSilent real_of ms
      unseen = ghosts_silent real_of reals_unseen (here_at f g.k) q g.k haunts changed

      up : r.beat ≤ next.beat
      up = let same = executes_beat f r q changed acts in let more = beat_up ms q.beat in omega (arith, same, more)

      rise : (k : ℕ) (m : Msg) → items_to k ms ≡ m ∷ [] → (q.beat + 1 ≡ next.beat) × (r.beat < next.beat)
      rise k m got =
          let same = executes_beat f r q changed acts in
          let more = beat_rises k ms m q.beat got in
          (sym more, omega (arith, same, more))

      own_told : (k : ℕ) → k < cell_count → k ≡ g.k → NewestIsWanted f e v next k
      own_told k low is =
          let was : set.contains r.haunts k ≡ false = ap (set.contains r.haunts) is ∙ away_here at in
          let now : set.contains next.haunts k ≡ false = ap (set.contains next.haunts) is ∙ own in
          let out : g.out k ≡ [] = items k ∙ (ap (items_to k) z ∙ (ap (λ x. items_to x ms) is
          ∙ none_here f g.k q g.k haunts changed)) in
          same_told r next up k (told.cells k low)
          (wanted_by (set.contains r.haunts k) (set.contains next.haunts k) (present f r) (present f next) (now ∙ sym was)
          (λ h. let no_ = sym now ∙ h in cc))
          (takes_at k low takes) (subst (AllBring brings NoEntry) (sym out) tt)

      stayed : real_in s ≡ Some r → real_in t ≡ Some next → carried_in real_of i ≡ None → After
      stayed has real none =
          here p next (sole_goes real_in real_of Any g p r one (turns r next has real (inr tt) none (λ j.
          ap (letters_of real_of) (items j ∙ ap (items_to j) z) ∙ sees_none real_of j ms unseen)))
          (record {
            away = subst (λ x. IsAway x next) (sym at) own;
            cells = λ k low. elim (cases_eq k g.k) [
              | inl is ↦ own_told k low is
              | inr apart ↦
                  gets_told r next up k (told.cells k low) (λ x. apart (sym x)) (q.beat + 1) (set.contains q.haunts k) changed
                  (items_to k ms) (items k ∙ ap (items_to k) z) (ap (λ h. set.contains h k) (executes_haunts f r q changed acts))
                  (executes_unseen f r q changed acts) (λ m got. rise k m got)
                  (gets (here_at f g.k) q g.k haunts changed k low apart apart)
            ];
          })

    -- and is handed over to cell j
    module _ (q : RealView) (changed : Bool) (j : ℕ) (haunts : Cells) (apart : j ≡ g.k → ⊥) (goal : set.contains haunts j ≡ false)
        (at : p ≡ In g.k) (acts : Executes f r q changed)
        (book : book_entry t ≡ greater_entry (book_entry s) (Some (left_entry f g.k haunts q)))
        (z : sent ≡ told_settling f g.k j haunts q changed ++ (j, Hand (going haunts q) None) ∷ []) where
      abbrev handed : RealView
      handed = going haunts q

      abbrev news : List (ℕ × Msg)
      news = told_settling f g.k j haunts q changed

      news_unseen : IsSilent real_of news
      news_unseen = ghosts_silent real_of reals_unseen (here_at f g.k) q j haunts changed

      sends : SendsOne real_of g.out j handed
      sends = record {
        here =
            ap (letters_of real_of) (items j ∙ ap (items_to j) z)
            ∙ (sees_after_silent real_of j news ((j, Hand handed None) ∷ []) news_unseen ∙ sees_one_here real_of j (Hand handed None));
        others = λ x n.
            ap (letters_of real_of) (items x ∙ ap (items_to x) z)
            ∙ (sees_after_silent real_of x news ((j, Hand handed None) ∷ []) news_unseen ∙ sees_one_there real_of j x (Hand handed None) n);
      }

      more : r.beat < handed.beat
      more = let same = executes_beat f r q changed acts in omega (arith, same)

      out : (k : ℕ) → g.out k ≡ items_to k news ++ items_to k ((j, Hand handed None) ∷ [])
      out k = items k ∙ (ap (items_to k) z ∙ items_to-append k news ((j, Hand handed None) ∷ []))

      left_told : (k : ℕ) → k < cell_count → k ≡ g.k → NewestIsWanted f e v handed k
      left_told k low is =
          let none_out : g.out k ≡ [] = out k ∙ (ap (λ l. l ++ items_to k ((j, Hand handed None) ∷ [])) (ap (λ x. items_to x news) is
          ∙ none_here f g.k q j haunts changed) ∙ one_there j k (Hand handed None) (λ x. apart (sym x ∙ is))) in
          let now : book_entry (after.slot k) ≡ (handed.beat, wanted f handed k) =
          subst (λ x. book_entry (after.slot x) ≡ (handed.beat, wanted f handed x)) (sym is)
          (book ∙ taken_comes handed.beat (wanted f handed g.k) (book_entry s)
          (under g.k (subst (NewestIsWanted f e w r) is (told.cells k low)) handed.beat more (wanted f handed g.k))) in
          new_told r handed (omega (arith, more)) k (told.cells k low) more
          (λ x. subst (NotAbove handed.beat (wanted f handed k)) (sym now) (inr (refl, refl)))
          (subst (AllBring brings (NotAbove handed.beat (wanted f handed k))) (sym none_out) tt) (inl now)

      goal_told : (k : ℕ) → k < cell_count → k ≡ j → (k ≡ g.k → ⊥) → NewestIsWanted f e v handed k
      goal_told k low is other =
          let one_out : g.out k ≡ Hand handed None ∷ [] = out k ∙ (ap (λ x. items_to x news ++ items_to x ((j, Hand handed None) ∷ [])) is
          ∙ (ap (λ l. l ++ items_to j ((j, Hand handed None) ∷ [])) (none_there (here_at f g.k) q j haunts changed
          (subst (λ x. x < cell_count) is low)) ∙ one_here j (Hand handed None))) in
          let none : set.contains handed.haunts k ≡ false = ap (set.contains handed.haunts) is ∙ goal in
          sent_told r handed (omega (arith, more)) k (told.cells k low) (λ x. other (sym x)) more (Hand handed None) one_out
          (ap (λ b. Some (handed.beat, copy_if b (present f handed))) (sym none))

      departed : real_in s ≡ Some r → real_in t ≡ None → carried_in real_of i ≡ None → After
      departed has real none =
          here (On g.k j) handed (sole_goes real_in real_of Any g p r one (leaves r handed j has real (inr tt) none sends))
          (record {
            away = goal;
            cells = λ k low. elim (cases_eq k g.k) [
              | inl is ↦ left_told k low is
              | inr other ↦ elim (cases_eq k j) [
                | inl is ↦ goal_told k low is other
                | inr n ↦
                    gets_told r handed (omega (arith, more)) k (told.cells k low) (λ x. other (sym x)) (q.beat + 1)
                    (set.contains q.haunts k) changed (items_to k news)
                    (out k ∙ (ap (λ l. items_to k news ++ l) (one_there j k (Hand handed None) n) ∙ append-nil (items_to k news)))
                    (ap (λ h. set.contains h k) (executes_haunts f r q changed acts)) (executes_unseen f r q changed acts)
                    (λ m got. (refl, more)) (gets (here_at f g.k) q j haunts changed k low other n)
              ]
            ];
          })

    -- ---- the entity is reaped: it is as if its real had no haunts any more

    abbrev last : RealView
    last = settled_to r set.empty (r.beat + 1) r.generation

    none_last : (k : ℕ) → set.contains last.haunts k ≡ false
    none_last k = set.contains-empty nat_cmp k

    reaped_one : (k : ℕ) → k < cell_count → p ≡ In g.k → book_entry t ≡ greater_entry (book_entry s) (Some (r.beat + 1, None)) →
        sent ≡ drops r → (b : Bool) → set.contains r.haunts k ≡ b → (k ≡ g.k) ⊎ (k ≡ g.k → ⊥) → NewestIsWanted f e v last k
    reaped_one k low at book z true is (inl own) = absurd (let z = sym is ∙ (ap (set.contains r.haunts) own ∙ away_here at) in cc)
    reaped_one k low at book z false is (inl own) =
        let none : wanted f last k ≡ None = ap (λ b. copy_if b (present f last)) (none_last k) in
        let now : book_entry (after.slot k) ≡ (r.beat + 1, wanted f last k) =
        subst (λ x. book_entry (after.slot x) ≡ (r.beat + 1, wanted f last k)) (sym own)
        (book ∙ (taken_comes (r.beat + 1) None (book_entry s)
        (under g.k (subst (NewestIsWanted f e w r) own (told.cells k low)) (r.beat + 1) (omega arith) None)
        ∙ ap (λ c. let x : Entry = (r.beat + 1, c) in x) (sym none))) in
        new_told r last (omega arith) k (told.cells k low) (omega arith)
        (λ x. subst (NotAbove last.beat (wanted f last k)) (sym now) (inr (refl, refl)))
        (subst (AllBring brings (NotAbove last.beat (wanted f last k)))
        (sym (items k ∙ (ap (items_to k) z ∙ drops_to r k false low is))) tt) (inl now)
    reaped_one k low at book z true is (inr apart) =
        sent_told r last (omega arith) k (told.cells k low) (λ x. apart (sym x)) (omega arith) (GhostDrop r.entity (r.beat + 1))
        (items k ∙ (ap (items_to k) z ∙ drops_to r k true low is))
        (ap (λ b. Some (r.beat + 1, copy_if b (present f last))) (sym (none_last k)))
    reaped_one k low at book z false is (inr apart) =
        same_told r last (omega arith) k (told.cells k low)
        (wanted_by (set.contains r.haunts k) (set.contains last.haunts k) (present f r) (present f last) (none_last k ∙ sym is)
        (λ h. let no_ = sym (none_last k) ∙ h in cc))
        (λ x. absurd (apart (sym x)))
        (subst (AllBring brings NoEntry) (sym (items k ∙ (ap (items_to k) z ∙ drops_to r k false low is))) tt)

    reaped : p ≡ In g.k → i ≡ Some (Reap e) → real_in t ≡ None →
        book_entry t ≡ greater_entry (book_entry s) (Some (r.beat + 1, None)) → sent ≡ drops r → After
    reaped at is real book z =
        gone is real (λ k low.
        let one = reaped_one k low at book z (set.contains r.haunts k) refl (cases_eq k g.k) in (
          one.beat,
          subst (Newest book_entry brings after k one.beat)
              (ap (λ b. copy_if b (present f last)) (none_last k)) one.newest,
        ))

    -- ---- each move

    pub after_move : GhostMoves f e g.k s i t sent → After
    after_move (ghost.rests none real book z) =
        unmoved (none_carried i none) real z (λ low. book ∙ sym (ap (greater_entry (book_entry s)) none))
    after_move (ghost.touches x q none has real alike account book z) =
        let at = sole_here real_in real_of before p r x g.k one has in
        touched q at.0 (has ∙ ap Some at.1) real (none_carried i none) (subst (λ y. IsPlacedAlike y q) at.1 alike)
        (account ∙ ap account_of at.1) z (λ low. book ∙ sym (ap (greater_entry (book_entry s)) none))
    after_move (ghost.misses m h none missed real book z) =
        unmoved (ap (carried_in real_of) h ∙ none) real z (missed_takes fresh m (brings m) h refl none missed book)
    after_move (ghost.ignores n c x h has real book z) =
        unmoved (ap (carried_in real_of) h) real z (λ low.
        book ∙ sym (ap (greater_entry (book_entry s)) (ap (entry_in brings) h)
        ∙ greater_kept (book_entry s) (n, Some c) (hushed n c x h has)))
    after_move (ghost.hears x h none real book z) =
        unmoved none real z (λ low. book ∙ sym (ap (greater_entry (book_entry s)) h))
    after_move (ghost.lands x bs h has real book z) =
        let carried = ap (carried_in real_of) h in
        let from = sole_came real_in real_of g p r x one carried in
        landed from.0 from.1 (carried ∙ ap Some from.2) (real ∙ ap Some from.2) z
        (λ low. book ∙ sym (ap (greater_entry (book_entry s)) (ap (entry_in brings) h)))
    after_move (ghost.stays x q changed haunts own none has acts real book z) =
        let at = sole_here real_in real_of before p r x g.k one has in
        stayed q changed haunts own at.0 (subst (λ y. Executes f y q changed) at.1 acts)
        (λ low. book ∙ sym (ap (greater_entry (book_entry s)) none)) z (has ∙ ap Some at.1) real (none_carried i none)
    after_move (ghost.goes x q changed j haunts apart goal none has acts real book z) =
        let at = sole_here real_in real_of before p r x g.k one has in
        departed q changed j haunts apart goal at.0 (subst (λ y. Executes f y q changed) at.1 acts) book z (has ∙ ap Some at.1) real
        (none_carried i none)
    after_move (ghost.reaped x h has real book z) =
        let at = sole_here real_in real_of before p r x g.k one has in
        reaped at.0 h real (book ∙ ap (λ (y : RealView). greater_entry (book_entry s) (Some (y.beat + 1, None))) at.1)
        (z ∙ ap drops at.1)

  -- ---- an entity that is nowhere stays forgotten

  module _ (free : real_in s ≡ None) (none_lands : (r : RealView) (bs : Option Boundaries) → i ≡ Some (Hand r bs) → ⊥)
      (was : IsForgotten e w) (fresh : IsFresh) where
    never : (r : RealView) → real_in s ≡ Some r → ⊥
    never r has = let z = sym free ∙ has in cc

    forgotten : IsSilent brings sent → (g.k < cell_count → book_entry t ≡ greater_entry (book_entry s) (entry_in brings i)) →
        IsForgotten e v
    forgotten silent takes k low =
        let old = was k low in (
          old.0,
          newest_stays brings book_entry g k old.0 None old.1 (takes_at k low takes)
              (all_any (NotAbove old.0 None) (g.out k) (silent_out silent k)),
        )

    pub still_forgotten : GhostMoves f e g.k s i t sent → IsForgotten e v
    still_forgotten (ghost.rests none real book z) = forgotten z (λ low. book ∙ sym (ap (greater_entry (book_entry s)) none))
    still_forgotten (ghost.touches x q none has real alike account book z) = absurd (never x has)
    still_forgotten (ghost.misses m h none missed real book z) = forgotten z (missed_takes fresh m (brings m) h refl none missed book)
    still_forgotten (ghost.ignores n c x h has real book z) = absurd (never x has)
    still_forgotten (ghost.hears x h none real book z) = forgotten z (λ low. book ∙ sym (ap (greater_entry (book_entry s)) h))
    still_forgotten (ghost.lands x bs h has real book z) = absurd (none_lands x bs h)
    still_forgotten (ghost.stays x q changed haunts own none has acts real book z) = absurd (never x has)
    still_forgotten (ghost.goes x q changed j haunts apart goal none has acts real book z) = absurd (never x has)
    still_forgotten (ghost.reaped x h has real book z) = absurd (never x has)
