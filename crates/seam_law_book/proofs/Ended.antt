-- Where a world went through the round of a book's open lines, the book with its round ended goes with it.
use Rattle.seam_law_book.proofs.Prelude.{◌≡◌, ℕ, ◌+◌, ◌≤◌, Bool, true, false, cond, eqb, List, [], ◌∷◌, length, Option, Some, None, refl}
use Rattle.seam_law_book.proofs.Prelude.{sym, ap, ◌∙◌, subst, arith, inl, inr, append-nil, ◌⊎◌, is_some, ◌==◌, ◌||◌, ◌&&◌, AllByRecursion}
use Rattle.seam_law_book.proofs.Prelude.{list_any, filter_map, option_or, eq-eqb, eqb-true, none-some, IsQuiet, Division, Part, Create}
use Rattle.seam_law_book.proofs.Prelude.{Batch, RealView, PartView, holders, World, node_has_work, loaded, reaps_loaded, look_loaded}
use Rattle.seam_law_book.proofs.Prelude.{reap_ordered_at, Header, Book, entries, creates_of, calls_of, created_as, live_as, destroys, joins}
use Rattle.seam_law_book.proofs.Prelude.{has_client, with_round_ended, Entry, ClientReplica, IsInFrame, order_about, entity_flow, real_in}
use Rattle.seam_law_book.proofs.Prelude.{real_at, IsNew, next_from, HasSettledPart, next_to, GoesThroughRound, KeepsRecords, MayBeGiven}
use Rattle.seam_law_book.proofs.Prelude.{may_begin, as_begun, made_among, IsPresent, calls_from, last_number, HasFitRound, IsUntouched}
use Rattle.seam_law_book.proofs.Prelude.{frame_of, base_node, IsHeld, Lives, GoesWith, HasRoomForCalls, live_is_created, batch_of}
use Rattle.seam_law_book.proofs.Prelude.{destroyed, counted_none, nodes_after, in_frame, AreOthers, Home, reaps_framed, look_framed}
use Rattle.seam_law_book.proofs.Prelude.{Somewhere, Nowhere, search_real, part_stays_gone}
use Rattle.seam_defs.specs.declared.flags.Part.TheVariants as part
use Rattle.seam_rule_lines.specs.declared.verdict.Entry.TheVariants as entry
use Rattle.seam_law_rounds.specs.Prelude.{NeverShown}
use Rattle.seam_law_book.proofs.Adding.{all_turn, counted}
use Rattle.seam_law_book.proofs.Present.{any_split, any_begun, created_split, created_begun, live_is_present, uncreated, undestroyed, alive}
use Rattle.seam_law_book.proofs.Present.{undestroyed_apart}
use Rattle.seam_law_book.proofs.Origins.{RealFrom, was, made}
use Rattle.seam_law_book.proofs.Numbering.{cell_calls, base_calls}
use Rattle.seam_law_book.proofs.Fitting.{new_number, type_by, next_by, next_to_by}
use Rattle.seam_law_book.proofs.Started.{real_comes, part_comes, made_now, nobody, no_part_there}
use Rattle.seam_law_book.proofs.Nowhere.{new_after_calls, new_after_reaps, new_after_looks}
use Rattle.seam_law_book.proofs.Parts.{tick, looked_parts, reaped_parts}
use Rattle.seam_law_book.proofs.Clients.{client_given}
use Rattle.seam_law_book.proofs.Playing.{Obeyed, loaded_home, one_at_end, end_home, was_reaped, was_called, type_at_end, next_at_end}
use Rattle.seam_law_book.proofs.Playing.{next_to_at_end, client_at_end}

-- ---- lists

others_by : (e : ℕ) (c : Create) (cs : List Create) (y : Bool) → (c.entity == e) ≡ y → (made_among cs e ≡ None → AreOthers e cs) →
    cond y (Some c) (made_among cs e) ≡ None → AreOthers e (c ∷ cs)
others_by e c cs true at rest is = absurd (let z = is in cc)
others_by e c cs false at rest is = ((λ same. let z = sym (eq-eqb c.entity e same) ∙ at in cc), rest is)

others_of : (e : ℕ) (cs : List Create) → made_among cs e ≡ None → AreOthers e cs
others_of e [] none = tt
others_of e (c ∷ cs) none = others_by e c cs (c.entity == e) refl (others_of e cs) none

destroyed_by : (P : ℕ → Type 0) (e d : ℕ) (y z : Bool) → (d == e) ≡ y → P d → (z ≡ true → P e) → (y || z) ≡ true → P e
destroyed_by P e d true z at here rest h = subst P (eqb-true d e at) here
destroyed_by P e d false z at here rest h = rest h

-- what is true of each that entries destroy is true of one that they destroy
of_destroyed : (P : ℕ → Type 0) (e : ℕ) (xs : List Entry) → AllByRecursion P (filter_map destroyed xs) → list_any (destroys e) xs ≡ true →
    P e
of_destroyed P e [] all is = absurd (let z = is in cc)
of_destroyed P e (entry.Destroyed d ∷ xs) all is =
    destroyed_by P e d (d == e) (list_any (destroys e) xs) refl all.0 (of_destroyed P e xs all.1) is
of_destroyed P e (_ ∷ xs) all is = of_destroyed P e xs all is

-- ---- the book with its round ended

module _ (b : Book) (e : ℕ) where
  abbrev ended_book : Book
  ended_book = with_round_ended b

  same_entries : entries ended_book ≡ entries b
  same_entries = append-nil (entries b)

  created_ended : created_as ended_book e ≡ created_as b e
  created_ended = ap (λ xs. made_among (creates_of xs) e) same_entries

  pub live_ended : live_as ended_book e ≡ live_as b e
  live_ended = ap (λ xs. cond (list_any (destroys e) xs) None (made_among (creates_of xs) e)) same_entries

  last_ended : (p : Part) (s : ℕ) → last_number ended_book p e s ≡ last_number b p e s
  last_ended p s = ap (λ xs. length (calls_from p e s (calls_of xs))) same_entries

  -- a live entity has a client where it was given one
  pub client_of : (c : Create) → live_as b e ≡ Some c → has_client ended_book e ≡ list_any (joins e) (entries b)
  client_of c lives =
      ap (λ o. is_some o && list_any (joins e) (entries ended_book)) (live_ended ∙ lives) ∙ ap (list_any (joins e)) same_entries

module _ (h : Header) (some : 1 ≤ h.settings.bases) (b : Book) (t : Division) (clients : ℕ → ClientReplica) (w : World)
    (keeps : KeepsRecords (frame_of h t) clients w) (may : MayBeGiven (frame_of h t) w (batch_of h b)) (goes : GoesWith h (as_begun b) t w)
    (R : HasFitRound h b) (untouched : (e : ℕ) → created_as (as_begun b) e ≡ None → IsUntouched (as_begun b) e) (few : HasRoomForCalls b)
    (present : (e : ℕ) (c : Create) → IsPresent b e c → holders (loaded w (batch_of h b)) e ≡ 1) (v : World)
    (round : GoesThroughRound w (batch_of h b) v) (dies : round.gone ≡ (batch_of h b).destroys)
    (laws : Obeyed (frame_of h t) clients w (batch_of h b) v round) (ends : IsQuiet node_has_work v)
    (unshown : (x : ℕ) → NeverShown w x → Nowhere x (loaded w (batch_of h b)) → NeverShown v x) where
  abbrev B : Batch
  B = batch_of h b

  -- ---- numbers that were not created

  module _ (e : ℕ) (none : created_as b e ≡ None) where
    new_before : IsNew w e
    new_before = goes.known e (uncreated b e none).0

    absent_by : (k : ℕ) (r : RealView) → RealFrom w B.creates e k r → ⊥
    absent_by k r (was others q x at is) = let z = sym (ap real_in (new_before k)) ∙ at in cc
    absent_by k r (made x i ty orders) =
        none-some x (sym (uncreated b e none).1 ∙ made_now h some b t clients w keeps may goes R untouched few present e x i)

    nowhere_by : (k : ℕ) (o : Option RealView) → real_at e (loaded w B) k ≡ o → real_at e (loaded w B) k ≡ None
    nowhere_by k None at = at
    nowhere_by k (Some r) at =
        absurd (absent_by k r (real_comes h some b t clients w keeps may goes R untouched few present e k r at))

    unshown_ended : NeverShown v e
    unshown_ended =
        unshown e (goes.unshown e (uncreated b e none).0) (λ k. nowhere_by k (real_at e (loaded w B) k) refl)

    absent : holders (loaded w B) e ≡ 1 → ⊥
    absent one =
        let home = loaded_home (frame_of h t) clients w B keeps may v round laws e one in
        absent_by home.node home.real (real_comes h some b t clients w keeps may goes R untouched few present e home.node home.real
        home.here)

    absent_other : (q : ℕ) → holders (loaded w B) q ≡ 1 → q ≡ e → ⊥
    absent_other q one is = absent (subst (λ d. holders (loaded w B) d ≡ 1) is one)

    spared : AllByRecursion (λ q. q ≡ e → ⊥) round.gone
    spared =
        subst (AllByRecursion (λ q. q ≡ e → ⊥)) (sym dies)
        (all_turn (λ q. holders (loaded w B) q ≡ 1) (λ q. q ≡ e → ⊥) absent_other B.destroys may.reals.destroys)

    new_called : IsNew round.called e
    new_called =
        new_after_calls (frame_of h B.tree) e w keeps.reals.quiet keeps.reals.nodes.sound.square new_before round.called round.call_events
        round.calls_done B (others_of e B.creates (uncreated b e none).1)
        (all_turn (λ o. (d : ℕ) → order_about o.1 ≡ Some d → holders (loaded w B) d ≡ 1) (λ o. order_about o.1 ≡ Some e → ⊥)
        (λ o known is. absent (known e is)) B.orders may.reals.known) (in_frame (frame_of h t) w B (may_begin keeps may)) round.calls

    new_reaped : IsNew round.reaped e
    new_reaped =
        let r = laws.called.records.reals in
        new_after_reaps (frame_of h B.tree) e round.called r.quiet r.nodes.sound.square new_called round.reaped round.reap_events
        round.reaps_done round.gone spared
        (subst (IsInFrame (frame_of h B.tree)) (sym (nodes_after reap_ordered_at round.called round.gone))
        (reaps_framed (frame_of h B.tree) round.called r.nodes round.gone)) round.reaps

    new_ended : IsNew v e
    new_ended =
        let r = laws.reaped.records.reals in
        new_after_looks (frame_of h B.tree) e round.reaped r.quiet r.nodes.sound.square new_reaped v round.look_events ends
        (look_framed (frame_of h B.tree) round.reaped r.nodes tick refl) round.looks

  -- ---- live entities

  -- it is none that the round destroys
  spared_by : (e : ℕ) → list_any (destroys e) b.current ≡ false → AllByRecursion (λ x. x ≡ e → ⊥) round.gone
  spared_by e not =
      subst (AllByRecursion (λ x. x ≡ e → ⊥)) (sym dies)
      (all_turn (λ n. eqb n e ≡ false) (λ x. x ≡ e → ⊥) (λ n apart is. let z = sym (eq-eqb n e is) ∙ apart in cc)
      (filter_map destroyed b.current) (undestroyed_apart e b.current not))

  module _ (e : ℕ) (c : Create) (lives : live_as b e ≡ Some c) where
    one : holders (loaded w B) e ≡ 1
    one = present e c (live_is_present b e c lives)

    abbrev began : Home (loaded w B) e
    began = loaded_home (frame_of h t) clients w B keeps may v round laws e one

    abbrev end : Home v e
    end =
        end_home (frame_of h t) clients w B keeps may v round laws e
        (one_at_end (frame_of h t) clients w B keeps may v round laws e one (spared_by e (undestroyed b e c lives)))

    abbrev had_part : HasSettledPart (frame_of h B.tree) e began.real.ty (loaded w B)
    had_part = laws.ready e began.node began.real began.here

    abbrev has_part : HasSettledPart (frame_of h B.tree) e end.real.ty v
    has_part = laws.records.parts.parts e end.node end.real end.here

    same_type : end.real.ty ≡ c.ty
    same_type =
        type_at_end (frame_of h t) clients w B keeps may v round laws e end.node end.real end.here began.node began.real began.here
        ∙ type_by h b t w keeps.reals goes R untouched e began.node began.real
        (real_comes h some b t clients w keeps may goes R untouched few present e began.node began.real began.here) c
        (live_is_present b e c lives)

    next_cell : (s : ℕ) → next_from s end.real ≡ last_number (with_round_ended b) part.Cell e s + 1
    next_cell s =
        let first = next_by h b t w keeps.reals goes R untouched e began.node began.real
        (real_comes h some b t clients w keeps may goes R untouched few present e began.node began.real began.here) s in
        let more = next_at_end (frame_of h t) clients w B keeps may v round laws e end.node end.real end.here began.node began.real
        began.here s in
        let calls = ap length (cell_calls h some b R few t e s) in
        let all = counted b part.Cell e s in
        let same = last_ended b e part.Cell s in
        omega (arith, first, more, calls, all, same)

    next_base : (s : ℕ) → next_to s has_part.part ≡ last_number (with_round_ended b) part.Base e s + 1
    next_base s =
        let first = next_to_by h b t w keeps.reals goes R untouched e had_part.part
        (part_comes h some b t clients w keeps may goes R untouched few present e (base_node h e) had_part.part had_part.here) s in
        let more = next_to_at_end (frame_of h t) clients w B keeps may v round laws e end.node end.real end.here began.node began.real
        began.here s in
        let calls = ap length (base_calls h some b R few t e s) in
        let all = counted b part.Base e s in
        let same = last_ended b e part.Base s in
        omega (arith, first, more, calls, all, same)

    same_client : is_some end.real.witness ≡ has_client (with_round_ended b) e
    same_client =
        client_at_end (frame_of h t) clients w B keeps may v round laws e end.node end.real end.here began.node began.real began.here
        ∙ client_given h some b t clients w keeps may goes R untouched few present e had_part.part had_part.here began.node began.real
        (real_comes h some b t clients w keeps may goes R untouched few present e began.node began.real began.here)
        ∙ sym (client_of b e c lives)

    is_held : IsHeld h (with_round_ended b) v e c
    is_held = record {
      cell = end.node;
      real = end.real;
      here = end.here;
      type = same_type;
      client = same_client;
      base = has_part.part;
      base_here = has_part.here;
      base_type = has_part.type ∙ same_type;
      cell_calls = next_cell;
      base_calls = next_base;
    }

  -- ---- no others

  created_by : (e : ℕ) (c : Create) (x : Bool) → x ≡ false → created_as b e ≡ Some c → cond x None (created_as b e) ≡ Some c
  created_by e c x not is = ap (λ y. cond y None (created_as b e)) not ∙ is

  -- who was there at the load, and is not destroyed, lives
  lives_by : (e : ℕ) → list_any (destroys e) b.current ≡ false → (k : ℕ) (r : RealView) → RealFrom w B.creates e k r → Lives b e
  lives_by e not k r (was others q x at is) =
      let l = goes.reals e k q at in
      let c = l.0 in
      let before = created_begun b e in
      let some = sym before ∙ live_is_created (as_begun b) e c l.1 in (
        c,
        created_by e c (list_any (destroys e) (entries b)) (any_split b e (destroys e) ∙ ap (λ y. y || list_any (destroys e) b.current)
            (sym (any_begun b e (destroys e)) ∙ alive (as_begun b) e c l.1) ∙ not)
            (created_split b e ∙ ap (λ o. option_or o (made_among (creates_of b.current) e)) some),
      )
  lives_by e not k r (made x i ty orders) =
      let none = new_number h b t w keeps.reals goes R untouched e x i in (
        x,
        created_by e x (list_any (destroys e) (entries b)) (any_split b e (destroys e) ∙ ap (λ y. y || list_any (destroys e) b.current)
            (sym (any_begun b e (destroys e)) ∙ (untouched e none).end) ∙ not)
            (created_split b e ∙ ap (λ o. option_or o (made_among (creates_of b.current) e)) (sym (created_begun b e) ∙ none)
            ∙ made_now h some b t clients w keeps may goes R untouched few present e x i),
      )

  -- one that has a real at the end was not destroyed
  not_destroyed : (e k : ℕ) (q : RealView) → real_at e v k ≡ Some q → (x : Bool) → list_any (destroys e) b.current ≡ x → x ≡ false
  not_destroyed e k q at false is = refl
  not_destroyed e k q at true is =
      let there = was_reaped (frame_of h t) clients w B keeps may v round laws e k q at in
      let gone = of_destroyed (λ d. holders round.reaped d ≡ 0) e b.current
      (subst (AllByRecursion (λ d. holders round.reaped d ≡ 0)) dies laws.gone.reals) is in
      absurd (let z = sym ((counted_none round.reaped e gone).slots k) ∙ there.here in cc)

  real_lives_by : (e k : ℕ) (q : RealView) → real_at e v k ≡ Some q → Somewhere e (loaded w B) ⊎ Nowhere e (loaded w B) → Lives b e
  real_lives_by e k q at (inl p) =
      lives_by e (not_destroyed e k q at (list_any (destroys e) b.current) refl) p.0 p.1
      (real_comes h some b t clients w keeps may goes R untouched few present e p.0 p.1 p.2)
  real_lives_by e k q at (inr n) =
      let there = was_called (frame_of h t) clients w B keeps may v round laws e k q at in
      let none = counted_none round.called e
      (laws.calls.no_other e (nobody h some b t clients w keeps may goes R untouched few present e n)) in
      absurd (let z = sym (none.slots k) ∙ there.here in cc)

  abbrev Lives_ended : ℕ → Type 0
  Lives_ended e = Lives (with_round_ended b) e

  still_lives : (e : ℕ) → Lives b e → Lives_ended e
  still_lives e l = (l.0, live_ended b e ∙ l.1)

  real_lives : (e k : ℕ) (q : RealView) → real_at e v k ≡ Some q → Lives_ended e
  real_lives e k q at = still_lives e (real_lives_by e k q at (search_real e (loaded w B)))

  -- ---- base parts

  abbrev HasNone : ℕ → World → Type 0
  HasNone e u = (k : ℕ) → ((entity_flow e u).slot k).base.part ≡ None

  none_after_looks : (e : ℕ) → HasNone e round.reaped → HasNone e v
  none_after_looks e none =
      part_stays_gone (frame_of h B.tree) e (look_loaded round.reaped) v round.look_events
      (look_framed (frame_of h B.tree) round.reaped laws.reaped.records.reals.nodes tick refl)
      (looked_parts e round.reaped none) round.looks

  none_after_reaps : (e : ℕ) → HasNone e round.called → HasNone e round.reaped
  none_after_reaps e none =
      part_stays_gone (frame_of h B.tree) e (reaps_loaded round.called round.gone) round.reaped round.reap_events
      (subst (IsInFrame (frame_of h B.tree)) (sym (nodes_after reap_ordered_at round.called round.gone))
      (reaps_framed (frame_of h B.tree) round.called laws.called.records.reals.nodes round.gone))
      (reaped_parts e round.called none round.gone) round.reaps

  none_after_calls : (e : ℕ) → HasNone e (loaded w B) → HasNone e round.called
  none_after_calls e none =
      part_stays_gone (frame_of h B.tree) e (loaded w B) round.called round.call_events
      (in_frame (frame_of h t) w B (may_begin keeps may)) none round.calls

  part_lives_by : (e k : ℕ) (p : PartView) → ((entity_flow e v).slot k).base.part ≡ Some p →
      Somewhere e (loaded w B) ⊎ Nowhere e (loaded w B) → (x : Bool) → list_any (destroys e) b.current ≡ x → Lives b e
  part_lives_by e k p at (inl there) false not =
      lives_by e not there.0 there.1 (real_comes h some b t clients w keeps may goes R untouched few present e there.0 there.1 there.2)
  part_lives_by e k p at (inl there) true is =
      let gone = of_destroyed (λ d. HasNone d round.reaped) e b.current
      (subst (AllByRecursion (λ d. HasNone d round.reaped)) dies laws.gone.parts) is in
      absurd (let z = sym (none_after_looks e gone k) ∙ at in cc)
  part_lives_by e k p at (inr n) x is =
      let none = none_after_looks e (none_after_reaps e (none_after_calls e
      (λ j. no_part_there h some b t clients w keeps may goes R untouched few present e n j ((entity_flow e (loaded w B)).slot j).base.part
      refl))) k in
      absurd (let z = sym none ∙ at in cc)

  -- ---- all of it

  pub goes_again : GoesWith h (with_round_ended b) B.tree v
  goes_again = record {
    cells = omega arith;
    known = λ e none. new_ended e (sym (created_ended b e) ∙ none);
    unshown = λ e none. unshown_ended e (sym (created_ended b e) ∙ none);
    live = λ e c lives. is_held e c (sym (live_ended b e) ∙ lives);
    reals = real_lives;
    parts = λ e k p at.
        still_lives e (part_lives_by e k p at (search_real e (loaded w B)) (list_any (destroys e) b.current) refl);
  }
