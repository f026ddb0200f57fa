-- What a round leaves executed is what its lines brought, part by part.
use Rattle.seam_law_book.proofs.Prelude.{◌≡◌, ℕ, ◌≤◌, List, [], ◌∷◌, Some, None, refl, sym, ap, ◌∙◌, subst, arith, inl, inr, ◌⊎◌, Bool}
use Rattle.seam_law_book.proofs.Prelude.{true, false, cond, ◌==◌, ◌&&◌, slice_get, AllByRecursion, eqb-true, part_of_deed, type_of, is_for}
use Rattle.seam_law_book.proofs.Prelude.{same_part, rank_of, Event, Division, Part, Call as CallData, Create, Batch, cell_count, RealView}
use Rattle.seam_law_book.proofs.Prelude.{holders, World, node_has_work, loaded, Header, Book, calls_of, created_as, accepted, Orders}
use Rattle.seam_law_book.proofs.Prelude.{IsFull, ClientReplica, letters_of, mine, entity_flow, real_of, from_sender, RunsTo, real_at}
use Rattle.seam_law_book.proofs.Prelude.{real_in, ObeysLaws, EndsRightly, KeepsRecords, KeepsRecordsWithin, MayBeGiven, may_begin, as_begun}
use Rattle.seam_law_book.proofs.Prelude.{IsPresent, IsFitCall, calls_from, HasFitRound, IsUntouched, frame_of, base_node, GoesWith}
use Rattle.seam_law_book.proofs.Prelude.{HasRoomForCalls, done_by_real, done_by_part, done_in, with_done, IsDoneOn, real_here, quiet_links}
use Rattle.seam_law_book.proofs.Prelude.{differ, batch_of, counted_none, none_counts, both, in_frame, no_mail, one_holder, settled_loaded}
use Rattle.seam_law_book.proofs.Prelude.{Somewhere, Nowhere, search_real, part_stays_gone}
use Rattle.seam_defs.specs.declared.flags.Part.TheVariants as part
use Rattle.seam_law_book.proofs.Adding.{all_turn}
use Rattle.seam_law_book.proofs.Untouched.{IsFromSender, known_is_sender}
use Rattle.seam_law_book.proofs.Numbering.{cell_calls, base_calls}
use Rattle.seam_law_book.proofs.Fitting.{type_by}
use Rattle.seam_law_book.proofs.Started.{nobody, no_part_there, real_comes}
use Rattle.seam_law_book.proofs.Found.{real_is, part_is}
use Rattle.seam_law_book.proofs.Executed.{letters_are_of_place, all_by_place, one_in, none_in, executes_all}

part_by : (p q : Part) → same_part p q ≡ true → p ≡ q
part_by part.Cell part.Cell is = refl
part_by part.Base part.Base is = refl
part_by part.Cell part.Base is = cc
part_by part.Base part.Cell is = cc

-- calls to others are none of these
no_calls_to : (p : Part) (e n : ℕ) (cs : List CallData) → AllByRecursion (λ c. c.entity ≡ e → ⊥) cs → calls_from p e n cs ≡ []
no_calls_to p e n [] all = refl
no_calls_to p e n (c ∷ cs) all =
    ap (λ x. cond ((x && same_part c.part p) && (rank_of c.sender == n)) (c ∷ calls_from p e n cs) (calls_from p e n cs))
    (differ c.entity e all.0) ∙ no_calls_to p e n cs all.1

module _ (h : Header) (some : 1 ≤ h.settings.bases) (b : Book) (t : Division) (clients : ℕ → ClientReplica) (w : World)
    (keeps : KeepsRecords (frame_of h t) clients w) (may : MayBeGiven (frame_of h t) w (batch_of h b))
    (goes : GoesWith h (as_begun b) t w) (R : HasFitRound h b)
    (untouched : (e : ℕ) → created_as (as_begun b) e ≡ None → IsUntouched (as_begun b) e) (few : HasRoomForCalls b)
    (present : (e : ℕ) (c : Create) → IsPresent b e c → holders (loaded w (batch_of h b)) e ≡ 1)
    (v : World) (es : List Event) (run : RunsTo (loaded w (batch_of h b)) es v)
    (laws : ObeysLaws (frame_of h t) clients w (batch_of h b) v)
    (ends : (e home : ℕ) (r : RealView) → real_in ((entity_flow e (loaded w (batch_of h b))).slot home) ≡ Some r → (k : ℕ) (q : RealView) →
    real_in ((entity_flow e v).slot k) ≡ Some q → EndsRightly (frame_of h t) (batch_of h b) e home r k q v) (then : ℕ → ClientReplica)
    (within : KeepsRecordsWithin (frame_of h (batch_of h b).tree) then v) where
  abbrev B : Batch
  B = batch_of h b

  -- ---- an entity without a real

  module _ (e : ℕ) (n : Nowhere e v) where
    none_at_end : holders v e ≡ 0
    none_at_end = none_counts v e (record {
      slots = n;
      mail = λ x y. ap (λ l. letters_of real_of (letters_of (mine e) l))
          (quiet_links node_has_work v within.records.reals.nodes.sound.square within.records.reals.quiet x y);
    })

    not_there : holders (loaded w B) e ≡ 1 → ⊥
    not_there one = let a = laws.one_real e one in let z = none_at_end in omega (arith, a, z)

    no_calls : (p : Part) (m : ℕ) → calls_from p e m (calls_of b.current) ≡ []
    no_calls p m =
        no_calls_to p e m (calls_of b.current)
        (all_turn (IsFitCall h b) (λ c. c.entity ≡ e → ⊥)
        (λ c fit is. not_there (subst (λ d. holders (loaded w B) d ≡ 1) is (present c.entity fit.made fit.present))) (calls_of b.current)
        R.calls)

    loaded_by : Somewhere e (loaded w B) ⊎ Nowhere e (loaded w B) → Nowhere e (loaded w B)
    loaded_by (inr none) = none
    loaded_by (inl p) =
        absurd (not_there (one_holder (frame_of h B.tree) (loaded w B) e p.0 p.1
        (settled_loaded (frame_of h t) w B (may_begin keeps may) e p.0 p.1 p.2) (no_mail (frame_of h t) w B (may_begin keeps may) e)))

    no_part : ((entity_flow e v).slot (base_node h e)).base.part ≡ None
    no_part =
        part_stays_gone (frame_of h B.tree) e (loaded w B) v es (in_frame (frame_of h t) w B (may_begin keeps may))
        (λ j. no_part_there h some b t clients w keeps may goes R untouched few present e (loaded_by (search_real e (loaded w B))) j
        ((entity_flow e (loaded w B)).slot j).base.part refl) run (base_node h e)

  -- the real that an entity had where it has one now
  pub began_by : (e k : ℕ) (q : RealView) → real_at e v k ≡ Some q → Somewhere e (loaded w B) ⊎ Nowhere e (loaded w B) →
      Somewhere e (loaded w B)
  began_by e k q at (inl p) = p
  began_by e k q at (inr n) =
      let none = counted_none v e (laws.no_other e (nobody h some b t clients w keeps may goes R untouched few present e n)) in
      absurd (let z = sym (none.slots k) ∙ at in cc)

  ended : (e k : ℕ) (q : RealView) (at : real_in ((entity_flow e v).slot k) ≡ Some q) →
      let p = began_by e k q at (search_real e (loaded w B)) in EndsRightly (frame_of h t) B e p.0 p.1 k q v
  ended e k q at =
      let p = began_by e k q at (search_real e (loaded w B)) in
      ends e p.0 p.1 p.2 k q at

  -- ---- each part

  pub done_cell : (e k : ℕ) (q : RealView) → real_at e v k ≡ Some q → done_in h v part.Cell e ≡ q.done
  done_cell e k q at =
      let settled = within.records.reals.settled e k q at in
      let home = settled.fits.home in
      let most = within.records.reals.frame.tree.cells_to in
      one_in (λ j. done_by_real (real_here e (slice_get v.nodes j))) k 0 cell_count (omega arith) (omega (arith, home, most))
      (λ j n. ap done_by_real (real_is e v j ∙ settled.others j n))
      ∙ ap done_by_real (real_is e v k ∙ at)

  none_done : (e : ℕ) → Nowhere e v → done_in h v part.Cell e ≡ []
  none_done e n =
      none_in (λ j. done_by_real (real_here e (slice_get v.nodes j))) 0 cell_count (λ j le. ap done_by_real (real_is e v j ∙ n j))

  executed_cell : (e : ℕ) → Somewhere e v ⊎ Nowhere e v → (n : ℕ) →
      letters_of (from_sender n) (done_in h v part.Cell e) ≡ calls_from part.Cell e n (calls_of b.current)
  executed_cell e (inl p) n =
      ap (letters_of (from_sender n)) (done_cell e p.0 p.1 p.2) ∙ (ended e p.0 p.1 p.2).cell_calls n ∙ cell_calls h some b R few t e n
  executed_cell e (inr none) n = ap (letters_of (from_sender n)) (none_done e none) ∙ sym (no_calls e none part.Cell n)

  executed_base : (e : ℕ) → Somewhere e v ⊎ Nowhere e v → (n : ℕ) →
      letters_of (from_sender n) (done_in h v part.Base e) ≡ calls_from part.Base e n (calls_of b.current)
  executed_base e (inl p) n =
      let had = within.records.parts.parts e p.0 p.1 p.2 in
      ap (λ o. letters_of (from_sender n) (done_by_part o)) (part_is e v (base_node h e) ∙ had.here)
      ∙ (ended e p.0 p.1 p.2).base_calls (base_node h e) had.part had.here n ∙ base_calls h some b R few t e n
  executed_base e (inr none) n =
      ap (λ o. letters_of (from_sender n) (done_by_part o)) (part_is e v (base_node h e) ∙ no_part e none)
      ∙ sym (no_calls e none part.Base n)

  executed : (p : Part) (e n : ℕ) → letters_of (from_sender n) (done_in h v p e) ≡ calls_from p e n (calls_of b.current)
  executed part.Cell e n = executed_cell e (search_real e v) n
  executed part.Base e n = executed_base e (search_real e v) n

  -- what an entity's part executed was done on it
  module _ (e k : ℕ) (q : RealView) (at : real_at e v k ≡ Some q) (c : Create) (is_present : IsPresent b e c) (p : Part) where
    abbrev Its : CallData → Type 0
    Its = IsDoneOn p (type_of h.defs c.ty)

    same_type : (m : Create) → IsPresent b e m → m.ty ≡ c.ty
    same_type m also =
        let was = began_by e k q at (search_real e (loaded w B)) in
        let type = type_by h b t w keeps.reals goes R untouched e was.0 was.1
        (real_comes h some b t clients w keeps may goes R untouched few present e was.0 was.1 was.2) in
        sym (type m also) ∙ type c is_present

    is_done_on : (x : CallData) → IsFitCall h b x → is_for p e x ≡ true → Its x
    is_done_on x fit is =
        let for_it = both (x.entity == e) (same_part x.part p) is in
        let made = fit.made in
        sym (part_by x.part p for_it.1) ∙ fit.part ∙ ap (λ y. part_of_deed (type_of h.defs y) x.deed)
        (same_type made (subst (λ d. IsPresent b d made) (eqb-true x.entity e for_it.0) fit.present))

    kept_call : (n : ℕ) (x : CallData) (cs : List CallData) (y : Bool) → (is_for p e x && (rank_of x.sender == n)) ≡ y → IsFitCall h b x →
        AllByRecursion Its cs → AllByRecursion Its (cond y (x ∷ cs) cs)
    kept_call n x cs true is fit all = (is_done_on x fit (both (is_for p e x) (rank_of x.sender == n) is).0, all)
    kept_call n x cs false is fit all = all

    called_from : (n : ℕ) (cs : List CallData) → AllByRecursion (IsFitCall h b) cs → AllByRecursion Its (calls_from p e n cs)
    called_from n [] all = tt
    called_from n (x ∷ cs) all =
        kept_call n x (calls_from p e n cs) (is_for p e x && (rank_of x.sender == n)) refl all.0 (called_from n cs all.1)

    pub done_on : AllByRecursion Its (done_in h v p e)
    done_on =
        all_by_place Its (done_in h v p e)
        (λ n. subst (AllByRecursion Its) (sym (sym (letters_are_of_place n (done_in h v p e)) ∙ executed p e n))
        (called_from n (calls_of b.current) R.calls))

  pub all_executed : (orders : Orders) → ((p : Part) (e : ℕ) → IsFull (accepted (as_begun b) p e) (orders p e)) → (p : Part) (e : ℕ) →
      IsFull (accepted b p e) (with_done orders (done_in h v) p e)
  all_executed orders full p e =
      executes_all b p e (all_turn (IsFitCall h b) IsFromSender (λ c fit. known_is_sender h c.sender fit.sender) (calls_of b.current)
      R.calls)
      (done_in h v p e) (executed p e) (orders p e) (full p e)
