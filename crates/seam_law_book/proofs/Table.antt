-- After a round each real is what the flat table has of its entity.
use Rattle.seam_law_book.proofs.Prelude.{◌≡◌, ℕ, ◌≤◌, true, cond, List, [], ◌∷◌, ◌++◌, length, Some, None, refl, sym, ap, ◌∙◌, subst, inl}
use Rattle.seam_law_book.proofs.Prelude.{inr, ◌⊎◌, filter, cases_eq, eq-eqb, AllByRecursion, none-some, sole_here, Division, leaf_at}
use Rattle.seam_law_book.proofs.Prelude.{type_of, Part, is_from, IsSender, same_sender, rank_of, Sender, Call as CallData, Create, Batch}
use Rattle.seam_law_book.proofs.Prelude.{RealView, real_begins, World, loaded, holders, Header, Book, entries, calls_of, created_as}
use Rattle.seam_law_book.proofs.Prelude.{accepted, flat, public_at, Orders, of_sender, IsFull, ClientReplica, entity_flow, real_in, real_of}
use Rattle.seam_law_book.proofs.Prelude.{OneFrom, Account, account_of, after_calls, real_at, made_real, BeginsAt, ObeysLaws, KeepsRecords}
use Rattle.seam_law_book.proofs.Prelude.{MayBeGiven, may_begin, as_begun, IsPresent, calls_from, HasFitRound, IsUntouched, frame_of}
use Rattle.seam_law_book.proofs.Prelude.{GoesWith, HasRoomForCalls, IsInTable, AreInTable, BeginsReal, IsDoneOn, batch_of, live_is_created}
use Rattle.seam_law_book.proofs.Prelude.{middle, real_loaded, settled_loaded}
use Rattle.seam_defs.specs.declared.flags.Part.TheVariants as part
use Rattle.seam_call.specs.declared.sender.Sender.TheVariants as sender
use Rattle.seam_law_book.proofs.Untouched.{IsFromSender, accepted_by_place}
use Rattle.seam_law_book.proofs.Accounts.{done_after, Agrees, agrees_after, in_table_by}
use Rattle.seam_law_book.proofs.Origins.{IsCreate, RealFrom, was, made}
use Rattle.seam_law_book.proofs.Fitting.{others_none, made_is, new_number, type_by}
use Rattle.seam_law_book.proofs.Started.{real_comes}
use Rattle.seam_law_book.proofs.Executed.{none_from, sender_or_not}

-- ---- an order of nothing

same_self : (s : Sender) → same_sender s s ≡ true
same_self (sender.Base n) = eq-eqb n n refl
same_self (sender.Client e) = eq-eqb e e refl

module _ (p : Part) (e : ℕ) (cs : List CallData) (senders : AllByRecursion IsFromSender cs) (none : (n : ℕ) → calls_from p e n cs ≡ [])
  where
    none_by : (n : ℕ) → IsSender (sender.Base n) ⊎ (IsSender (sender.Base n) → ⊥) → filter (is_from p e (sender.Base n)) cs ≡ []
    none_by n (inl is) = accepted_by_place p e (sender.Base n) is cs senders ∙ none (rank_of (sender.Base n))
    none_by n (inr not) = none_from n not p e cs senders

    none_accepted : (s : Sender) → filter (is_from p e s) cs ≡ []
    none_accepted (sender.Base n) = none_by n (sender_or_not n)
    none_accepted (sender.Client d) = accepted_by_place p e (sender.Client d) tt cs senders ∙ none (rank_of (sender.Client d))

    pub none_ordered : (order : List CallData) → IsFull (λ s. filter (is_from p e s) cs) order → order ≡ []
    none_ordered [] full = refl
    none_ordered (c ∷ order) full =
        let first = ap (λ x. cond x (c ∷ of_sender c.sender order) (of_sender c.sender order)) (same_self c.sender) in
        absurd (let z = sym first ∙ full c.sender ∙ none_accepted c.sender in cc)

-- ---- a round

module _ (h : Header) (some : 1 ≤ h.settings.bases) (b : Book) (t : Division) (clients : ℕ → ClientReplica) (w : World)
    (keeps : KeepsRecords (frame_of h t) clients w) (may : MayBeGiven (frame_of h t) w (batch_of h b))
    (goes : GoesWith h (as_begun b) t w) (R : HasFitRound h b)
    (untouched : (e : ℕ) → created_as (as_begun b) e ≡ None → IsUntouched (as_begun b) e) (few : HasRoomForCalls b)
    (present : (e : ℕ) (c : Create) → IsPresent b e c → holders (loaded w (batch_of h b)) e ≡ 1)
    (senders : AllByRecursion IsFromSender (calls_of (entries (as_begun b)))) (orders : Orders)
    (full : (p : Part) (e : ℕ) → IsFull (accepted (as_begun b) p e) (orders p e)) (rows : AreInTable h (as_begun b) orders w)
    (begins : AllByRecursion (λ x. BeginsAt w (batch_of h b) x.entity (leaf_at (batch_of h b).tree x.pos)
    (made_real (frame_of h t) (batch_of h b).tree x)) (batch_of h b).creates) where
  abbrev B : Batch
  B = batch_of h b

  abbrev Start : ℕ → Create → RealView → Type 0
  Start e c r = IsInTable h c (orders part.Cell e) r

  -- ---- as the batch is loaded

  module _ (e : ℕ) (c : Create) (there : IsPresent b e c) (home : ℕ) (r : RealView) (here : real_at e (loaded w B) home ≡ Some r) where
    abbrev Begins : Create → Type 0
    Begins x = BeginsAt w B x.entity (leaf_at B.tree x.pos) (made_real (frame_of h t) B.tree x)

    begins_at : (x : Create) → IsCreate e B.creates x → Begins x
    begins_at x i = middle Begins i.before x i.later (subst (AllByRecursion Begins) i.is begins)

    -- the real of an entity that is created
    made_is_here : (x : Create) (i : IsCreate e B.creates x) →
        record (real_begins (made_real (frame_of h t) B.tree x)) { witness = (begins_at x i).witness } ≡ r
    made_is_here x i =
        let leaf = leaf_at B.tree x.pos in
        let settled = settled_loaded (frame_of h t) w B (may_begin keeps may) e home r here in
        let there : real_at e (loaded w B) leaf
        ≡ Some (record (real_begins (made_real (frame_of h t) B.tree x)) { witness = (begins_at x i).witness }) =
        subst (λ d. real_at d (loaded w B) leaf
        ≡ Some (record (real_begins (made_real (frame_of h t) B.tree x)) { witness = (begins_at x i).witness })) i.entity
        (begins_at x i).here in
        elim (cases_eq leaf home) [
          | inl is ↦ (let z = sym there ∙ (ap (λ j. real_at e (loaded w B) j) is ∙ here) in cc)
          | inr n ↦ absurd (let z = sym (settled.others leaf n) ∙ there in cc)
        ]

    new_started : (x : Create) → IsCreate e B.creates x → Start e x r
    new_started x i =
        let none = none_ordered part.Cell e (calls_of (entries (as_begun b))) senders
        ((untouched e (new_number h b t w keeps.reals goes R untouched e x i)).calls part.Cell) (orders part.Cell e) (full part.Cell e) in
        let same = made_is_here x i in
        record {
          version = sym (ap (λ (y : RealView). y.version) same) ∙ ap length (sym none);
          state = sym (ap (λ (y : RealView). y.state) same) ∙ ap (λ o. flat h part.Cell x o (length o)) (sym none);
          public = sym (ap (λ (y : RealView). y.public) same) ∙ ap (λ o. public_at h x o (length o)) (sym none);
        }

    start_by : RealFrom w B.creates e home r → IsPresent b e c → Start e c r
    start_by (was others q x at is) (inl before) =
        let row = rows e home q c at before in
        subst (Start e c) is (record { version = row.version; state = row.state; public = row.public })
    start_by (was others q x at is) (inr now) = absurd (none-some c (sym (others_none e B.creates others) ∙ now))
    start_by (made x i ty ords) (inl before) =
        absurd (none-some c (sym (new_number h b t w keeps.reals goes R untouched e x i) ∙ live_is_created (as_begun b) e c before))
    start_by (made x i ty ords) (inr now) =
        subst (λ y. Start e y r) (made_is e B.creates x c i now) (new_started x i)

    idle : r.done ≡ []
    idle = (real_loaded (frame_of h t) w B (may_begin keeps may) e home r here).idle

    types : r.ty ≡ c.ty
    types =
        type_by h b t w keeps.reals goes R untouched e home r
        (real_comes h some b t clients w keeps may goes R untouched few present e home r here) c there

    pub starts : Start e c r
    starts =
        start_by (real_comes h some b t clients w keeps may goes R untouched few present e home r here) there

    pub begins_real : BeginsReal h c (orders part.Cell e) r
    begins_real = record { type = types; idle = idle; row = starts }

    -- ---- where the calls leave the world quiet

    module _ (v : World) (laws : ObeysLaws (frame_of h t) clients w B v) (k : ℕ) (q : RealView) (at : real_at e v k ≡ Some q) where
      abbrev its : OneFrom (frame_of h B.tree) e r.ty r v
      its = (laws.each e home r here).replays

      it_is : q ≡ its.has.real
      it_is = (sole_here real_in real_of (entity_flow e v) its.has.place its.has.real q k its.has.one at).1

      its_account : account_of q ≡ after_calls (type_of h.defs r.ty) (account_of r) its.replays.further
      its_account = ap account_of it_is ∙ its.replays.account

      further_is : q.done ≡ its.replays.further
      further_is =
          ap (λ (a : Account). a.done) its_account ∙ done_after (type_of h.defs r.ty) (account_of r) its.replays.further
          ∙ ap (λ l. l ++ its.replays.further) idle

      pub in_table : (done : List CallData) → done ≡ q.done → AllByRecursion (IsDoneOn part.Cell (type_of h.defs c.ty)) done →
          IsInTable h c (orders part.Cell e ++ done) q
      in_table done is deeds =
          let further = its.replays.further in
          let same : done ≡ further = is ∙ further_is in
          let begun : Agrees h c (orders part.Cell e) (account_of r) =
          record { version = starts.version; state = starts.state; public = starts.public } in
          let so = agrees_after h c (orders part.Cell e) (account_of r) further
          (subst (AllByRecursion (IsDoneOn part.Cell (type_of h.defs c.ty))) same deeds) begun in
          let account : after_calls (type_of h.defs c.ty) (account_of r) further ≡ account_of q =
          sym (its_account ∙ ap (λ y. after_calls (type_of h.defs y) (account_of r) further) types) in
          subst (λ l. IsInTable h c (orders part.Cell e ++ l) q) (sym same)
          (in_table_by h c (orders part.Cell e ++ further) q (subst (Agrees h c (orders part.Cell e ++ further)) account so))
