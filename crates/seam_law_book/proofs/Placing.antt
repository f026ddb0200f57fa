-- The places that a round leaves, by the flat table.
use Rattle.seam_law_book.proofs.Prelude.{◌≡◌, ℕ, ◌+◌, ◌-◌, ◌≤◌, Bool, true, false, cond, List, [], ◌∷◌, ◌++◌, map, length, fold, Option}
use Rattle.seam_law_book.proofs.Prelude.{Some, None, refl, sym, ap, ◌∙◌, subst, arith, inl, inr, length-append, append_assoc, ◌==◌, ◌||◌}
use Rattle.seam_law_book.proofs.Prelude.{AllByRecursion, list_any, range_with_len, Division, Place, IsPlaceAfter, type_of, State}
use Rattle.seam_law_book.proofs.Prelude.{Call as CallData, Create, Part, Batch, RealView, holders, World, loaded, Header, creates_of, makes}
use Rattle.seam_law_book.proofs.Prelude.{tree_of, first_state, flat, Entry, entries, calls_of, created_as, live_as, accepted, IsFull}
use Rattle.seam_law_book.proofs.Prelude.{ClientReplica, Standing, distances, place_before, HasPlace, position_at, positions_past, real_at}
use Rattle.seam_law_book.proofs.Prelude.{positions_after, path_of, place_of, first_place, made_real, IsRightPlace, KeepsRecords, MayBeGiven}
use Rattle.seam_law_book.proofs.Prelude.{as_begun, made_among, IsPresent, HasFitRound, IsUntouched, frame_of, GoesWith, HasRoomForCalls}
use Rattle.seam_law_book.proofs.Prelude.{AreInTable, AreInPlace, differ, live_is_created, AreOthers, middle, none-some, batch_of}
use Rattle.std.proofs.Math.Seq.{take-length, take-append_seam}
use Rattle.seam_defs.specs.declared.flags.Part.TheVariants as part
use Rattle.seam_rule_lines.specs.declared.verdict.Entry.TheVariants as entry
use Rattle.seam_law_book.proofs.Untouched.{IsFromSender}
use Rattle.seam_law_book.proofs.Origins.{RealFrom, was, made}
use Rattle.seam_law_book.proofs.Fitting.{others_none, made_is, new_number, type_by}
use Rattle.seam_law_book.proofs.Accounts.{done_deed, one_more}
use Rattle.seam_law_book.proofs.Table.{none_ordered}

-- ---- who is made in the round

not_new : (e : ℕ) (xs : List Entry) → AreOthers e (creates_of xs) → list_any (makes e) xs ≡ false
not_new e [] others = refl
not_new e (entry.Created c ∷ xs) others =
    ap (λ y. y || list_any (makes e) xs) (differ c.entity e others.0) ∙ not_new e xs others.1
not_new e (_ ∷ xs) others = not_new e xs others

new_by : (c x : Create) (y z : Bool) (o : Option Create) → cond y (Some c) o ≡ Some x → (o ≡ Some x → z ≡ true) → (y || z) ≡ true
new_by c x true z o is rest = refl
new_by c x false z o is rest = rest is

made_is_new : (e : ℕ) (x : Create) (xs : List Entry) → made_among (creates_of xs) e ≡ Some x → list_any (makes e) xs ≡ true
made_is_new e x [] is = absurd (let z = is in cc)
made_is_new e x (entry.Created c ∷ xs) is =
    new_by c x (c.entity == e) (list_any (makes e) xs) (made_among (creates_of xs) e) is (made_is_new e x xs)
made_is_new e x (_ ∷ xs) is = made_is_new e x xs is

-- ---- positions

module _ (h : Header) (c : Create) where
  abbrev deed : State → CallData → State
  deed = done_deed (type_of h.defs c.ty)

  abbrev began : List CallData → State
  began before = flat h part.Cell c before (length before)

  began_is : (before more : List CallData) → position_at h c (before ++ more) (length before) ≡ (began before).pos
  began_is before more =
      ap (λ l. (fold deed (first_state h part.Cell c) l).pos) (take-append_seam before more ∙ sym (take-length before))

  -- where the entity is after each of these calls
  path_by : (before ks : List CallData) → positions_after (type_of h.defs c.ty) (began before) ks
      ≡ map (position_at h c (before ++ ks)) (range_with_len (length before + 1) (length ks))
  path_by before [] = refl
  path_by before (k ∷ ks) =
      let next = before ++ k ∷ [] in
      let same : next ++ ks ≡ before ++ k ∷ ks = append_assoc before (k ∷ []) ks in
      let longer : length next ≡ length before + 1 = length-append before (k ∷ []) in
      let head : (deed (began before) k).pos ≡ position_at h c (before ++ k ∷ ks) (length before + 1) =
      ap (λ (s : State). s.pos) (sym (one_more h part.Cell c before k)) ∙ sym (began_is next ks)
      ∙ ap (λ l. position_at h c l (length next)) same
      ∙ ap (position_at h c (before ++ k ∷ ks)) longer in
      let rest : positions_after (type_of h.defs c.ty) (deed (began before) k) ks
      ≡ map (position_at h c (before ++ k ∷ ks)) (range_with_len (length before + 1 + 1) (length ks)) =
      ap (λ s. positions_after (type_of h.defs c.ty) s ks) (sym (one_more h part.Cell c before k)) ∙ path_by next ks
      ∙ ap (λ l. map (position_at h c l) (range_with_len (length next + 1) (length ks))) same
      ∙ ap (λ n. map (position_at h c (before ++ k ∷ ks)) (range_with_len (n + 1) (length ks))) longer in
      ap (λ p. p ∷ positions_after (type_of h.defs c.ty) (deed (began before) k) ks) head
      ∙ ap (λ l. position_at h c (before ++ k ∷ ks) (length before + 1) ∷ l) rest

  minus : (a b : ℕ) → a + b - a ≡ b
  minus a b = omega arith

  pub path_is : (before ks : List CallData) → positions_after (type_of h.defs c.ty) (began before) ks
      ≡ positions_past h c (before ++ ks) (length before)
  path_is before ks =
      path_by before ks
      ∙ ap (λ n. map (position_at h c (before ++ ks)) (range_with_len (length before + 1) n))
      (sym (ap (λ n. n - length before) (length-append before ks) ∙ minus (length before) (length ks)))

-- ---- one place

module _ (h : Header) (s t : Standing) (c : Create) (k : ℕ) (q : RealView)
    (order : t.orders part.Cell c.entity ≡ s.orders part.Cell c.entity ++ q.done) (left : t.places c.entity ≡ place_of k q) where
  abbrev before : List CallData
  before = s.orders part.Cell c.entity

  -- the place is right by the rules where it is for a real that was in the table when the round began
  pub right_place : (tree : Division) (r : RealView) (former : Place) → r.ty ≡ c.ty → r.state ≡ flat h part.Cell c before (length before) →
      former ≡ place_before s c → IsRightPlace (frame_of h tree) (tree_of s.book) former r k q → HasPlace h s t c
  right_place tree r former type state place right =
      let start : r.state.pos ≡ position_at h c (t.orders part.Cell c.entity) (length before) =
      ap (λ (x : State). x.pos) state ∙ sym (began_is h c before q.done) ∙ ap (λ l. position_at h c l (length before)) (sym order) in
      let path : path_of (frame_of h tree) r q.done ≡ positions_past h c (t.orders part.Cell c.entity) (length before) =
      ap (λ y. positions_after (type_of h.defs y) r.state q.done) type
      ∙ ap (λ x. positions_after (type_of h.defs c.ty) x q.done) state ∙ path_is h c before q.done
      ∙ ap (λ l. positions_past h c l (length before)) (sym order) in
      subst (λ x. x) (λ i. IsPlaceAfter (distances h.settings) (tree_of s.book) (place i) (start i) (path i) (sym left i)) right

-- ---- a round

module _ (h : Header) (some : 1 ≤ h.settings.bases) (s : Standing) (tree : Division) (clients : ℕ → ClientReplica) (w : World)
    (keeps : KeepsRecords (frame_of h tree) clients w) (may : MayBeGiven (frame_of h tree) w (batch_of h s.book))
    (goes : GoesWith h (as_begun s.book) tree w) (R : HasFitRound h s.book)
    (untouched : (e : ℕ) → created_as (as_begun s.book) e ≡ None → IsUntouched (as_begun s.book) e) (few : HasRoomForCalls s.book)
    (present : (e : ℕ) (c : Create) → IsPresent s.book e c → holders (loaded w (batch_of h s.book)) e ≡ 1)
    (senders : AllByRecursion IsFromSender (calls_of (entries (as_begun s.book))))
    (full : (p : Part) (e : ℕ) → IsFull (accepted (as_begun s.book) p e) (s.orders p e)) (rows : AreInTable h (as_begun s.book) s.orders w)
    (there : AreInPlace s.places w) (t : Standing) (k : ℕ) (q : RealView) (c : Create) (lives : live_as s.book c.entity ≡ Some c)
    (order : t.orders part.Cell c.entity ≡ s.orders part.Cell c.entity ++ q.done) (left : t.places c.entity ≡ place_of k q) where
  abbrev B : Batch
  B = batch_of h s.book

  -- the rules' place for the real of the entity where the round began
  pub record Right : Type 0 where
    pub kept : (home : ℕ) (r : RealView) → real_at c.entity w home ≡ Some r →
        IsRightPlace (frame_of h tree) B.tree (place_of home r) r k q
    pub made : AllByRecursion (λ x. x.entity ≡ c.entity → IsRightPlace (frame_of h tree) B.tree (first_place B.tree x)
        (made_real (frame_of h tree) B.tree x) k q) B.creates

  pub placed_by : Right → (home : ℕ) (r : RealView) → RealFrom w B.creates c.entity home r → IsPresent s.book c.entity c → HasPlace h s t c
  placed_by right home r (was others x y at is) (inl before) =
      let row = rows c.entity home x c at before in
      let type = ap (λ (z : RealView). z.ty) is
      ∙ type_by h s.book tree w keeps.reals goes R untouched c.entity home r (was others x y at is) c (inl before) in
      let place : place_of home x ≡ place_before s c =
      sym (there c.entity home x at) ∙ sym (ap (λ n. cond n (first_place (tree_of s.book) c) (s.places c.entity))
      (not_new c.entity s.book.current others)) in
      right_place h s t c k q order left tree x (place_of home x) type row.state place (right.kept home x at)
  placed_by right home r (was others x y at is) (inr now) =
      absurd (none-some c (sym (others_none c.entity B.creates others) ∙ now))
  placed_by right home r (made x i ty ords) (inl before) =
      absurd (none-some c (sym (new_number h s.book tree w keeps.reals goes R untouched c.entity x i)
      ∙ live_is_created (as_begun s.book) c.entity c before))
  placed_by right home r (made x i ty ords) (inr now) =
      let none = none_ordered part.Cell c.entity (calls_of (entries (as_begun s.book))) senders
      ((untouched c.entity (new_number h s.book tree w keeps.reals goes R untouched c.entity x i)).calls part.Cell)
      (s.orders part.Cell c.entity) (full part.Cell c.entity) in
      let P : Create → Type 0 = λ x. x.entity ≡ c.entity → IsRightPlace (frame_of h tree) B.tree (first_place B.tree x)
      (made_real (frame_of h tree) B.tree x) k q in
      let here : P c = subst P (made_is c.entity B.creates x c i now)
      (middle P i.before x i.later (subst (AllByRecursion P) i.is right.made)) in
      let place : first_place B.tree c ≡ place_before s c =
      sym (ap (λ n. cond n (first_place (tree_of s.book) c) (s.places c.entity)) (made_is_new c.entity c s.book.current now)) in
      right_place h s t c k q order left tree (made_real (frame_of h tree) B.tree c) (first_place B.tree c) refl
      (ap (λ o. flat h part.Cell c o (length o)) (sym none)) place (here refl)
