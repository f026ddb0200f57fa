-- A settling that begins, and what it leaves.
use Rattle.std.proofs.Common.{◌≡◌, ◌≢◌, ◌+◌, ◌++◌, ℕ, Bool, true, false, cond, eqb, List, [], ◌∷◌, Option, None, Some, is_none}
use Rattle.std.proofs.Common.{length, refl, ap, sym, subst, ◌∙◌, append_assoc, append-nil, nat_lt, arith}
use Rattle.std.proofs.lemmas.List.{length-append}
use Rattle.std.specs.Prelude.{◌==◌, ◌||◌}
use Rattle.std.specs.List.{filter_map, cons_option}
use Rattle.std.specs.FinMap as table
use Rattle.std.specs.FinSet as set
use Rattle.std.proofs.lemmas.Bool.Decides.{nat_tests}
use Rattle.seam_node_steps.specs.Prelude.{Pos, Division, Cells, Ghost, BookView, beat_of, with_ghost, after_message, ghost_after, GhostCopy}
use Rattle.seam_node_steps.specs.Prelude.{Here, cell_numbers, RealView, TypeDef, State, copy_of_real, copy_with, settled_to, node_with}
use Rattle.seam_node_steps.specs.Prelude.{Boundaries, Msg, brought}
use Rattle.seam_node_steps.specs.Prelude.{Hand, Map, set_at, has_any, Slot, beat_after, home_after, haunts_at, told, told_unless}
use Rattle.seam_node_steps.specs.Prelude.{ghost_message, ghost_messages, copy_if, gone_to, settled_by, settled, Telling}
use Rattle.seam_node_steps.specs.Settle.{stayed}
use Rattle.seam_node_steps.proofs.Slots.{set_at-same}
use Rattle.seam_cell_parts.specs.declared.settle.Begun.{Begun}
use Rattle.seam_cell_parts.specs.News.{IsTellingOf, news}
use Rattle.seam_cell_parts.specs.Settling.{former, staying, going, IsGone, IsAtRest}
use Rattle.seam_cell_parts.specs.Stepping.{telling_at, IsLater, heard, told_of, HasBegun, PartsView, slot_in, IsDone}
use Rattle.seam_cell_parts.proofs.NewsLemmas.{all_told}

same_number : (a b : ℕ) → eqb a b ≡ true → a ≡ b
same_number a b t = grind (arith, nat_tests)

pub equal_test : (a b : ℕ) → a ≡ b → eqb a b ≡ true
equal_test a b t = grind (arith, nat_tests)

pub other_test : (a b : ℕ) → a ≢ b → eqb a b ≡ false
other_test a b t = grind (arith, nat_tests)

-- what is told, from a plan
pub told_from : (h : Here) (t : Division) (r : RealView) (p : Pos) (changed : Bool) (told : Telling) → told.me ≡ h.me →
    told.home ≡ home_after h t p → told.old ≡ r.haunts →
    told.haunts ≡ haunts_at h t p (home_after h t p) (former h.me (home_after h t p) r.haunts) → told.changed ≡ changed →
    told.entity ≡ r.entity → told.beat ≡ r.beat + 1 → told ≡ telling_at h t r p changed
told_from h t r p changed told me home old haunts same entity beat = λ i. record {
  me = me i;
  home = home i;
  old = old i;
  haunts = haunts i;
  changed = same i;
  entity = entity i;
  beat = beat i;
}

-- the copy of a real of that type, public version and state
pub copy_is : (h : Here) (defs : List TypeDef) (r : RealView) (ty version : ℕ) (state : State) → defs ≡ h.defs → r.ty ≡ ty →
    r.public ≡ version → r.state ≡ state → copy_with (node_with defs h.me h.settings) ty version state ≡ copy_of_real h r
copy_is h defs r ty version state same ty_is public_is state_is =
    λ i. copy_with (node_with (same i) h.me h.settings) (sym ty_is i) (sym public_is i) (sym state_is i)

-- ---- a settling that begins

abbrev copy_kept : Telling → GhostCopy → Option GhostCopy
copy_kept told g = copy_if (set.contains told.haunts told.me) g

-- of a real that goes the own book hears
pub heard_away : (told : Telling) (g : GhostCopy) (ghosts : Map (Ghost GhostCopy)) → eqb told.home told.me ≡ false →
    heard told g ghosts ≡ set_at ghosts told.entity
    (ghost_after (table.get ghosts told.entity) (record { beat = told.beat; copy = copy_kept told g }))
heard_away told g ghosts test =
    ap (λ b. cond b ghosts (set_at ghosts told.entity
    (ghost_after (table.get ghosts told.entity) (record { beat = told.beat; copy = copy_kept told g })))) test

pub heard_here : (told : Telling) (g : GhostCopy) (ghosts : Map (Ghost GhostCopy)) → eqb told.home told.me ≡ true →
    heard told g ghosts ≡ ghosts
heard_here told g ghosts test =
    ap (λ b. cond b ghosts (set_at ghosts told.entity
    (ghost_after (table.get ghosts told.entity) (record { beat = told.beat; copy = copy_kept told g })))) test

pub any_sent : {A : Type 0} (before more : List A) → nat_lt (length before) (length (before ++ more)) ≡ has_any more
any_sent before [] = let same = length-append before [] in grind (arith, nat_tests, same)
any_sent before (x ∷ more) = let longer = length-append before (x ∷ more) in grind (arith, nat_tests, longer)

module _ (h : Here) (t : Boundaries) (r later : RealView) (changed : Bool) (is : IsLater r later) where
  same_telling : (p : Pos) → telling_at h t.tree r p changed ≡ telling_at h t.tree later p changed
  same_telling p = λ i. record {
    me = h.me;
    home = home_after h t.tree p;
    old = sym is.haunts i;
    haunts = haunts_at h t.tree p (home_after h t.tree p) (former h.me (home_after h t.tree p) (sym is.haunts i));
    changed = changed;
    entity = sym is.entity i;
    beat = sym is.beat i + 1;
  }

  module _ (told : Telling) (g : GhostCopy) (is_told : told ≡ telling_at h t.tree r later.state.pos changed)
      (copy : g ≡ copy_of_real h later) (before after : PartsView) (b : Begun) where
    told_later : told ≡ telling_at h t.tree later later.state.pos changed
    told_later = is_told ∙ same_telling later.state.pos

    tells : IsTellingOf h later told g
    tells = record {
      me = ap (λ x. x.me) told_later;
      entity = ap (λ x. x.entity) told_later;
      beat = ap (λ x. x.beat) told_later;
      old = ap (λ x. x.old) told_later;
      copy = copy;
    }

    pub begun_is : b.telling ≡ told → b.has_told ≡ nat_lt (length before.sent) (length after.sent) →
        ((told.home == told.me) ≡ false → b.brought ≡ brought t) → after.nexts ≡ before.nexts →
        after.ghosts ≡ heard told g before.ghosts → after.sent ≡ before.sent ++ news told g 16 → HasBegun h t later changed before after b
    begun_is kept some brings nexts ghosts sent =
        let all : after.sent ≡ before.sent ++ told_of h later b.telling =
        sent ∙ (ap (λ l. before.sent ++ l) (all_told h later told g tells) ∙ ap (λ x. before.sent ++ told_of h later x) (sym kept)) in
        record {
          telling = kept ∙ told_later;
          has_told =
              some
              ∙ (ap (λ l. nat_lt (length before.sent) (length l)) all ∙ any_sent before.sent (told_of h later b.telling));
          brought = subst (λ (x : Telling). (x.home == x.me) ≡ false → b.brought ≡ brought t) (sym kept) brings;
          nexts = nexts;
          ghosts = ghosts ∙ (λ i. heard (sym kept i) (copy i) before.ghosts);
          sent = all;
        }

-- ---- what settling leaves

module _ (h : Here) (t : Boundaries) (s : Slot) (r : RealView) (changed : Bool) (told : Telling)
    (is : told ≡ telling_at h t.tree r r.state.pos changed) where
  home_is : told.home ≡ home_after h t.tree r.state.pos
  home_is = ap (λ x. x.home) is

  me_is : told.me ≡ h.me
  me_is = ap (λ x. x.me) is

  test_is : (b : Bool) → eqb told.home told.me ≡ b → eqb (home_after h t.tree r.state.pos) h.me ≡ b
  test_is b test = (λ i. eqb (sym home_is i) (sym me_is i)) ∙ test

  haunts_by : (b : Bool) → eqb told.home told.me ≡ b → told.haunts
      ≡ haunts_at h t.tree r.state.pos (home_after h t.tree r.state.pos) (cond b r.haunts (set.insert r.haunts h.me))
  haunts_by b test =
      ap (λ x. x.haunts) is
      ∙ ap (λ x. haunts_at h t.tree r.state.pos (home_after h t.tree r.state.pos) (cond x r.haunts (set.insert r.haunts h.me)))
      (test_is b test)

  changed_is : ghost_messages h r told.home told.haunts changed ≡ told_of h r told
  changed_is = ap (ghost_messages h r told.home told.haunts) (sym (ap (λ x. x.changed) is))

  pub stays_is : eqb told.home told.me ≡ true → settled h t s r changed ≡ stayed s r told.haunts (told_of h r told)
  stays_is test =
      let same : home_after h t.tree r.state.pos ≡ h.me = same_number _ _ (test_is true test) in
      let haunts : haunts_at h t.tree r.state.pos h.me r.haunts ≡ told.haunts =
      sym (haunts_by true test ∙ ap (λ j. haunts_at h t.tree r.state.pos j r.haunts) same) in
      let home : h.me ≡ told.home = sym same ∙ sym home_is in
      ap (λ b. settled_by b h t s r changed (home_after h t.tree r.state.pos)) (test_is true test)
      ∙ ((λ i. stayed s r (haunts i) (ghost_messages h r (home i) (haunts i) changed)) ∙ ap (stayed s r told.haunts) changed_is)

  pub goes_is : eqb told.home told.me ≡ false → settled h t s r changed ≡ gone_to h t s r told.home told.haunts (told_of h r told)
  goes_is test =
      let haunts : haunts_at h t.tree r.state.pos (home_after h t.tree r.state.pos) (set.insert r.haunts h.me) ≡ told.haunts =
      sym (haunts_by false test) in
      ap (λ b. settled_by b h t s r changed (home_after h t.tree r.state.pos)) (test_is false test)
      ∙ ((λ i. gone_to h t s r (sym home_is i) (haunts i) (ghost_messages h r (sym home_is i) (haunts i) changed))
      ∙ ap (gone_to h t s r told.home told.haunts) changed_is)

-- the beat rises where anything is told
pub beat_by : {A : Type 0} (b : Bool) (sent : List A) (beat : ℕ) → b ≡ has_any sent → cond b (beat + 1) beat ≡ beat_after sent beat
beat_by b [] beat is = ap (λ x. cond x (beat + 1) beat) is
beat_by b (m ∷ ms) beat is = ap (λ x. cond x (beat + 1) beat) is

module _ (h : Here) (t : Boundaries) (r was : RealView) (changed : Bool) (left : Option RealView) (before begun after : PartsView)
    (b : Begun) (is : HasBegun h t r changed before begun b) where
  abbrev Settles : Type 0
  Settles = IsDone (settled h t (slot_in before r.entity was) r changed) r.entity was left before after

  pub stay_done : eqb b.telling.home b.telling.me ≡ true → left ≡ Some (staying r b) → after.nexts ≡ begun.nexts →
      after.ghosts ≡ begun.ghosts → after.sent ≡ begun.sent → Settles
  stay_done test stays nexts ghosts sent =
      let real : left ≡ Some (settled_to r b.telling.haunts (beat_after (told_of h r b.telling) r.beat) r.generation) =
      stays ∙ ap (λ n. Some (settled_to r b.telling.haunts n r.generation)) (beat_by b.has_told (told_of h r b.telling) r.beat is.has_told)
      in
      subst (λ x. IsDone x r.entity was left before after)
      (sym (stays_is h t (slot_in before r.entity was) r changed b.telling is.telling test))
      (record {
        real = real;
        nexts = nexts ∙ (is.nexts ∙ sym (set_at-same before.nexts r.entity));
        ghosts =
            ghosts
            ∙ (is.ghosts
            ∙ (heard_here b.telling (copy_of_real h r) before.ghosts test ∙ sym (set_at-same before.ghosts r.entity)));
        sent = sent ∙ is.sent;
        unlisted = ap is_none (sym real);
      })

  pub leave_done : eqb b.telling.home b.telling.me ≡ false → left ≡ None → after.ghosts ≡ begun.ghosts →
      IsGone r b begun.nexts after.nexts begun.sent after.sent → Settles
  leave_done test none ghosts gone =
      let entity : b.telling.entity ≡ r.entity = ap (λ x. x.entity) is.telling in
      let beat : b.telling.beat ≡ r.beat + 1 = ap (λ x. x.beat) is.telling in
      let own = ap (λ k. copy_if (set.contains b.telling.haunts k) (copy_of_real h r)) (ap (λ x. x.me) is.telling) in
      let hand : Option Boundaries → List (ℕ × Msg) = λ o. (b.telling.home, Hand (going r b) o) ∷ [] in
      subst (λ x. IsDone x r.entity was left before after)
      (sym (goes_is h t (slot_in before r.entity was) r changed b.telling is.telling test))
      (record {
        real = none;
        nexts =
            gone.next
            ∙ ap (λ w. table.insert w r.entity (record { cell = b.telling.home; generation = r.generation + 1 })) is.nexts;
        ghosts =
            ghosts
            ∙ (is.ghosts
            ∙ (heard_away b.telling (copy_of_real h r) before.ghosts test
            ∙ (λ i. set_at before.ghosts (entity i)
            (ghost_after (table.get before.ghosts (entity i)) (record { beat = beat i; copy = own i })))));
        sent =
            gone.sent
            ∙ ((λ i. is.sent i ++ hand (is.brought test i)) ∙ append_assoc before.sent (told_of h r b.telling) (hand (brought t)));
        unlisted = ap is_none (sym none);
      })

-- ---- a real that is at rest

-- by a plan that keeps home and haunts
module _ (h : Here) (t : Division) (r : RealView) (p : Pos) (old : Cells) (home : ℕ) (haunts : Cells) (pos : p ≡ r.state.pos)
    (was : old ≡ r.haunts) (home_is : home ≡ home_after h t p)
    (haunts_are : haunts ≡ haunts_at h t p (home_after h t p) (former h.me (home_after h t p) old)) where
  -- the haunts of a real that stays
  staying_haunts : home_after h t p ≡ h.me → haunts ≡ haunts_at h t r.state.pos h.me r.haunts
  staying_haunts j =
      haunts_are
      ∙ ((λ i. haunts_at h t p (j i) (former h.me (j i) old))
      ∙ (ap (haunts_at h t p h.me) (ap (λ b. cond b old (set.insert old h.me)) (equal_test h.me h.me refl))
      ∙ (λ i. haunts_at h t (pos i) h.me (was i))))

  pub rest_planned : home ≡ h.me → haunts ≡ old → IsAtRest h t r
  rest_planned stays kept =
      let j = sym home_is ∙ stays in record {
        home = ap (home_after h t) (sym pos) ∙ j;
        haunts = sym (staying_haunts j) ∙ (kept ∙ was);
      }

  pub plan_of_rest : IsAtRest h t r → (home ≡ h.me) × (haunts ≡ old)
  plan_of_rest rest =
      let j = ap (home_after h t) pos ∙ rest.home in
      (home_is ∙ j, staying_haunts j ∙ (rest.haunts ∙ sym was))

module _ (h : Here) (r : RealView) where
  not_told : (k : ℕ) (mine was : Bool) →
      told_unless mine k (told r.entity (r.beat + 1) (copy_of_real h r) was was false) ≡ None
  not_told k true was = refl
  not_told k false true = refl
  not_told k false false = refl

  none_told : (ks : List ℕ) → filter_map (ghost_message h r h.me r.haunts false) ks ≡ []
  none_told [] = refl
  none_told (k ∷ ks) =
      ap (λ o. cons_option o (filter_map (ghost_message h r h.me r.haunts false) ks))
      (not_told k ((k == h.me) || (k == h.me)) (set.contains r.haunts k))
      ∙ none_told ks

  pub rest_done : (t : Boundaries) (w : PartsView) → IsAtRest h t.tree r →
      IsDone (settled h t (slot_in w r.entity r) r false) r.entity r (Some r) w w
  rest_done t w rest =
      let s = slot_in w r.entity r in
      let stays : settled h t s r false ≡ stayed s r r.haunts [] =
      ap (λ b. settled_by b h t s r false (home_after h t.tree r.state.pos)) (equal_test _ _ rest.home)
      ∙ (ap (λ x. stayed s r x (ghost_messages h r h.me x false)) rest.haunts ∙ ap (stayed s r r.haunts) (none_told cell_numbers)) in
      subst (λ x. IsDone x r.entity r (Some r) w w) (sym stays) (record {
        real = refl;
        nexts = sym (set_at-same w.nexts r.entity);
        ghosts = sym (set_at-same w.ghosts r.entity);
        sent = sym (append-nil w.sent);
        unlisted = refl;
      })

-- what the book has after a message
pub book_after : {P : Type 0} (w : BookView P) (e : ℕ) (g : Ghost P) →
    (after_message w e g).ghosts ≡ set_at w.ghosts e (ghost_after (table.get w.ghosts e) g)
book_after w e g = elim (nat_lt (beat_of w e) g.beat) as (λ b. (cond b (with_ghost w e g) w).ghosts
    ≡ set_at w.ghosts e (cond b (Some g) (table.get w.ghosts e))) [
      | true ↦ refl
      | false ↦ sym (set_at-same w.ghosts e)
    ]
