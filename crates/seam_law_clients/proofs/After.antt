-- What a look leaves of a client: it fits what the look leaves of the witness.
use Rattle.seam_law_clients.proofs.Prelude.{◌≡◌, ℕ, ◌≤◌, ◌⊎◌, Bool, true, false, cond, List, [], ◌∷◌, ◌++◌, map, Option, None, Some, refl}
use Rattle.seam_law_clients.proofs.Prelude.{sym, ap, ◌∙◌, subst, arith, inl, inr, option_map, slice_get, filter_map, cons_option, nat_cmp}
use Rattle.seam_law_clients.proofs.Prelude.{eq_by_cmp, nat_cmp_total, Seen, Look, Replica, IsView, seen_of, after_showing, after_look}
use Rattle.seam_law_clients.proofs.Prelude.{after_looks, State, Property, ghost_of, other_of, own_of, projected, type_of, GhostCopy, Shown}
use Rattle.seam_law_clients.proofs.Prelude.{Own, Set, Enter, Leave, RealView, WitnessView, Known, seen_as, known_of, shown_for, own_due}
use Rattle.seam_law_clients.proofs.Prelude.{after_looking, looks_of, shown_of, CellView, known_to, is_another, World, Cell, Frame, here_at}
use Rattle.seam_law_clients.proofs.Prelude.{real_at, IsBetweenRounds, AreCopiesBetweenRounds, version_in, own_now, FitsWitness, Somewhere}
use Rattle.seam_law_clients.proofs.Prelude.{Nowhere, search_real, ClientReplica, with_copy_shown, after_shown, after_all_shown, tied_same}
use Rattle.seam_law_clients.proofs.Prelude.{known_at, known_to_is}
use Rattle.std.specs.FinMap as table
use Rattle.seam_view.specs.declared.Look.TheVariants as look
use Rattle.seam_defs.specs.declared.flags.Group.TheVariants as group
use Rattle.seam_law_clients.proofs.Near.{as_seen, seen_found, known_found}
use Rattle.seam_law_clients.proofs.OneLook.{shown_now, same_real, known_nowhere, IsKnown, knows, knows_not, known_there, own_by}

-- ---- looks

module _ (known : List Seen) where
  same_by : (r : Replica) (e : ℕ) (o : Option Seen) →
      ((after_showing r e o).radius ≡ r.radius) × ((after_showing r e o).hysteresis ≡ r.hysteresis)
  same_by r e None = (refl, refl)
  same_by r e (Some s) = (refl, refl)

  same_one : (r : Replica) (l : Look) → ((after_look known r l).radius ≡ r.radius) × ((after_look known r l).hysteresis ≡ r.hysteresis)
  same_one r (look.Leave e) = (refl, refl)
  same_one r (look.Set e) = same_by r e (seen_of e known)
  same_one r (look.Enter e) = same_by r e (seen_of e known)

  -- looks keep the distances of a view
  pub same_distances : (r : Replica) (ls : List Look) →
      ((after_looks known r ls).radius ≡ r.radius) × ((after_looks known r ls).hysteresis ≡ r.hysteresis)
  same_distances r [] = (refl, refl)
  same_distances r (l ∷ ls) =
      let one = same_one r l in
      let more = same_distances (after_look known r l) ls in
      (more.0 ∙ one.0, more.1 ∙ one.1)

  -- where a version shown is from
  pub data IsFrom (r : Replica) (x version : ℕ) : Type 0 where
    was : table.get r.shown x ≡ Some version → IsFrom r x version
    now : (s : Seen) → seen_of x known ≡ Some s → s.version ≡ version → IsFrom r x version

  shown_by : (r : Replica) (e x version : ℕ) (s : Seen) (t : Bool) → eq_by_cmp nat_cmp x e ≡ t → seen_of e known ≡ Some s →
      cond t (Some s.version) (table.get r.shown x) ≡ Some version → IsFrom r x version
  shown_by r e x version s true tied at is =
      now s (ap (λ y. seen_of y known) (tied_same x e tied) ∙ at) (let z = is in cc)
  shown_by r e x version s false tied at is = was is

  showing_from : (r : Replica) (e x version : ℕ) (o : Option Seen) → seen_of e known ≡ o →
      table.get (after_showing r e o).shown x ≡ Some version → IsFrom r x version
  showing_from r e x version None at is = was is
  showing_from r e x version (Some s) at is =
      shown_by r e x version s (eq_by_cmp nat_cmp x e) refl at (sym (table.get-insert nat_cmp_total r.shown e s.version x) ∙ is)

  one_from : (r : Replica) (l : Look) (x version : ℕ) → table.get (after_look known r l).shown x ≡ Some version → IsFrom r x version
  one_from r (look.Leave e) x version is = was is
  one_from r (look.Set e) x version is = showing_from r e x version (seen_of e known) refl is
  one_from r (look.Enter e) x version is = showing_from r e x version (seen_of e known) refl is

  pub all_from : (r : Replica) (ls : List Look) (x version : ℕ) → table.get (after_looks known r ls).shown x ≡ Some version →
      IsFrom r x version
  all_from r [] x version is = was is
  all_from r (l ∷ ls) x version is = by (all_from (after_look known r l) ls x version is)
    where
      by : IsFrom (after_look known r l) x version → IsFrom r x version
      by (was h) = one_from r l x version h
      by (now s at h) = now s at h

-- ---- lines of looks

module _ (known : List Known) where
  -- a client after the lines of some looks is what it was but for others, who are as the looks leave them
  pub record Follows (c d : ClientReplica) (ls : List Look) : Type 0 where
    pub own : d.own ≡ c.own
    pub others : d.others ≡ after_looks (map seen_as known) c.others ls

  known_seen : (x : ℕ) → seen_of x (map seen_as known) ≡ option_map (as_seen x) (known_of x known)
  known_seen x = seen_found x known ∙ ap (option_map (as_seen x)) (sym (known_found x known))

  -- one that is shown, by a set or an enter, where it is known
  shown_follows : (line : ℕ → GhostCopy → Shown) → ((c : ClientReplica) (x : ℕ) (g : GhostCopy) →
      after_shown c (line x g) ≡ with_copy_shown c x g) → (c : ClientReplica) (x : ℕ) (ls : List Look) (o : Option GhostCopy) →
      known_of x known ≡ o → ((c : ClientReplica) → Follows c (after_all_shown c (filter_map (shown_for known) ls)) ls) →
      (d : ClientReplica) → d ≡ after_all_shown c (cons_option (option_map (line x) o) (filter_map (shown_for known) ls)) →
      (d.own ≡ c.own) × (d.others ≡ after_looks (map seen_as known) (after_showing c.others x (seen_of x (map seen_as known))) ls)
  shown_follows line shows c x ls None at more d is =
      let n = more c in
      let none = known_seen x ∙ ap (option_map (as_seen x)) at in (
        ap (λ (y : ClientReplica). y.own) is ∙ n.own,
        ap (λ (y : ClientReplica). y.others) is
            ∙ (n.others ∙ ap (λ o. after_looks (map seen_as known) (after_showing c.others x o) ls) (sym none)),
      )
  shown_follows line shows c x ls (Some g) at more d is =
      let n = more (with_copy_shown c x g) in
      let some = known_seen x ∙ ap (option_map (as_seen x)) at in
      let turned = is ∙ ap (λ y. after_all_shown y (filter_map (shown_for known) ls)) (shows c x g) in (
        ap (λ (y : ClientReplica). y.own) turned ∙ n.own,
        ap (λ (y : ClientReplica). y.others) turned
            ∙ (n.others ∙ ap (λ o. after_looks (map seen_as known) (after_showing c.others x o) ls) (sym some)),
      )

  pub follows : (ls : List Look) (c : ClientReplica) → Follows c (after_all_shown c (filter_map (shown_for known) ls)) ls
  follows [] c = record { own = refl; others = refl }
  follows (look.Leave x ∷ ls) c =
      let d = follows ls (after_shown c (Leave x)) in
      record { own = d.own; others = d.others }
  follows (look.Set x ∷ ls) c =
      let d = shown_follows Set (λ c x g. refl) c x ls (known_of x known) refl (follows ls) _ refl in
      record { own = d.0; others = d.1 }
  follows (look.Enter x ∷ ls) c =
      let d = shown_follows Enter (λ c x g. refl) c x ls (known_of x known) refl (follows ls) _ refl in
      record { own = d.0; others = d.1 }

-- ---- the whole look

same_line : (a b : ℕ × State) → Some a ≡ Some b → a ≡ b
same_line a b h = cc

same_state : (version : ℕ) (s t : State) → ◌≡◌ {A = Option (ℕ × State)} (Some (version, s)) (Some (version, t)) → t ≡ s
same_state version s t h = sym (ap (λ (p : ℕ × State). p.1) (same_line (version, s) (version, t) h))

told_by : (known : List Known) (ls : List Look) (shown : List Shown) (r : RealView) (v : WitnessView) (b : Bool) →
    own_due v.told r.version ≡ b → (after_looking known ls shown r v).told ≡ cond b (Some r.version) v.told
told_by known ls shown r v true due = rw due refl
told_by known ls shown r v false due = rw due refl

module _ (f : Frame) (w : World) (between : IsBetweenRounds f w) (copies : AreCopiesBetweenRounds f w)
    (ghosts : (ps : List Property) (s : State) → projected ps group.Ghost group.Other (ghost_of ps s).props ≡ (other_of ps s).props)
    (e k : ℕ) (r : RealView) (v : WitnessView) (cell : CellView) (node : slice_get w.nodes k ≡ Some (Cell cell)) where
  abbrev known : List Known
  known = known_to cell e

  abbrev ls : List Look
  ls = looks_of r v known

  -- the witness afterwards, where it told these
  abbrev after : List Shown → WitnessView
  after shown = after_looking known ls shown r v

  abbrev with : WitnessView → RealView
  with x = record r { witness = Some x }

  -- an entity that is known has a real, of that public version
  record IsThere (x version : ℕ) : Type 0 where
    home : ℕ
    real : RealView
    here : real_at x w home ≡ Some real
    public : real.public ≡ version

  there_by : (x : ℕ) (d : GhostCopy) → known_at cell x ≡ Some d → Somewhere x w ⊎ Nowhere x w → IsThere x d.version
  there_by x d is (inl p) = by (known_there f w between copies ghosts k cell node x p.0 p.1 p.2)
    where
      by : IsKnown f w between copies ghosts k cell node x p.0 p.1 → IsThere x d.version
      by (knows has) =
          let same : shown_now f p.1 ≡ d = let z = sym has ∙ is in cc in
          record { home = p.0; real = p.1; here = p.2; public = ap (λ y. y.version) same }
      by (knows_not has n none) = absurd (let z = sym has ∙ is in cc)
  there_by x d is (inr n) = absurd (let z = sym (known_nowhere f w between copies ghosts k cell node x n) ∙ is in cc)

  unless_is : (b : Bool) (o : Option GhostCopy) (d : GhostCopy) → cond b o None ≡ Some d → o ≡ Some d
  unless_is true o d h = h
  unless_is false o d h = cc

  there_of : (x : ℕ) (s : Seen) (o : Option GhostCopy) → table.find nat_cmp x known ≡ o → option_map (as_seen x) o ≡ Some s →
      IsThere x s.version
  there_of x s None found is = cc
  there_of x s (Some d) found is =
      let same : d.version ≡ s.version = let z = is in ap (λ (y : Seen). y.version) (some_is (as_seen x d) s is) in
      subst (IsThere x) same
      (there_by x d (unless_is (is_another e x) (known_at cell x) d (sym (known_to_is cell e x) ∙ found)) (search_real x w))
    where
      some_is : (a b : Seen) → Some a ≡ Some b → a ≡ b
      some_is a b h = cc

  there : (x : ℕ) (s : Seen) → seen_of x (map seen_as known) ≡ Some s → IsThere x s.version
  there x s is = there_of x s (table.find nat_cmp x known) refl (sym (seen_found x known) ∙ is)

  -- one that was not shown, and has no real, is not shown by the look
  pub not_shown : (x : ℕ) → table.get v.view.shown x ≡ None → Nowhere x w → (shown : List Shown) →
      table.get (after shown).view.shown x ≡ None
  not_shown x none n shown = by (table.get (after shown).view.shown x) refl
    where
      from : (version : ℕ) → IsFrom (map seen_as known) v.view x version → ⊥
      from version (was h) = let z = sym none ∙ h in cc
      from version (now s seen is) = let t = there x s seen in let z = sym (n t.home) ∙ t.here in cc

      by : (o : Option ℕ) → table.get (after shown).view.shown x ≡ o → table.get (after shown).view.shown x ≡ None
      by None is = is
      by (Some version) is = absurd (from version (all_from (map seen_as known) v.view ls x version is))

  module _ (stays : (r : Replica) (known : List Seen) (looks : List Look) → IsView r → IsView (after_looks known r looks))
      (c : ClientReplica) (fits : FitsWitness f w r v c) where
    not_above : (x j version : ℕ) (q : RealView) → IsFrom (map seen_as known) v.view x version → real_at x w j ≡ Some q → version ≤ q.public
    not_above x j version q (was h) here = fits.others_not_ahead x j version q h here
    not_above x j version q (now s seen is) here =
        let t = there x s seen in
        let same = ap (λ (y : RealView). y.public) (same_real f w between x j t.home q t.real here t.here).1 in
        let public = t.public in
        omega (arith, same, public, is)

    -- the client after its own line, where that is due, and the lines of the looks
    abbrev lines : Bool → List Shown
    lines b = cond b (Own r.version (own_of (type_of f.defs r.ty).properties r.state) ∷ []) [] ++ filter_map (shown_for known) ls

    fits_by : (b : Bool) → own_due v.told r.version ≡ b → (shown : List Shown) → (d : ClientReplica) →
        d ≡ after_all_shown c (lines b) → FitsWitness f w (with (after shown)) (after shown) d
    fits_by true due shown d is =
        let c1 = after_shown c (Own r.version (own_of (type_of f.defs r.ty).properties r.state)) in
        let more = follows known ls c1 in
        let kept = same_distances (map seen_as known) v.view ls in
        record {
          others = ap (λ (y : ClientReplica). y.others) is ∙ (more.others ∙ ap (λ y. after_looks (map seen_as known) y ls) fits.others);
          view = stays v.view (map seen_as known) ls fits.view;
          radius = kept.0 ∙ fits.radius;
          hysteresis = kept.1 ∙ fits.hysteresis;
          told = ap (λ (y : ClientReplica). option_map version_in y.own) is
              ∙ (ap (option_map version_in) more.own ∙ sym (told_by known ls shown r v true due));
          not_ahead = λ version told.
              let same : Some r.version ≡ Some version = sym (told_by known ls shown r v true due) ∙ told in
              let equal : r.version ≡ version = cc in
              omega (arith, equal);
          own = λ state has.
              same_state r.version (own_now f r) state (sym (ap (λ (y : ClientReplica). y.own) is ∙ more.own) ∙ has);
          others_not_ahead = λ x j version q has here.
              not_above x j version q (all_from (map seen_as known) v.view ls x version has) here;
        }
    fits_by false due shown d is =
        let more = follows known ls c in
        let kept = same_distances (map seen_as known) v.view ls in
        record {
          others = ap (λ (y : ClientReplica). y.others) is ∙ (more.others ∙ ap (λ y. after_looks (map seen_as known) y ls) fits.others);
          view = stays v.view (map seen_as known) ls fits.view;
          radius = kept.0 ∙ fits.radius;
          hysteresis = kept.1 ∙ fits.hysteresis;
          told = ap (λ (y : ClientReplica). option_map version_in y.own) is
              ∙ (ap (option_map version_in) more.own ∙ (fits.told ∙ sym (told_by known ls shown r v false due)));
          not_ahead = λ version told. fits.not_ahead version (sym (told_by known ls shown r v false due) ∙ told);
          own = λ state has. fits.own state (sym (ap (λ (y : ClientReplica). y.own) is ∙ more.own) ∙ has);
          others_not_ahead = λ x j version q has here.
              not_above x j version q (all_from (map seen_as known) v.view ls x version has) here;
        }

    here_fits : FitsWitness f w (with (after (shown_of (here_at f k) r v known))) (after (shown_of (here_at f k) r v known))
        (after_all_shown c (shown_of (here_at f k) r v known))
    here_fits =
        fits_by (own_due v.told r.version) refl (shown_of (here_at f k) r v known) (after_all_shown c (shown_of (here_at f k) r v known))
        (ap (after_all_shown c) (own_by (here_at f k) r v known ls (own_due v.told r.version) refl))

    pub look_fits : FitsWitness f w (with (after (shown_of cell.here r v known))) (after (shown_of cell.here r v known))
        (after_all_shown c (shown_of cell.here r v known))
    look_fits =
        subst (λ h. FitsWitness f w (with (after (shown_of h r v known))) (after (shown_of h r v known))
        (after_all_shown c (shown_of h r v known))) (sym (between.nodes.nodes k (Cell cell) node).here) here_fits
