-- A look: what it tells may be shown and is true, and what the client shows after it fits what it leaves of the witness.
use Rattle.seam_law_clients.proofs.Prelude.{◌≡◌, ℕ, ◌≤◌, Bool, true, false, not, cond, eqb, ltb, List, [], ◌∷◌, ◌++◌, map, Option, None}
use Rattle.seam_law_clients.proofs.Prelude.{Some, refl, sym, ap, ◌∙◌, subst, arith, option_map, filter_map, nat_cmp, nat_tests, Look}
use Rattle.seam_law_clients.proofs.Prelude.{after_looks, view_after_looks, State, GhostCopy, Shown, Own, RealView, WitnessView, Known}
use Rattle.seam_law_clients.proofs.Prelude.{seen_as, shown_for, own_due, after_looking, looks_of, shown_of, CellView, known_to, Frame}
use Rattle.seam_law_clients.proofs.Prelude.{here_at, version_in, own_now, FitsWithin, KnowsTruth, ClientReplica, after_shown}
use Rattle.seam_law_clients.proofs.Prelude.{after_all_shown, is_newer, Truth, ShowsRightly, known_at, known_rises, known_to_is}
use Rattle.std.specs.FinMap as table
use Rattle.seam_law_clients.proofs.Near.{known_found}
use Rattle.seam_law_clients.proofs.OneLook.{own_by}
use Rattle.seam_law_clients.proofs.After.{same_distances, follows}
use Rattle.seam_law_clients.proofs.Lines.{looks_may_be_shown, looks_are_true}

same_yes : (a : ℕ) → eqb a a ≡ true
same_yes a = grind (arith, nat_tests)

not_less : (a b : ℕ) → ltb a b ≡ false → b ≤ a
not_less a b t = grind (arith, nat_tests)

none_some : (d : GhostCopy) → None ≡ Some d → ⊥
none_some d h = cc

same_state : (version : ℕ) (s t : State) → ◌≡◌ {A = Option (ℕ × State)} (Some (version, s)) (Some (version, t)) → t ≡ s
same_state version s t h = sym (ap (λ (p : ℕ × State). p.1) (let z : ◌≡◌ {A = ℕ × State} (version, s) (version, t) = cc in z))

due_by : (o : Option (ℕ × State)) (version : ℕ) → own_due (option_map version_in o) version ≡ is_newer o version
due_by None version = refl
due_by (Some last) version = refl

told_by : (known : List Known) (ls : List Look) (shown : List Shown) (r : RealView) (v : WitnessView) (b : Bool) →
    own_due v.told r.version ≡ b → (after_looking known ls shown r v).told ≡ cond b (Some r.version) v.told
told_by known ls shown r v true due = rw due refl
told_by known ls shown r v false due = rw due refl

module _ (f : Frame) (k e : ℕ) (r : RealView) (v : WitnessView) (c : ClientReplica) (fits : FitsWithin f r v c) (cell : CellView) where
  abbrev known : List Known
  known = known_to cell e

  abbrev ls : List Look
  ls = looks_of r v known

  -- the client's own line, where it is due, and the lines of the looks
  abbrev lines : Bool → List Shown
  lines due = cond due (Own r.version (own_now f r) ∷ []) [] ++ filter_map (shown_for known) ls

  -- where the own line is not due the client shows what the real is now
  stands_by : (o : Option (ℕ × State)) → c.own ≡ o → own_due (option_map version_in o) r.version ≡ false →
      c.own ≡ Some (r.version, own_now f r)
  stands_by None is due = cc
  stands_by (Some last) is due =
      let le = fits.not_ahead last.0 (sym fits.told ∙ ap (option_map version_in) is) in
      let ge = not_less last.0 r.version due in
      let same : last.0 ≡ r.version = omega (arith, le, ge) in
      let there : c.own ≡ Some (r.version, last.1) = is ∙ ap (λ n. Some (n, last.1)) same in
      there ∙ ap (λ s. Some (r.version, s)) (fits.own last.1 there)

  stands : own_due v.told r.version ≡ false → c.own ≡ Some (r.version, own_now f r)
  stands due = stands_by c.own refl (ap (λ o. own_due o r.version) fits.told ∙ due)

  newer : own_due v.told r.version ≡ true → is_newer c.own r.version ≡ true
  newer due = sym (due_by c.own r.version) ∙ (ap (λ o. own_due o r.version) fits.told ∙ due)

  -- ---- what it tells

  module _ (t : Truth) (own_true : t.own r.version (own_now f r)) (truth : KnowsTruth t cell e) where
    another_by : (d : GhostCopy) → table.find nat_cmp e known ≡ Some d → ⊥
    another_by d is =
        none_some d (sym (known_to_is cell e e ∙ ap (λ b. cond (not b) (known_at cell e) None) (same_yes e)) ∙ is)

    others : (x : ℕ) (d : GhostCopy) → table.find nat_cmp x known ≡ Some d → (x ≡ e → ⊥) × t.other x d
    others x d is = (
      (λ same. another_by d (ap (λ y. table.find nat_cmp y known) (sym same) ∙ is)),
      truth x d (known_found x known ∙ is),
    )

    lines_shown : (due : Bool) → own_due v.told r.version ≡ due → ShowsRightly t e c (lines due)
    lines_shown true due =
        let d = after_shown c (Own r.version (own_now f r)) in
        record {
          in_turn = (
            newer due,
            looks_may_be_shown t e r.version (own_now f r) known (known_rises cell e) others d v.view fits.others fits.view refl,
          );
          true_ = (
            own_true,
            looks_are_true t e r.version (own_now f r) known (known_rises cell e) others d v.view fits.others fits.view refl,
          );
        }
    lines_shown false due = record {
      in_turn =
          looks_may_be_shown t e r.version (own_now f r) known (known_rises cell e) others c v.view fits.others fits.view (stands due);
      true_ =
          looks_are_true t e r.version (own_now f r) known (known_rises cell e) others c v.view fits.others fits.view (stands due);
    }

    pub look_shows : cell.here ≡ here_at f k → ShowsRightly t e c (shown_of cell.here r v known)
    look_shows here =
        subst (ShowsRightly t e c)
        (sym (ap (λ h. shown_of h r v known) here ∙ own_by (here_at f k) r v known ls (own_due v.told r.version) refl))
        (lines_shown (own_due v.told r.version) refl)

  -- ---- what it leaves

  -- the witness afterwards, where it told these
  abbrev after : List Shown → WitnessView
  after shown = after_looking known ls shown r v

  abbrev with : WitnessView → RealView
  with x = record r { witness = Some x }

  fits_by : (b : Bool) → own_due v.told r.version ≡ b → (shown : List Shown) → (d : ClientReplica) → d ≡ after_all_shown c (lines b) →
      FitsWithin f (with (after shown)) (after shown) d
  fits_by true due shown d is =
      let c1 = after_shown c (Own r.version (own_now f r)) in
      let more = follows known ls c1 in
      let kept = same_distances (map seen_as known) v.view ls in
      record {
        others = ap (λ (y : ClientReplica). y.others) is ∙ (more.others ∙ ap (λ y. after_looks (map seen_as known) y ls) fits.others);
        view = view_after_looks (map seen_as known) v.view ls fits.view;
        radius = kept.0 ∙ fits.radius;
        hysteresis = kept.1 ∙ fits.hysteresis;
        told = ap (λ (y : ClientReplica). option_map version_in y.own) is
            ∙ (ap (option_map version_in) more.own ∙ sym (told_by known ls shown r v true due));
        not_ahead = λ version told.
            let same : Some r.version ≡ Some version = sym (told_by known ls shown r v true due) ∙ told in
            let equal : r.version ≡ version = cc in
            omega (arith, equal);
        own = λ state has. same_state r.version (own_now f r) state (sym (ap (λ (y : ClientReplica). y.own) is ∙ more.own) ∙ has);
      }
  fits_by false due shown d is =
      let more = follows known ls c in
      let kept = same_distances (map seen_as known) v.view ls in
      record {
        others = ap (λ (y : ClientReplica). y.others) is ∙ (more.others ∙ ap (λ y. after_looks (map seen_as known) y ls) fits.others);
        view = view_after_looks (map seen_as known) v.view ls fits.view;
        radius = kept.0 ∙ fits.radius;
        hysteresis = kept.1 ∙ fits.hysteresis;
        told = ap (λ (y : ClientReplica). option_map version_in y.own) is
            ∙ (ap (option_map version_in) more.own ∙ (fits.told ∙ sym (told_by known ls shown r v false due)));
        not_ahead = λ version told. fits.not_ahead version (sym (told_by known ls shown r v false due) ∙ told);
        own = λ state has. fits.own state (sym (ap (λ (y : ClientReplica). y.own) is ∙ more.own) ∙ has);
      }

  pub look_fits : cell.here ≡ here_at f k → FitsWithin f (with (after (shown_of cell.here r v known)))
      (after (shown_of cell.here r v known)) (after_all_shown c (shown_of cell.here r v known))
  look_fits here =
      fits_by (own_due v.told r.version) refl (shown_of cell.here r v known) (after_all_shown c (shown_of cell.here r v known))
      (ap (after_all_shown c)
      (ap (λ h. shown_of h r v known) here ∙ own_by (here_at f k) r v known ls (own_due v.told r.version) refl))
