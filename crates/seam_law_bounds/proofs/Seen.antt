-- Where witnesses looked, views name what is there.
use Rattle.seam_law_bounds.proofs.Prelude.{◌≡◌, ℕ, ◌⊎◌, Bool, true, false, cond, is_some, List, [], ◌∷◌, map, Option, None, Some, refl, sym}
use Rattle.seam_law_bounds.proofs.Prelude.{ap, ◌∙◌, subst, inl, inr, option_map, slice_get, AllByRecursion, IsQuiet, Event, State, Property}
use Rattle.seam_law_bounds.proofs.Prelude.{ghost_of, other_of, projected, GhostCopy, RealView, WitnessView, holders, seen_as, CellView}
use Rattle.seam_law_bounds.proofs.Prelude.{known_to, is_another, World, node_has_work, Cell, look_loaded, letters_of, Frame, mine, RunsTo}
use Rattle.seam_law_bounds.proofs.Prelude.{real_at, IsBetweenRounds, HasPartsBetweenRounds, HadSameReal, AreCopiesBetweenRounds}
use Rattle.seam_law_bounds.proofs.Prelude.{witness_looked, looked_by, having_looked, HaveRoomToLook, EachSeenIsHeld, quiet_links, seen_of}
use Rattle.seam_law_bounds.proofs.Prelude.{one_holder, look_keeps, Somewhere, Nowhere, search_real, looks_leave, known_at, known_to_is}
use Rattle.seam_law_bounds.proofs.Prelude.{cell_at}
use Rattle.seam_defs.specs.declared.flags.Group.TheVariants as group
use Rattle.seam_law_clients.proofs.Near.{as_seen, seen_found}
use Rattle.seam_law_clients.proofs.OneLook.{known_nowhere}
use Rattle.seam_law_clients.proofs.LookEnds.{looked}
use Rattle.seam_law_bounds.proofs.Viewed.{EachKnown, viewed_known}

module _ (f : Frame) (u : World) (between : IsBetweenRounds f u) (parts : HasPartsBetweenRounds f u) (copies : AreCopiesBetweenRounds f u)
    (room : HaveRoomToLook u)
    (ghosts : (ps : List Property) (s : State) → projected ps group.Ghost group.Other (ghost_of ps s).props ≡ (other_of ps s).props)
    (vs : List Event) (v : World) (run : RunsTo (look_loaded u) vs v) (quiet : IsQuiet node_has_work v) where
  -- ---- who is known is there

  module _ (k : ℕ) (cell : CellView) (node : slice_get u.nodes k ≡ Some (Cell cell)) (e : ℕ) where
    holder : (x : ℕ) → Somewhere x u → holders v x ≡ 1
    holder x p =
        look_keeps f u between vs v run x
        (one_holder f u x p.0 p.1 (between.settled x p.0 p.1 p.2)
        (λ a b. ap (letters_of (mine x)) (quiet_links node_has_work u between.nodes.sound.square between.quiet a b)))

    none_unless : (b : Bool) (o : Option GhostCopy) → o ≡ None → cond b o None ≡ None
    none_unless true o is = is
    none_unless false o is = refl

    there_by : (x : ℕ) → is_some (seen_of x (map seen_as (known_to cell e))) ≡ true → Somewhere x u ⊎ Nowhere x u → holders v x ≡ 1
    there_by x is (inl p) = holder x p
    there_by x is (inr n) =
        let none = none_unless (is_another e x) (known_at cell x) (known_nowhere f u between copies ghosts k cell node x n) in
        let unseen : seen_of x (map seen_as (known_to cell e)) ≡ None =
        seen_found x (known_to cell e) ∙ ap (option_map (as_seen x)) (known_to_is cell e x ∙ none) in
        absurd (let z = sym (ap is_some unseen) ∙ is in cc)

    all_there : (es : List (ℕ × ℕ)) → EachKnown (map seen_as (known_to cell e)) es → AllByRecursion (λ p. holders v p.0 ≡ 1) es
    all_there [] h = tt
    all_there (p ∷ ps) h = (there_by p.0 h.0 (search_real p.0 u), all_there ps h.1)

  -- ---- a witness that looked

  same_witness : {a b : WitnessView} → Some a ≡ Some b → a ≡ b
  same_witness h = cc

  same_real_is : {a b : RealView} → Some a ≡ Some b → a ≡ b
  same_real_is h = cc

  module _ (e k : ℕ) (q : RealView) (at : real_at e v k ≡ Some q) (x : WitnessView) (has : q.witness ≡ Some x) where
    there : HadSameReal e k q u
    there = looks_leave f u between vs v run e k q at

    cell : (c : CellView) × (slice_get u.nodes k ≡ Some (Cell c))
    cell = cell_at e k u there.real (slice_get u.nodes k) refl there.here

    now : having_looked cell.0 e there.real ≡ q
    now = same_real_is (sym (looked f u between room vs v run quiet e k there.real there.here cell.0 cell.1) ∙ at)

    sees_by : (o : Option WitnessView) → there.real.witness ≡ o → AllByRecursion (λ p. holders v p.0 ≡ 1) x.view.entries
    sees_by None none =
        let bare : q.witness ≡ None =
        ap (λ (y : RealView). y.witness) (sym now)
        ∙ (ap (λ o. (looked_by cell.0 e there.real o).witness) none ∙ none) in
        absurd (let z = sym bare ∙ has in cc)
    sees_by (Some y) seen =
        let known = map seen_as (known_to cell.0 e) in
        let same : witness_looked cell.0 e there.real y ≡ x =
        same_witness (sym (ap (λ o. (looked_by cell.0 e there.real o).witness) seen) ∙ (ap (λ (z : RealView). z.witness) now ∙ has)) in
        subst (λ (z : WitnessView). AllByRecursion (λ p. holders v p.0 ≡ 1) z.view.entries) same
        (all_there k cell.0 cell.1 e (witness_looked cell.0 e there.real y).view.entries
        (viewed_known y.view there.real.state.pos known (parts.views e k there.real there.here y seen).view))

    sees : AllByRecursion (λ p. holders v p.0 ≡ 1) x.view.entries
    sees = sees_by there.real.witness refl

  pub looks_see : EachSeenIsHeld v
  looks_see e k q at x has = sees e k q at x has
