-- A world without messages about a settled entity has what the laws ask: one real, which fits; no one reaps it; and what leads to a cell
-- leads to it.
use Rattle.seam_law_rounds.proofs.Prelude.{◌≡◌, ℕ, ◌+◌, ◌<◌, is_some, [], length, Option, None, Some, refl, sym, ap, ◌∙◌, subst, arith, inl}
use Rattle.seam_law_rounds.proofs.Prelude.{inr, slice_get, AllByRecursion, cases_eq, slice_get_within, quiet_links, RealView, Msg, limit}
use Rattle.seam_law_rounds.proofs.Prelude.{holders, cell_count, RouteView, NodeView, World, node_has_work, Cell, Base, Flow, slot_at}
use Rattle.seam_law_rounds.proofs.Prelude.{letters_of, TokenPlace, In, On, Frame, IsInFrame, Has, mine, has_of, has_none, entity_flow}
use Rattle.seam_law_rounds.proofs.Prelude.{RealFits, IsFitReal, IsFitHand, burden, real_in, real_of, IsOne, reaped_by, HasNoReaps, IsSpared}
use Rattle.seam_law_rounds.proofs.Prelude.{HasOne, AllLead, real_at, IsSettled, IsBetweenRounds, counted_one, one_counts}
use Rattle.seam_law_calls.proofs.Finding.{starts_leading}

module _ (f : Frame) (w : World) (e home : ℕ) (r : RealView) (settled : IsSettled f e home r w)
    (still : (x y : ℕ) → (entity_flow e w).mail x y ≡ []) where
  abbrev flow : Flow Has Msg
  flow = entity_flow e w

  pub one_at_home : IsOne e w (In home) r
  one_at_home = record { here = settled.here; others = settled.others; mail = λ x y. ap (letters_of real_of) (still x y) }

  pub one_holder : holders w e ≡ 1
  one_holder = one_counts w e (In home) r one_at_home

  fit_at : (k : ℕ) → IsFitReal f e r.ty k (real_in (flow.slot k))
  fit_at k q at = elim (cases_eq k home) [
    | inl is ↦
        let same : r ≡ q = let z = sym settled.here ∙ ap (λ j. real_in (flow.slot j)) (sym is) ∙ at in cc in
        subst (λ j. RealFits f e r.ty j q) (sym is) (subst (RealFits f e r.ty home) same settled.fits)
    | inr n ↦ absurd (let z = sym (settled.others k n) ∙ at in cc)
  ]

  pub has_one : IsInFrame f w → burden e w < limit → HasOne f e r.ty w
  has_one q room = record {
    fits = record {
      frame = q;
      reals = fit_at;
      hands = λ a k. subst (AllByRecursion (IsFitHand f e r.ty k)) (sym (still a k)) tt;
      room = room;
    };
    place = In home;
    real = r;
    one = one_at_home;
  }

  pub spared_by : ((k : ℕ) → HasNoReaps (flow.slot k)) → IsSpared e w
  spared_by orders = record {
    orders = orders;
    letters = λ a k. subst (AllByRecursion (λ m. reaped_by m ≡ None)) (sym (still a k)) tt;
  }

  module _ (q : IsInFrame f w) (many : length w.nodes ≡ cell_count + f.settings.bases) where
    -- each route there is goes to it
    route_by : (k : ℕ) (o : Option NodeView) → slice_get w.nodes k ≡ o → (x : RouteView) →
        (slot_at (has_of e) has_none o).base.route ≡ Some x → x.cell ≡ home
    route_by k None at x has = absurd (let z = has in cc)
    route_by k (Some (Cell c)) at x has = absurd (let z = has in cc)
    route_by k (Some (Base b)) at x has =
        let low = slice_get_within w.nodes k (Base b) at in
        let is = settled.routes k (q.nodes k (Base b) at).high (omega (arith, low, many)) in
        let same : Some x ≡ Some (record { cell = home; generation = r.generation }) =
        sym has ∙ (sym (ap (λ o. (slot_at (has_of e) has_none o).base.route) at) ∙ is) in
        let one : x ≡ record { cell = home; generation = r.generation } = cc in
        ap (λ (y : RouteView). y.cell) one

    pub route_leads : (k : ℕ) (x : RouteView) → (flow.slot k).base.route ≡ Some x → x.cell ≡ home
    route_leads k = route_by k (slice_get w.nodes k) refl

    pub all_lead : ((k : ℕ) → (flow.slot k).cell.slot.next ≡ None) → AllLead flow
    all_lead nexts = starts_leading flow still nexts (λ k x at.
        ap (λ j. is_some (real_in (flow.slot j))) (route_leads k x at) ∙ ap is_some settled.here)

-- ---- in a quiet world the one real is at a node

pub record Home (w : World) (e : ℕ) : Type 0 where
  pub node : ℕ
  pub real : RealView
  pub here : real_at e w node ≡ Some real

module _ (f : Frame) (w : World) (between : IsBetweenRounds f w) (e : ℕ) where
  home_by : (p : TokenPlace) (r : RealView) → IsOne e w p r → Home w e
  home_by (In k) r one = record { node = k; real = r; here = one.here }
  home_by (On x y) r one =
      let none =
      ap (λ l. letters_of real_of (letters_of (mine e) l)) (quiet_links node_has_work w between.nodes.sound.square between.quiet x y) in
      absurd (let z = sym none ∙ one.here in cc)

  pub quiet_home : holders w e ≡ 1 → Home w e
  quiet_home one = let o = counted_one w e one in home_by o.0 o.1 o.2
