-- The phase of looks ends by the records: no client runs out of numbers in it.
use Rattle.seam_law_bounds.proofs.Prelude.{◌≡◌, ℕ, ◌+◌, ◌≤◌, ◌⊎◌, true, List, length, Some, sym, ap, ◌∙◌, arith, inl, inr, slice_get}
use Rattle.seam_law_bounds.proofs.Prelude.{range_with_len, cases_eq, total, Event, cell_count, RealView, BaseView, PartView, proxy_is_ready}
use Rattle.seam_law_bounds.proofs.Prelude.{may_show, World, Base, look_loaded, slot_at, Frame, has_of, has_none, entity_flow, home_of}
use Rattle.seam_law_bounds.proofs.Prelude.{sent_by, RunsTo, real_at, IsBetweenRounds, HasPartsBetweenRounds, HasSmallNumbers, IsServed}
use Rattle.seam_law_bounds.proofs.Prelude.{bare, served, part_weight, Always, LooksAmong, ClientsKeepRoom, HoldsNothing, events_of_looks}
use Rattle.seam_law_bounds.proofs.Prelude.{weight_or, Somewhere, Nowhere, search_real, part_may_show, base_burden_leads, look_settles}
use Rattle.seam_law_bounds.proofs.Prelude.{look_numbers, look_serves, most_told}
use Rattle.std.specs.FinMap as table
use Rattle.seam_law_bounds.proofs.Cans.{none_is_shown}
use Rattle.seam_law_bounds.proofs.LookCounts.{looks_fit}
use Rattle.seam_law_bounds.proofs.LookPhase.{frame_start, looks_end}
use Rattle.seam_law_bounds.proofs.LookStarts.{looks_among}
use Rattle.seam_law_bounds.proofs.Nothing.{idle_in_looks}

module _ (f : Frame) (u : World) (between : IsBetweenRounds f u) (parts : HasPartsBetweenRounds f u) (small : HasSmallNumbers f u)
    (none : HoldsNothing u) where
  module _ (v : World) (vs : List Event) (run : RunsTo (look_loaded u) vs v) (k : ℕ) (b : BaseView)
      (node : slice_get v.nodes k ≡ Some (Base b)) (e : ℕ) (p : PartView) (at : table.get b.parts e ≡ Some p) where
    has : ((entity_flow e v).slot k).base.part ≡ Some p
    has = ap (λ o. (slot_at (has_of e) has_none o).base.part) node ∙ at

    -- the client of an entity that is there has numbers
    module _ (home : ℕ) (r : RealView) (here : real_at e u home ≡ Some r) where
      at_home : ((entity_flow e v).slot (home_of f e)).base.part ≡ Some p
      at_home = elim (cases_eq k (home_of f e)) [
        | inl is ↦ ap (λ i. ((entity_flow e v).slot i).base.part) (sym is) ∙ has
        | inr n ↦
            absurd (let z = sym ((look_settles f u between parts small vs v run e home r here).others k n) ∙ has in cc)
      ]

      served_may : IsServed f e r.ty v → may_show p.proxy ≡ true
      served_may (bare none unseen) = ap may_show (none k p has)
      served_may (served first low client seen) =
          let numbers = look_numbers f u between parts small vs v run e home r here in
          let less = base_burden_leads f e (look_loaded u) v vs (frame_start f u between none) run in
          let room = numbers.room in
          part_may_show f e r.ty first (sent_by r + most_told) v client numbers.most (omega (arith, less, room)) p at_home

      there_may : may_show p.proxy ≡ true
      there_may = served_may (look_serves f u between parts small vs v run e home r here)

    -- and one of an entity that is gone is not ready
    shows_by : Somewhere e u ⊎ Nowhere e u → proxy_is_ready p.proxy ≡ true → may_show p.proxy ≡ true
    shows_by (inl s) ready = there_may s.0 s.1 s.2
    shows_by (inr n) ready =
        let zero = (idle_in_looks f u between none vs v run e n).parts k in
        let its = ap (weight_or part_weight) has in
        absurd (none_is_shown b.here p (omega (arith, zero, its)) ready)

  pub clients_keep_room : Always ClientsKeepRoom (look_loaded u)
  clients_keep_room v vs run k b node e p at = shows_by v vs run k b node e p at (search_real e u)

  pub looks_are_bounded : (us : List ℕ) (ws : ℕ → List ℕ) → LooksAmong us ws u → (vs : List Event) (v : World) →
      RunsTo (look_loaded u) vs v → length vs ≤ events_of_looks (length us) (total (λ k. length (ws k)) (range_with_len 0 cell_count))
  looks_are_bounded us ws among vs v run =
      looks_end f u between none (length us) (λ k. length (ws k))
      (λ x ds on. looks_fit us ws f.settings.bases x (looks_among f u between none us ws among x ds on)) clients_keep_room vs v run
