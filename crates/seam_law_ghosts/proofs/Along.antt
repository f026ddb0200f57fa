-- The place of a real stays on its way after each event, and so after every list of events.
use Rattle.seam_law_ghosts.proofs.Prelude.{◌≡◌, ℕ, ◌<◌, ◌≤◌, List, [], ◌∷◌, ◌++◌, length, Option, Some, refl, sym, ap, ◌∙◌, subst, inl, inr}
use Rattle.seam_law_ghosts.proofs.Prelude.{cases_eq, Pos, Distances, Place, last_of, after, type_of, happens, Occurs, Event, Call, RealView}
use Rattle.seam_law_ghosts.proofs.Prelude.{limit, Msg, Hand, Reap, World, node_steps, Flow, Goes, comes, letter_in, In, On, Sole, Turned}
use Rattle.seam_law_ghosts.proofs.Prelude.{Handles, still, turns, lands, leaves, relays, place_after, token_after, Frame, HasOneTree, Has}
use Rattle.seam_law_ghosts.proofs.Prelude.{mine, entity_flow, MovesTo, real_burden, Replays, real_in, real_of, IsOne, IsSpared, AllFits}
use Rattle.seam_law_ghosts.proofs.Prelude.{IsFrame, HasOne, OneFrom, RunsTo, distances_of, place_of, path_of, home_of, IsDue, IsOnItsWay}
use Rattle.seam_law_ghosts.proofs.Prelude.{waits, IsPlaced, settled, sole_here, sole_came, sole_goes, token_turns, goes, one_happens}
use Rattle.seam_law_ghosts.proofs.Prelude.{calm_of, spared_happens, replays_none, replays_on, EachKeeps, runs_keep}
use Rattle.seam_law_flow.specs.Tokens as token
use Rattle.seam_law_ghosts.proofs.Ways.{way_due, way_survey, way_call}
use Rattle.seam_law_ghosts.proofs.Paths.{is_at_last, path_more, same_further, more_further}
use Rattle.seam_law_ghosts.proofs.Placing.{Settles, by_survey, by_call, PlacesBy, Placed}
use Rattle.seam_law_ghosts.proofs.PlaceMoves.{by_first_tree}
use Rattle.seam_node_steps.specs.Prelude.{Boundaries}

module _ (f : Frame) (alone : HasOneTree f) (home : ℕ) (start : RealView) where
  abbrev d : Distances
  d = distances_of f.settings

  -- a place is on the way of `start` after these calls
  abbrev pub OnWay : List Call → Place → Type 0 → Type 0
  OnWay calls place due = IsOnItsWay d f.tree (place_of home start) start.state.pos (path_of f start calls) place due

  -- ---- the real r of cell k becomes q

  module _ (k : ℕ) (r : RealView) (p : Replays f start r) (due : Type 0) (way : OnWay p.further (place_of k r) due) (q : RealView)
      (n : Replays f start q) (then : Type 0) where
    abbrev Way : List Pos → Place → Type 0
    Way path place = IsOnItsWay d f.tree (place_of home start) start.state.pos path place then

    same_way : (j : ℕ) → q.done ≡ r.done → q.haunts ≡ r.haunts → j ≡ k → (due → then) → OnWay n.further (place_of j q) then
    same_way j done haunts at more =
        let place : place_of j q ≡ place_of k r = ap (λ i. place_of i q) at
        ∙ ap (λ s. let now : Place = record { home = k; ghosts = s } in now) haunts in
        subst (λ cs. OnWay cs (place_of j q) then) (sym (same_further f start r p q n done))
        (subst (λ x. OnWay p.further x then) (sym place)
        (way_due d f.tree (place_of home start) start.state.pos (path_of f start p.further) (place_of k r) due then more way))

    settles_way : (j : ℕ) → Settles f f.tree k j r q → OnWay n.further (place_of j q) then
    settles_way j (by_survey done state is) =
        let at : q.state.pos ≡ last_of start.state.pos (path_of f start p.further) = ap (λ s. s.pos) state ∙ is_at_last f start r p in
        subst (λ cs. OnWay cs (place_of j q) then) (sym (same_further f start r p q n done))
        (subst (λ x. OnWay p.further x then) (sym (is ∙ ap (settled d f.tree (place_of k r)) at))
        (way_survey d f.tree (place_of home start) start.state.pos (path_of f start p.further) (place_of k r) due then way))
    settles_way j (by_call c done state is) =
        let at : Pos = (after (type_of f.defs r.ty) r.state c.deed).pos in
        subst (λ cs. OnWay cs (place_of j q) then) (sym (more_further f start r p q n c done))
        (subst (λ ps. Way ps (place_of j q)) (sym (path_more f start r p c))
        (subst (Way (path_of f start p.further ++ at ∷ []))
        (sym (is ∙ ap (λ s. settled d f.tree (place_of k r) s.pos) state))
        (way_call d f.tree (place_of home start) start.state.pos (path_of f start p.further) (place_of k r) at due then way)))

  -- ---- an event

  module _ (frame : IsFrame f) (e ty : ℕ) (known : ty < length f.defs) where
    module _ (w : World) (v : Event) (o : Occurs w v) (x : IsPlaced f e ty home start w)
        (calm : letter_in (mine e) o.input ≡ Some (Reap e) → ⊥) where
      abbrev has : HasOne f e ty w
      has = x.one.has

      abbrev next : World
      next = happens node_steps w v

      abbrev flow : Flow Has Msg
      flow = entity_flow e w

      abbrev Comes : Option Msg → Type 0
      Comes i = ((r : RealView) (bs : Option Boundaries) → i ≡ Some (Hand r bs) → real_burden r < limit) × (i ≡ Some (Reap e) → ⊥)

      abbrev g : Goes (λ k s i t out. MovesTo f e k s i t out × Comes i) flow (entity_flow e next)
      g = goes f frame e ty known w v o has calm

      abbrev Its : Type 0
      Its = Handles real_in real_of (Replays f) (flow.slot g.k) (comes g.input) ((entity_flow e next).slot g.k) g.out

      what : Placed f f.tree g.k (flow.slot g.k) (comes g.input) ((entity_flow e next).slot g.k) g.out
      what = by_first_tree f frame e ty known w v o has calm alone

      -- ---- the one real after it

      turned : (q : RealView) → Turned (Replays f) has.real q → Replays f has.real q
      turned q (inl same) = subst (Replays f has.real) (sym same) (replays_none f has.real)
      turned q (inr a) = a

      since : Replays f start (token_after what.0 has.real)
      since =
          replays_on f start has.real (token_after what.0 has.real) x.one.replays
          (turned (token_after what.0 has.real) (token_turns real_in real_of (Replays f) g has.place has.real has.one what.0))

      abbrev next_one : OneFrom f e ty start next
      next_one = record {
        has = record {
          fits = (one_happens f frame e ty known w v o has calm).has.fits;
          place = place_after g.k what.0 has.place;
          real = token_after what.0 has.real;
          one = sole_goes real_in real_of (Replays f) g has.place has.real has.one what.0;
        };
        replays = since;
      }

      -- ---- its place

      -- the real is where it was, and the list too
      due_then : (p : token.TokenPlace) → Sole real_in real_of flow p has.real → ((r : RealView) → real_in (flow.slot g.k) ≡ Some r →
          1 ≤ (flow.slot g.k).cell.survey → 1 ≤ ((entity_flow e next).slot g.k).cell.survey) → IsDue e w p → IsDue e next p
      due_then (In j) one stays on = elim (cases_eq j g.k) [
        | inl is ↦
            let there = stays has.real (ap (λ i. real_in (flow.slot i)) (sym is) ∙ one.here)
            (subst (λ i. 1 ≤ (flow.slot i).cell.survey) is on) in
            subst (λ i. 1 ≤ ((entity_flow e next).slot i).cell.survey) (sym is) there
        | inr n ↦ subst (λ (h : Has). 1 ≤ h.cell.survey) (sym (g.others j n)) on
      ]
      due_then (On a b) one stays on = absurd on

      -- the way of the real that acts
      way_here : has.place ≡ In g.k → OnWay x.one.replays.further (place_of g.k has.real) (IsDue e w (In g.k))
      way_here at = subst (λ p. OnWay x.one.replays.further (place_of (home_of p) has.real) (IsDue e w p)) at x.way

      abbrev Then : token.TokenPlace → RealView → List Call → Type 0
      Then p q calls = OnWay calls (place_of (home_of p) q) (IsDue e next p)

      way_by : (m : Its) → PlacesBy f f.tree g.k (flow.slot g.k) (comes g.input) ((entity_flow e next).slot g.k) g.out m →
          (n : Replays f start (token_after m has.real)) →
          Then (place_after g.k m has.place) (token_after m has.real) n.further
      way_by (still a b c) stays n =
          same_way (home_of has.place) has.real x.one.replays (IsDue e w has.place) x.way has.real n (IsDue e next has.place)
          (home_of has.place) refl refl refl (due_then has.place has.one stays)
      way_by (turns r q a b c y z) (inl (alike, stays)) n =
          let at = sole_here real_in real_of flow has.place has.real r g.k has.one a in
          subst (λ p. Then p q n.further) (sym at.0)
          (same_way g.k has.real x.one.replays (IsDue e w (In g.k)) (way_here at.0) q n (IsDue e next (In g.k)) g.k
          (alike.done ∙ ap (λ (i : RealView). i.done) at.1) (alike.haunts ∙ ap (λ (i : RealView). i.haunts) at.1) refl stays)
      way_by (turns r q a b c y z) (inr settles) n =
          let at = sole_here real_in real_of flow has.place has.real r g.k has.one a in
          subst (λ p. Then p q n.further) (sym at.0)
          (settles_way g.k has.real x.one.replays (IsDue e w (In g.k)) (way_here at.0) q n (IsDue e next (In g.k)) g.k
          (subst (λ i. Settles f f.tree g.k g.k i q) at.1 settles))
      way_by (lands r q a b c y) same n =
          let at = sole_came real_in real_of g has.place has.real r has.one a in
          let is = same ∙ at.2 in
          same_way g.k has.real x.one.replays ⊥
          (subst (λ p. OnWay x.one.replays.further (place_of (home_of p) has.real) (IsDue e w p)) at.1 x.way) q n
          (IsDue e next (In g.k)) g.k (ap (λ (i : RealView). i.done) is) (ap (λ (i : RealView). i.haunts) is) refl (λ no. absurd no)
      way_by (leaves r q to a b c y z) settles n =
          let at = sole_here real_in real_of flow has.place has.real r g.k has.one a in
          settles_way g.k has.real x.one.replays (IsDue e w (In g.k)) (way_here at.0) q n ⊥ to
          (subst (λ i. Settles f f.tree g.k to i q) at.1 settles)
      way_by (relays r q to a b c z) h n = absurd h

      pub placed_happens : IsPlaced f e ty home start next
      placed_happens = record { one = next_one; way = way_by what.0 what.1 since }

    -- ---- every list of events

    record IsPlacedSpared (w : World) : Type 0 where
      is : IsPlaced f e ty home start w
      spared : IsSpared e w

    placed_spared : EachKeeps IsPlacedSpared
    placed_spared w v o x = record {
      is = placed_happens w v o x.is (calm_of f e w v o x.is.one.has.fits.frame x.spared);
      spared = spared_happens f e w v o x.is.one.has.fits.frame x.spared;
    }

    pub placed_first : (w : World) → AllFits f e ty w → IsOne e w (In home) start → IsDue e w (In home) → IsPlaced f e ty home start w
    placed_first w fits one due = record {
      one = record {
        has = record { fits = fits; place = In home; real = start; one = one };
        replays = record { further = []; entity = refl; type = refl; account = refl };
      };
      way = waits refl refl due;
    }

    pub placed_leads : (w v : World) (es : List Event) → AllFits f e ty w → IsSpared e w → IsOne e w (In home) start →
        IsDue e w (In home) → RunsTo w es v → IsPlaced f e ty home start v
    placed_leads w v es fits spared one due run =
        (runs_keep IsPlacedSpared placed_spared w v es (record { is = placed_first w fits one due; spared = spared }) run).is
