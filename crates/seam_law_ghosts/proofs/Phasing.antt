-- Where entities are reaped, and where witnesses look, copies stay what they are, but for those of an entity whose Reap comes.
use Rattle.seam_law_ghosts.proofs.Prelude.{◌≡◌, ℕ, ◌<◌, ◌⊎◌, Bool, true, List, [], Option, None, Some, refl, sym, ap, ◌∙◌, subst, arith}
use Rattle.seam_law_ghosts.proofs.Prelude.{inl, inr, Division, happens, IsQuiet, Event, RealView, WitnessView, Msg, Hand, GhostSet}
use Rattle.seam_law_ghosts.proofs.Prelude.{GhostDrop, Tick, Reap, Update, is_small, may_rise, cell_count, is_stray, holders, World}
use Rattle.seam_law_ghosts.proofs.Prelude.{node_steps, node_has_work, Goes, comes, TokenPlace, In, On, Frame, here_at, IsInFrame, Has}
use Rattle.seam_law_ghosts.proofs.Prelude.{entity_flow, MovesTo, RealFits, real_in, real_of, IsOne, IsFrame, RunsTo, real_at, IsSettled}
use Rattle.seam_law_ghosts.proofs.Prelude.{IsBetweenRounds, Entry, brings, book_entry, GhostMoves, wanted, copy_at, NewestAreWanted}
use Rattle.seam_law_ghosts.proofs.Prelude.{IsForgotten, AreSettled, AreCopiesBetweenRounds, came, sole_here, event_moves, one_counts}
use Rattle.seam_law_ghosts.proofs.Prelude.{none_counts, not_both, quiet_home, Somewhere, Nowhere, search_real, frame_leads, IsSame}
use Rattle.seam_law_ghosts.proofs.Prelude.{IsCalmTo, IsCalm, IsUnknown, unknown_leads, RunsKeep, runs_keep, calm_keeps, Occurs}
use Rattle.seam_law_rounds.proofs.Ending.{calm_one, calm_none}
use Rattle.seam_law_ghosts.proofs.InPhases.{small_to}
use Rattle.seam_law_ghosts.proofs.Steps.{ghost_moves}
use Rattle.seam_law_ghosts.proofs.Moving.{After, here, gone, after_move, still_forgotten}
use Rattle.seam_law_ghosts.proofs.Still.{quiet_mail, nowhere_counts, forgotten_still, none_still, told_still, settled_still}
use Rattle.seam_law_ghosts.proofs.Rounding.{lost_leads}
use Rattle.seam_law_calls.proofs.Gone.{gone_happens}

module _ (f : Frame) (frame : IsFrame f) (u : World) (between : IsBetweenRounds f u) (e home : ℕ) (r : RealView)
    (there : real_at e u home ≡ Some r) (is_told : Bool) (small : is_told ≡ true → may_rise r.beat ≡ true) where
  abbrev settled : IsSettled f e home r u
  settled = between.settled e home r there

  abbrev Calm : World → Type 0
  Calm w = IsCalm f e home r u is_told w

  -- the real is at home, and each cell is told what it wants
  pub record Alive (w : World) : Type 0 where
    pub real : RealView
    pub at : real_at e w home ≡ Some real
    pub told : NewestAreWanted f e w (In home) real

  -- the real is gone, and each cell is told that
  pub record Forgot (w : World) : Type 0 where
    pub gone : real_at e w home ≡ None
    pub forgotten : IsForgotten e w

  pub record IsLeaving (w : World) : Type 0 where
    pub calm : Calm w
    pub state : Alive w ⊎ Forgot w

  -- ---- what comes

  fresh_by : (k : ℕ) (s : Has) (m : Msg) (x : Entry) → IsCalmTo is_told home r k m → brings m ≡ Some x → (tree : Division) →
      is_stray (here_at f k) tree s.cell.slot m ≡ true → ⊥
  fresh_by k s (GhostDrop y n) x h is tree stray = not_both (is_small n) (small_to n r.beat h.1 (small h.0)) stray
  fresh_by k s Tick x h is tree stray = cc
  fresh_by k s (Reap y) x h is tree stray = cc
  fresh_by k s (Update m) x h is tree stray = cc
  fresh_by k s _ x h is tree stray = h

  fits_by : (k : ℕ) (q : RealView) → (k ≡ home) × IsSame r q → RealFits f e r.ty k q
  fits_by k q same =
      let fit = settled.fits in
      let seen : (x : Option WitnessView) → RealFits f e r.ty home (record r { witness = x }) = λ x. record {
        entity = fit.entity;
        type = fit.type;
        values = fit.values;
        inside = fit.inside;
        held = fit.held;
        home = fit.home;
        haunts = fit.haunts;
      } in
      subst (λ j. RealFits f e r.ty j q) (sym same.0) (subst (RealFits f e r.ty home) same.1.1 (seen same.1.0))

  -- ---- an event

  module _ (w : World) (v : Event) (o : Occurs w v) (calm : Calm w) where
    abbrev next : World
    next = happens node_steps w v

    calm_next : Calm next
    calm_next = calm_keeps f frame u between e home r there is_told small w v o calm

    abbrev g : Goes (MovesTo f e) (entity_flow e w) (entity_flow e next)
    g = event_moves f w v o calm.frame e

    comes_calm : (m : Msg) → comes g.input ≡ Some m → IsCalmTo is_told home r g.k m
    comes_calm m is = (came (λ a k m. IsCalmTo is_told home r k m) g m is calm.mail).1

    fresh : (m : Msg) (x : Entry) → comes g.input ≡ Some m → g.k < cell_count → brings m ≡ Some x → real_of m ≡ None →
        (tree : Division) → is_stray (here_at f g.k) tree ((entity_flow e w).slot g.k).cell.slot m ≡ true → ⊥
    fresh m x is low brought none tree stray = fresh_by g.k ((entity_flow e w).slot g.k) m x (comes_calm m is) brought tree stray

    move : GhostMoves f e g.k ((entity_flow e w).slot g.k) (comes g.input) ((entity_flow e next).slot g.k) g.moves.sent
    move =
        ghost_moves f e r.ty g.k ((entity_flow e w).slot g.k) (comes g.input) ((entity_flow e next).slot g.k) g.moves.sent
        (λ q bs is. absurd (comes_calm (Hand q bs) is)) (λ q at. fits_by g.k q ((calm.nodes g.k).real q at)) g.moves.moves

    -- one that is somewhere is at home
    home_by : (o : Option RealView) → real_at e next home ≡ o → (p : TokenPlace) (q : RealView) → IsOne e next p q →
        (p ≡ In home) × (real_at e next home ≡ Some q)
    home_by (Some x) at p q one =
        let is = sole_here real_in real_of (entity_flow e next) p q x home one at in
        (is.0, at ∙ ap Some is.1)
    home_by None at (In k) q one =
        absurd (let z = sym ((calm_none f e home r u settled is_told next calm_next at).slots k) ∙ one.here in cc)
    home_by None at (On a b) q one =
        absurd (let z = sym ((calm_none f e home r u settled is_told next calm_next at).mail a b) ∙ one.here in cc)

    state_by : After f e w next g g.moves.sent g.moves.items → Alive next ⊎ Forgot next
    state_by (here p q one told) =
        let is = home_by (real_at e next home) refl p q one in
        inl (record { real = q; at = is.1; told = subst (λ x. NewestAreWanted f e next x q) is.0 told })
    state_by (gone is none forgotten) =
        let same : g.k ≡ home = comes_calm (Reap e) is in
        inr (record { gone = ap (λ k. real_at e next k) (sym same) ∙ none; forgotten = forgotten })

    state_next : Alive w ⊎ Forgot w → Alive next ⊎ Forgot next
    state_next (inl a) =
        state_by (after_move f e w next g g.moves.sent g.moves.items (In home) a.real
        (calm_one f e home r u settled is_told w calm a.real a.at) a.told fresh
        (λ n c q is at. absurd (comes_calm (GhostSet e n c) is)) move)
    state_next (inr x) =
        let nobody = calm_none f e home r u settled is_told w calm x.gone in
        inr (record {
          gone = (gone_happens f frame e w v o calm.frame nobody).slots home;
          forgotten =
              still_forgotten f e w next g g.moves.sent g.moves.items (nobody.slots g.k)
              (λ q bs is. comes_calm (Hand q bs) is) x.forgotten fresh
              move;
        })

  pub leaving_leads : RunsKeep IsLeaving
  leaving_leads =
      runs_keep IsLeaving (λ w v o x. record { calm = calm_next w v o x.calm; state = state_next w v o x.calm x.state })

-- ---- a phase whose load only gives orders

module _ (f : Frame) (u : World) (between : IsBetweenRounds f u) (copies : AreCopiesBetweenRounds f u) (w : World) (frame : IsInFrame f w)
    (told : ℕ → Bool) (small : (e home : ℕ) (r : RealView) → real_at e u home ≡ Some r → told e ≡ true → may_rise r.beat ≡ true)
    (calm : (e home : ℕ) (r : RealView) → real_at e u home ≡ Some r → IsCalm f e home r u (told e) w)
    (unknown : (e : ℕ) → Nowhere e u → IsUnknown f e w)
    (books : (e k : ℕ) → book_entry ((entity_flow e w).slot k) ≡ book_entry ((entity_flow e u).slot k))
    (stay : (e k : ℕ) → real_at e w k ≡ real_at e u k) (idle : (e x y : ℕ) → (entity_flow e w).mail x y ≡ []) (v : World) (vs : List Event)
    (run : RunsTo w vs v) where
  module _ (e home : ℕ) (r : RealView) (there : real_at e u home ≡ Some r) where
    starts : IsLeaving f between.frame u between e home r there (told e) (small e home r there) w
    starts =
        let old = copies.settled e home r there in
        record {
          calm = calm e home r there;
          state = inl (record {
            real = r;
            at = stay e home ∙ there;
            told = told_still f e w (idle e) home r (record {
              away = old.away;
              copies = λ k low. ap (λ p. p.1) (books e k) ∙ old.copies k low;
              beats = λ k low.
                  let few = old.beats k low in
                  let same = ap (λ p. p.0) (books e k) in
                  omega (arith, few, same);
            });
          });
        }

    pub leaving_then : IsLeaving f between.frame u between e home r there (told e) (small e home r there) v
    leaving_then = leaving_leads f between.frame u between e home r there (told e) (small e home r there) w v vs starts run

    abbrev IsAlive : Type 0
    IsAlive = Alive f between.frame u between e home r there (told e) (small e home r there) v

    abbrev IsGone : Type 0
    IsGone = Forgot f between.frame u between e home r there (told e) (small e home r there) v

    told_by : (q : RealView) → real_at e v home ≡ Some q → IsAlive ⊎ IsGone → NewestAreWanted f e v (In home) q
    told_by q at (inl a) = let same : a.real ≡ q = let z = sym a.at ∙ at in cc in subst (NewestAreWanted f e v (In home)) same a.told
    told_by q at (inr x) = absurd (let z = sym x.gone ∙ at in cc)

    -- while the real is there, each cell is told what it wants
    pub phase_told : (q : RealView) → real_at e v home ≡ Some q → NewestAreWanted f e v (In home) q
    phase_told q at = told_by q at leaving_then.state

    forgotten_by : real_at e v home ≡ None → IsAlive ⊎ IsGone → IsForgotten e v
    forgotten_by at (inl a) = absurd (let z = sym at ∙ a.at in cc)
    forgotten_by at (inr x) = x.forgotten

    -- once it is gone, each cell is told that
    pub phase_forgotten : real_at e v home ≡ None → IsForgotten e v
    phase_forgotten at = forgotten_by at leaving_then.state

  pub forgotten_then : (e : ℕ) → Nowhere e u → IsForgotten e v
  forgotten_then e n =
      lost_leads f e w v vs (unknown e n)
      (forgotten_still f e w (idle e) (λ k low. ap (λ p. p.1) (books e k) ∙ copies.none e (nowhere_counts f u between e n) k low)) run

  -- ---- where it is quiet

  module _ (quiet : IsQuiet node_has_work v) where
    still : (e x y : ℕ) → (entity_flow e v).mail x y ≡ []
    still = quiet_mail f v (frame_leads f w v vs frame run) quiet

    module _ (e home : ℕ) (r : RealView) (there : real_at e u home ≡ Some r) where
      abbrev leaving : IsLeaving f between.frame u between e home r there (told e) (small e home r there) v
      leaving = leaving_then e home r there

      settled_at : (k : ℕ) (q : RealView) → real_at e v k ≡ Some q → IsAlive e home r there ⊎ IsGone e home r there → AreSettled f e k q v
      settled_at k q at (inl a) =
          let is : k ≡ home = ((leaving.calm.nodes k).real q at).0 in
          let same : a.real ≡ q = let z = sym a.at ∙ (ap (λ j. real_at e v j) (sym is) ∙ at) in cc in
          subst (λ j. AreSettled f e j q v) (sym is)
          (subst (λ x. AreSettled f e home x v) same (settled_still f e v (still e) home a.real a.told))
      settled_at k q at (inr x) =
          let is : k ≡ home = ((leaving.calm.nodes k).real q at).0 in
          absurd (let z = sym x.gone ∙ (ap (λ j. real_at e v j) (sym is) ∙ at) in cc)

      none_at : holders v e ≡ 0 → (k : ℕ) → k < cell_count → IsAlive e home r there ⊎ IsGone e home r there → copy_at e v k ≡ None
      none_at zero k low (inl a) =
          let one = one_counts v e (In home) a.real
          (calm_one f e home r u (between.settled e home r there) (told e) v leaving.calm a.real a.at) in
          absurd (omega (arith, one, zero))
      none_at zero k low (inr x) = none_still f e v (still e) x.forgotten k low

    settled_by : (e k : ℕ) (q : RealView) → real_at e v k ≡ Some q → Somewhere e u ⊎ Nowhere e u → AreSettled f e k q v
    settled_by e k q at (inl p) = settled_at e p.0 p.1 p.2 k q at (leaving e p.0 p.1 p.2).state
    settled_by e k q at (inr n) =
        absurd (let z = sym ((unknown_leads f e w v vs (unknown e n) run).slots k).real ∙ at in cc)

    none_by : (e : ℕ) → holders v e ≡ 0 → (k : ℕ) → k < cell_count → Somewhere e u ⊎ Nowhere e u → copy_at e v k ≡ None
    none_by e zero k low (inl p) = none_at e p.0 p.1 p.2 zero k low (leaving e p.0 p.1 p.2).state
    none_by e zero k low (inr n) = none_still f e v (still e) (forgotten_then e n) k low

    pub phase_ends_copied : AreCopiesBetweenRounds f v
    phase_ends_copied = record {
      settled = λ e k q at. settled_by e k q at (search_real e u);
      none = λ e zero k low. none_by e zero k low (search_real e u);
    }

    -- the copies of an entity whose real is there are what they were
    stays_by : (e home : ℕ) (r : RealView) (there : real_at e u home ≡ Some r) → holders v e ≡ 1 →
        IsAlive e home r there ⊎ IsGone e home r there → (k : ℕ) → k < cell_count → copy_at e v k ≡ copy_at e u k
    stays_by e home r there one (inl a) k low =
        let same = (((leaving e home r there).calm.nodes home).real a.real a.at).1 in
        (settled_at e home r there home a.real a.at (inl a)).copies k low
        ∙ (ap (λ x. wanted f x k) (sym same.1) ∙ sym ((copies.settled e home r there).copies k low))
    stays_by e home r there one (inr x) k low =
        let zero = none_counts v e
        (calm_none f e home r u (between.settled e home r there) (told e) v (leaving e home r there).calm x.gone) in
        absurd (omega (arith, one, zero))

    pub phase_stays : (e : ℕ) → holders u e ≡ 1 → holders v e ≡ 1 → (k : ℕ) → k < cell_count → copy_at e v k ≡ copy_at e u k
    phase_stays e was now =
        let h = quiet_home f u between e was in
        stays_by e h.node h.real h.here now (leaving e h.node h.real h.here).state
