-- What the phase of reaps and the phase of looks keep.
use Rattle.seam_law_rounds.proofs.Prelude.{◌≡◌, ℕ, ◌<◌, ◌⊎◌, Bool, true, false, cond, eqb, ◌||◌, List, [], ◌∷◌, length, Option, None, Some}
use Rattle.seam_law_rounds.proofs.Prelude.{refl, sym, ap, ◌∙◌, arith, inl, inr, eqb-true, input_from, happens, run, AllEnabled, IsQuiet}
use Rattle.seam_law_rounds.proofs.Prelude.{Occurs, total, Input, Task, From, Event, RealView, Msg, Reap, may_rise, cell_count, RouteView}
use Rattle.seam_law_rounds.proofs.Prelude.{holders, World, node_steps, node_has_work, letter_in, letters_of, In, Nobody, Frame, IsInFrame}
use Rattle.seam_law_rounds.proofs.Prelude.{concerns, kept_if, mine, entity_flow, real_in, real_of, reaps, IsFrame, RunsTo, real_at}
use Rattle.seam_law_rounds.proofs.Prelude.{IsSettled, IsBetweenRounds, reap_comes, occurs, quiet_links, quiet_tasks, one_counts}
use Rattle.seam_law_rounds.proofs.Prelude.{none_counts, gone_leads, EachKeeps, RunsKeep, runs_keep, frame_leads}
use Rattle.seam_law_rounds.proofs.Room.{rows_none}
use Rattle.seam_law_rounds.proofs.Ready.{route_leads}
use Rattle.seam_law_rounds.proofs.Shape.{Somewhere, Nowhere, search_real, keeps_leads, many_leads}
use Rattle.seam_law_rounds.proofs.Calm.{order_reaps, node_reaps, mine_reaps, reaps_of, one_if, IsCalm}
use Rattle.seam_law_rounds.proofs.CalmRuns.{Left, alive, dead, told_by, left, calm_happens}
use Rattle.seam_law_rounds.proofs.Starting.{none_weighs, idle_orders}
use Rattle.seam_law_rounds.proofs.Ending.{calm_one, calm_none, still_settled}
use Rattle.seam_law_rounds.specs.Between.{KeepsRoutes}

-- ---- which input is a Reap

reaps_by : (e x : ℕ) (b : Bool) → (kept_if b (Reap x) ≡ Some (Reap e) → ⊥) → eqb x e ≡ b → b ≡ false
reaps_by e x true n is = absurd (n (ap (λ y. Some (Reap y)) (eqb-true x e is)))
reaps_by e x false n is = refl

no_reap_fed : (e : ℕ) (i : Input Msg) → (letter_in (mine e) i ≡ Some (Reap e) → ⊥) → reaps e (Some i) ≡ false
no_reap_fed e (From a (Reap x)) n = reaps_by e x (eqb x e) n refl
no_reap_fed e _ n = refl

kept_is : (m x : Msg) (b : Bool) → kept_if b m ≡ Some x → (b ≡ true) × (m ≡ x)
kept_is m x true h = (refl, (let z = h in cc))
kept_is m x false h = cc

reap_fed : (e : ℕ) (i : Input Msg) → letter_in (mine e) i ≡ Some (Reap e) → reaps e (Some i) ≡ true
reap_fed e Task h = cc
reap_fed e (From a m) h =
    let two = kept_is m (Reap e) (concerns e m) h in
    ap (λ x. reaps e (Some (From a x))) two.1 ∙ (ap (concerns e) (sym two.1) ∙ two.0)

-- ---- a calm entity, over every list of events

module _ (f : Frame) (frame : IsFrame f) (u : World) (between : IsBetweenRounds f u) (e home : ℕ) (r : RealView)
    (here : real_at e u home ≡ Some r) (told : Bool) (small : told ≡ true → may_rise r.beat ≡ true) where
  pub settled : IsSettled f e home r u
  settled = between.settled e home r here

  pub low : home < cell_count
  low = let a = settled.fits.home in let b = frame.tree.cells_to in omega (arith, a, b)

  pub leads : (k : ℕ) (x : RouteView) → ((entity_flow e u).slot k).base.route ≡ Some x → x.cell ≡ home
  leads =
      route_leads f u e home r settled (λ x y. ap (letters_of (mine e))
      (quiet_links node_has_work u between.nodes.sound.square between.quiet x y))
      between.nodes between.many

  abbrev Calm : World → Type 0
  Calm w = IsCalm f e home r u told w

  pub calm_keeps : EachKeeps Calm
  calm_keeps = calm_happens f e home r low settled.none_held u leads told small

  pub calm_leads : RunsKeep Calm
  calm_leads = runs_keep Calm calm_keeps

  abbrev at_home : World → Option RealView
  at_home w = real_at e w home

  some_of : (o : Option RealView) → one_if o ≡ 1 → (q : RealView) × (o ≡ Some q)
  some_of None is = absurd (omega (arith, is))
  some_of (Some q) is = (q, refl)

  pub alive_counts : (w : World) → Calm w → one_if (at_home w) ≡ 1 → holders w e ≡ 1
  alive_counts w c is =
      let q = some_of (at_home w) is in
      one_counts w e (In home) q.0 (calm_one f e home r u settled told w c q.0 q.1)

  pub dead_counts : (w : World) → Calm w → at_home w ≡ None → holders w e ≡ 0
  dead_counts w c is = none_counts w e (calm_none f e home r u settled told w c is)

  counted_by : (es : List Event) (w : World) (v : Event) (o : Occurs w v) (c : Calm w) → Calm (happens node_steps w v) →
      one_if (at_home w) ≡ 1 → AllEnabled node_has_work node_steps (happens node_steps w v) es →
      (one_if (at_home (happens node_steps w v)) ≡ 1 →
      holders (run node_steps (happens node_steps w v) es) e ≡ cond (reap_comes e (happens node_steps w v) es) 0 1) →
      Left f e home r low settled.none_held u leads told small w v o c →
      holders (run node_steps (happens node_steps w v) es) e
      ≡ cond (reaps e (input_from w.rows v.node v.from) || reap_comes e (happens node_steps w v) es) 0 1
  counted_by es w v o c next is on more (alive n same) =
      let none = ap (reaps e) o.is_fed ∙ no_reap_fed e o.input n in
      more (same ∙ is) ∙ ap (λ b. cond {A = ℕ} (b || reap_comes e (happens node_steps w v) es) 0 1) (sym none)
  counted_by es w v o c next is on more (dead fed gone) =
      let one = ap (reaps e) o.is_fed ∙ reap_fed e o.input fed in
      let none = calm_none f e home r u settled told (happens node_steps w v) next gone in
      let after = gone_leads f frame e (happens node_steps w v) (run node_steps (happens node_steps w v) es) es next.frame none
      (record { each = on; is_run = refl }) in
      none_counts (run node_steps (happens node_steps w v) es) e after
      ∙ ap (λ b. cond {A = ℕ} (b || reap_comes e (happens node_steps w v) es) 0 1) (sym one)

  -- one holder until the Reap comes, and none from then on
  pub counted_until : (es : List Event) (w : World) → Calm w → one_if (at_home w) ≡ 1 → AllEnabled node_has_work node_steps w es →
      holders (run node_steps w es) e ≡ cond (reap_comes e w es) 0 1
  counted_until [] w c is on = alive_counts w c is
  counted_until (v ∷ es) w c is on =
      let o = occurs node_has_work w v on.0 in
      let next = calm_keeps w v o c in
      counted_by es w v o c next is on.1 (λ more. counted_until es (happens node_steps w v) next more on.1)
      (left f e home r low settled.none_held u leads told small w v o c)

  -- one that was not told stays
  record Alive (w : World) : Type 0 where
    calm : Calm w
    is : one_if (at_home w) ≡ 1

  alive_by : (w : World) (v : Event) (o : Occurs w v) → told ≡ false → (a : Alive w) →
      Left f e home r low settled.none_held u leads told small w v o a.calm → one_if (at_home (happens node_steps w v)) ≡ 1
  alive_by w v o never a (alive n same) = same ∙ a.is
  alive_by w v o never a (dead fed gone) =
      absurd (let z = sym (told_by f e home r low settled.none_held u leads told small w v o a.calm e fed) ∙ never in cc)

  alive_keeps : told ≡ false → EachKeeps Alive
  alive_keeps never w v o a = record {
    calm = calm_keeps w v o a.calm;
    is = alive_by w v o never a (left f e home r low settled.none_held u leads told small w v o a.calm);
  }

  pub stays_alive : told ≡ false → (w v : World) (es : List Event) → Calm w → one_if (at_home w) ≡ 1 → RunsTo w es v → holders v e ≡ 1
  stays_alive never w v es c is run =
      let a = runs_keep Alive (alive_keeps never) w v es (record { calm = c; is = is }) run in
      alive_counts v a.calm a.is

  -- where nothing waits, one that was told is gone
  pub quiet_reaps : (w : World) → Calm w → IsQuiet node_has_work w → reaps_of e w ≡ 0
  quiet_reaps w c quiet =
      let links = rows_none (mine_reaps e) w.rows (quiet_links node_has_work w c.frame.sound.square quiet) in
      let nodes = none_weighs (node_reaps e) w.nodes
      (λ k s at. ap (total order_reaps) (idle_orders e s (quiet_tasks node_has_work w quiet k s at))) in
      omega (arith, links, nodes)

  none_of : (o : Option RealView) → one_if o ≡ 0 → o ≡ None
  none_of None is = refl
  none_of (Some q) is = absurd (omega (arith, is))

  pub told_is_gone : (w : World) → Calm w → IsQuiet node_has_work w → told ≡ true → holders w e ≡ 0
  told_is_gone w c quiet is =
      let a = c.reaps ∙ ap (λ b. cond {A = ℕ} b (one_if (at_home w)) 0) is in
      let zero = quiet_reaps w c quiet in
      dead_counts w c (none_of (at_home w) (omega (arith, a, zero)))

-- ---- the record holds again, where each entity that was there is calm

module _ (f : Frame) (u : World) (between : IsBetweenRounds f u) (w : World) (frame : IsInFrame f w)
    (many : length w.nodes ≡ length u.nodes)
    (none : (e : ℕ) → Nobody real_in real_of (entity_flow e u) → Nobody real_in real_of (entity_flow e w)) (told : (e : ℕ) → Bool)
    (calm : (e home : ℕ) (r : RealView) → real_at e u home ≡ Some r → IsCalm f e home r u (told e) w)
    (small : (e k : ℕ) (r : RealView) → real_at e u k ≡ Some r → told e ≡ true → may_rise r.beat ≡ true) (v : World) (es : List Event)
    (run : RunsTo w es v) (quiet : IsQuiet node_has_work v)
    (keeps : (e k : ℕ) (q : RealView) → real_at e v k ≡ Some q → KeepsRoutes e u → KeepsRoutes e w) where
  nobody : (e : ℕ) → Nowhere e u → Nobody real_in real_of (entity_flow e u)
  nobody e n = record {
    slots = n;
    mail = λ x y.
        ap (λ l. letters_of real_of (letters_of (mine e) l)) (quiet_links node_has_work u between.nodes.sound.square between.quiet x y);
  }

  settled_by : (e k : ℕ) (q : RealView) → real_at e v k ≡ Some q → Somewhere e u ⊎ Nowhere e u → IsSettled f e k q v
  settled_by e k q at (inl p) =
      still_settled f e p.0 p.1 u (between.settled e p.0 p.1 p.2) (told e) v
      (calm_leads f between.frame u between e p.0 p.1 p.2 (told e) (small e p.0 p.1 p.2) w v es (calm e p.0 p.1 p.2) run) k q at
  settled_by e k q at (inr n) =
      let gone = gone_leads f between.frame e w v es frame (none e (nobody e n)) run in
      absurd (let z = sym (gone.slots k) ∙ at in cc)

  kept_by : (e k : ℕ) (q : RealView) → real_at e v k ≡ Some q → Somewhere e u ⊎ Nowhere e u → KeepsRoutes e u
  kept_by e k q at (inl p) = between.kept e p.0 p.1 p.2
  kept_by e k q at (inr n) =
      let gone = gone_leads f between.frame e w v es frame (none e (nobody e n)) run in
      absurd (let z = sym (gone.slots k) ∙ at in cc)

  pub between_again : IsBetweenRounds f v
  between_again = record {
    frame = between.frame;
    nodes = frame_leads f w v es frame run;
    many = many_leads w v es run ∙ (many ∙ between.many);
    quiet = quiet;
    settled = λ e k q at. settled_by e k q at (search_real e u);
    kept = λ e k q at. keeps_leads e w v es (keeps e k q at (kept_by e k q at (search_real e u))) run;
  }
