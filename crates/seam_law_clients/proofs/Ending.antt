-- Where a round's calls end a client fits its witness, also in what it was shown of others.
use Rattle.seam_law_clients.proofs.Prelude.{◌≡◌, ℕ, ◌+◌, ◌≤◌, ◌⊎◌, Bool, true, false, cond, List, [], ◌∷◌, Option, None, Some, refl, sym}
use Rattle.seam_law_clients.proofs.Prelude.{ap, ◌∙◌, subst, arith, inl, inr, AllByRecursion, nat_cmp, eq_by_cmp, nat_cmp_total, IsQuiet}
use Rattle.seam_law_clients.proofs.Prelude.{Event, TypeDef, changes, type_of, Call, Batch, GhostCopy, Shown, Own, Enter, Set, Leave}
use Rattle.seam_law_clients.proofs.Prelude.{public_after, RealView, WitnessView, loaded, World, node_has_work, Frame, IsInFrame}
use Rattle.seam_law_clients.proofs.Prelude.{entity_flow, real_in, real_of, HasOne, Account, account_of, after_call, after_calls, Replays}
use Rattle.seam_law_clients.proofs.Prelude.{home_of, shown_at, HasClient, IsAbsent, RunsTo, real_at, framed, MayBegin, IsTrue, present}
use Rattle.seam_law_clients.proofs.Prelude.{FitsWitness, FitsWithin, TellsRightly, WasOther, true_between, sole_here, one_leads}
use Rattle.seam_law_clients.proofs.Prelude.{frame_loaded, settled_loaded, spared_loaded, Somewhere, Nowhere, search_real, ClientReplica}
use Rattle.seam_law_clients.proofs.Prelude.{after_shown, after_all_shown, Truth, ShowsTruth, tied_same, absent_leads}
use Rattle.std.specs.FinMap as table
use Rattle.seam_law_calls.proofs.OneReal.{spared_leads}
use Rattle.seam_law_clients.proofs.Starts.{shown_rightly, fits_shown}

-- ---- where a version shown is from

module _ (t : Truth) where
  -- it was shown before, or is that of a line
  data IsFrom (c : ClientReplica) (x version : ℕ) : Type 0 where
    was : table.get c.others.shown x ≡ Some version → IsFrom c x version
    now : (d : GhostCopy) → t.other x d → d.version ≡ version → IsFrom c x version

  copy_by : (c : ClientReplica) (e x version : ℕ) (d : GhostCopy) (b : Bool) → eq_by_cmp nat_cmp x e ≡ b → t.other e d →
      cond b (Some d.version) (table.get c.others.shown x) ≡ Some version → IsFrom c x version
  copy_by c e x version d true tied is_true is = now d (subst (λ y. t.other y d) (sym (tied_same x e tied)) is_true) (let z = is in cc)
  copy_by c e x version d false tied is_true is = was is

  copy_from : (c : ClientReplica) (e x version : ℕ) (d : GhostCopy) → t.other e d →
      table.get (table.insert c.others.shown e d.version) x ≡ Some version → IsFrom c x version
  copy_from c e x version d is_true is =
      copy_by c e x version d (eq_by_cmp nat_cmp x e) refl is_true (sym (table.get-insert nat_cmp_total c.others.shown e d.version x) ∙ is)

  line_from : (c : ClientReplica) (s : Shown) (x version : ℕ) → ShowsTruth t s →
      table.get (after_shown c s).others.shown x ≡ Some version → IsFrom c x version
  line_from c (Own n state) x version is_true is = was is
  line_from c (Enter e d) x version is_true is = copy_from c e x version d is_true is
  line_from c (Set e d) x version is_true is = copy_from c e x version d is_true is
  line_from c (Leave e) x version is_true is = was is

  lines_from : (ss : List Shown) (c : ClientReplica) (x version : ℕ) → AllByRecursion (ShowsTruth t) ss →
      table.get (after_all_shown c ss).others.shown x ≡ Some version → IsFrom c x version
  lines_from [] c x version all is = was is
  lines_from (s ∷ ss) c x version all is = by (lines_from ss (after_shown c s) x version all.1 is)
    where
      by : IsFrom (after_shown c s) x version → IsFrom c x version
      by (was h) = line_from c s x version all.0 h
      by (now d is_true same) = now d is_true same

-- ---- the public version never falls

public_by : (b : Bool) (v p : ℕ) → p ≤ v → (p ≤ public_after b (v + 1) p) × (public_after b (v + 1) p ≤ v + 1)
public_by true v p le = (omega (arith, le), omega (arith, le))
public_by false v p le = (omega (arith, le), omega (arith, le))

public_on : (t : TypeDef) (ks : List Call) (a : Account) → a.public ≤ a.version →
    (a.public ≤ (after_calls t a ks).public) × ((after_calls t a ks).public ≤ (after_calls t a ks).version)
public_on t [] a le = (omega (arith, le), le)
public_on t (k ∷ ks) a le =
    let one = public_by (changes t a.state k.deed) a.version a.public le in
    let more = public_on t ks (after_call t a k) one.1 in
    let first = one.0 in
    let rest = more.0 in
    (omega (arith, first, rest), more.1)

public_rises : (f : Frame) (r q : RealView) → Replays f r q → r.public ≤ r.version → (r.public ≤ q.public) × (q.public ≤ q.version)
public_rises f r q p le =
    let on = public_on (type_of f.defs r.ty) p.further (account_of r) le in
    let public = ap (λ (a : Account). a.public) p.account in
    let version = ap (λ (a : Account). a.version) p.account in
    let up = on.0 in
    let low = on.1 in
    (omega (arith, up, public), omega (arith, low, public, version))

-- ---- what it was shown where the world is quiet

module _ (g : Frame) (start v : World) (e ty first : ℕ) (c : ClientReplica) (h : TellsRightly g e ty first (true_between g e start v) c v)
    (client : HasClient g e ty first v) (quiet : IsQuiet node_has_work v) where
  now_fits : FitsWithin g h.one.real h.witness (after_all_shown c (shown_at ((entity_flow e v).slot (home_of g e))))
  now_fits = fits_shown g e ty first (true_between g e start v) v c h client quiet

  shown_from : (x version : ℕ) → table.get h.witness.view.shown x ≡ Some version → IsFrom (true_between g e start v) c x version
  shown_from x version is =
      lines_from (true_between g e start v) (shown_at ((entity_flow e v).slot (home_of g e))) c x version
      (shown_rightly g e ty first (true_between g e start v) v c h).true_ (ap (λ y. table.get y.shown x) now_fits.others ∙ is)

  -- one that it was not shown, and that has no real as the calls begin, it is not shown
  pub not_shown : (x : ℕ) → table.get c.others.shown x ≡ None → Nowhere x start → table.get h.witness.view.shown x ≡ None
  not_shown x none n = by (table.get h.witness.view.shown x) refl
    where
      from : (version : ℕ) → IsFrom (true_between g e start v) c x version → ⊥
      from version (was is) = let z = sym none ∙ is in cc
      from version (now d o same) = let z = sym (n o.home) ∙ o.at_first in cc

      by : (o : Option ℕ) → table.get h.witness.view.shown x ≡ o → table.get h.witness.view.shown x ≡ None
      by None is = is
      by (Some version) is = absurd (from version (shown_from x version is))

-- ---- where the calls end

module _ (f : Frame) (w : World) (b : Batch) (begin : MayBegin f w b)
    (framed_ : IsInFrame (framed f b) (loaded w b))
    (truths : (u : World) (us : List Event) → RunsTo (loaded w b) us u → (x k : ℕ) (r : RealView) →
    real_at x (loaded w b) k ≡ Some r → IsTrue (framed f b) x r.ty r (λ n. present (framed f b) r) u)
    (absent : (x : ℕ) → Nowhere x (loaded w b) → IsAbsent x (loaded w b)) (v : World) (es : List Event)
    (run : RunsTo (loaded w b) es v) where
  abbrev g : Frame
  g = framed f b

  abbrev start : World
  start = loaded w b

  module _ (x j version : ℕ) (q : RealView) (here : real_at x v j ≡ Some q) where
    -- of what was shown in the round
    in_round : (d : GhostCopy) → WasOther g start v x d → d.version ≤ q.public
    in_round d o =
        let its = truths o.world o.between.before o.between.from x o.home o.first o.at_first in
        let settled = settled_loaded f w b begin x o.home o.first o.at_first in
        let spared = spared_leads g x start o.world o.between.before framed_ (spared_loaded f w b begin x o.home o.first o.at_first)
        o.between.from in
        let has : HasOne g x o.first.ty o.world =
        record { fits = its.one.has.fits; place = o.place; real = o.real; one = o.one } in
        let end =
        one_leads g (frame_loaded f w b begin) x o.first.ty settled.type o.world v o.between.after has spared o.between.to in
        let one : q ≡ end.has.real =
        (sole_here real_in real_of (entity_flow x v) end.has.place end.has.real q j end.has.one here).1 in
        let low = (public_rises g o.first o.real o.replays settled.public).1 in
        let up = (public_rises g o.real end.has.real end.replays low).0 in
        let public = ap (λ (y : RealView). y.public) one in
        let same = ap (λ (y : GhostCopy). y.version) o.is in
        let most = o.not_ahead in
        omega (arith, up, public, same, most)

    before_round : ((i : ℕ) (p : RealView) → real_at x start i ≡ Some p → version ≤ p.public) →
        Somewhere x start ⊎ Nowhere x start → version ≤ q.public
    before_round least (inl p) =
        let its = truths v es run x p.0 p.1 p.2 in
        let settled = settled_loaded f w b begin x p.0 p.1 p.2 in
        let one : q ≡ its.one.has.real =
        (sole_here real_in real_of (entity_flow x v) its.one.has.place its.one.has.real q j its.one.has.one here).1 in
        let up = (public_rises g p.1 its.one.has.real its.one.replays settled.public).0 in
        let public = ap (λ (y : RealView). y.public) one in
        let low = least p.0 p.1 p.2 in
        omega (arith, up, public, low)
    before_round least (inr n) =
        let blank = (absent_leads g x start v es framed_ (absent x n) run).cells j in
        absurd (let z = sym blank.real ∙ here in cc)

  module _ (e ty first : ℕ) (c : ClientReplica) (r : RealView) (x0 : WitnessView) (began : FitsWitness g start r x0 c)
      (h : TellsRightly g e ty first (true_between g e start v) c v) (client : HasClient g e ty first v)
      (quiet : IsQuiet node_has_work v) where
    not_ahead : (x j version : ℕ) (q : RealView) → IsFrom (true_between g e start v) c x version → real_at x v j ≡ Some q →
        version ≤ q.public
    not_ahead x j version q (was is) here =
        before_round x j version q here
        (λ i p at. began.others_not_ahead x i version p (ap (λ y. table.get y.shown x) (sym began.others) ∙ is) at) (search_real x start)
    not_ahead x j version q (now d is_true same) here =
        let le = in_round x j version q here d is_true in omega (arith, le, same)

    pub fits_then : FitsWitness g v h.one.real h.witness (after_all_shown c (shown_at ((entity_flow e v).slot (home_of g e))))
    fits_then =
        let fits = now_fits g start v e ty first c h client quiet in
        record {
          others = fits.others;
          view = fits.view;
          radius = fits.radius;
          hysteresis = fits.hysteresis;
          told = fits.told;
          not_ahead = fits.not_ahead;
          own = fits.own;
          others_not_ahead = λ x j version q is here.
              not_ahead x j version q (shown_from g start v e ty first c h client quiet x version is) here;
        }
