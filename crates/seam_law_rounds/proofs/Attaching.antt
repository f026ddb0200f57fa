-- In a loaded world each real has a witness exactly where its part has a client, in step with it.
use Rattle.seam_law_rounds.proofs.Prelude.{◌≡◌, ℕ, ◌^◌, ◌<◌, ◌≤◌, Bool, true, false, cond, [], length, Option, None, Some, refl, sym, ap}
use Rattle.seam_law_rounds.proofs.Prelude.{◌∙◌, subst, arith, option_map, slice_get, AllByRecursion, Batch, ClientText, RealView}
use Rattle.seam_law_rounds.proofs.Prelude.{WitnessView, Here, real_begins, PartView, ProxyView, line_if, base_text, NodeView, World}
use Rattle.seam_law_rounds.proofs.Prelude.{with_witness, with_proxy, new_proxy, proxy_begins, part_begins, loaded, slot_at, more_letter}
use Rattle.seam_law_rounds.proofs.Prelude.{Frame, here_at, Has, has_of, has_none, entity_flow, real_in, home_of, sent_of, sent_by}
use Rattle.seam_law_rounds.proofs.Prelude.{IsFewView, SeesFew, MayBeMade, node_loaded, AreInStep, AreFor, HasPartsBetweenRounds, lines_of}
use Rattle.seam_law_rounds.proofs.Prelude.{FitsParts, MayBegin}
use Rattle.std.specs.List.{IsDistinct}
use Rattle.seam_law_rounds.proofs.Making.{Creation, nowhere, once, creation_of, middle}
use Rattle.seam_law_rounds.proofs.Loaded.{slot_is}
use Rattle.seam_law_calls.specs.ClientUpdates.{shown_by}
use Rattle.seam_law_rounds.proofs.PartLoads.{part_at}
use Rattle.seam_law_rounds.proofs.Joining.{is_among, joined_if, peopled, real_in_node, real_joined, part_joined, real_peopled, part_peopled}
use Rattle.seam_law_rounds.proofs.Joining.{unseen_peopled, bare_peopled}

-- ---- a witness and a client

abbrev ShowsNone : ClientText → Type 0
ShowsNone t = shown_by t ≡ None

-- they are in step when they begin
new_in_step : (due : Bool) (t : ClientText) (w : WitnessView) (version : ℕ) → ShowsNone t → w.sent ≡ 0 →
    AreInStep w (line_if due t new_proxy) version
new_in_step true t w version none first = record {
  next = omega (arith, first);
  none_held = refl;
  shown =
      let is : length (more_letter (shown_by t) []) ≡ 0 = ap (λ o. length (more_letter o [])) none in
      omega (arith, is);
  lines = omega arith;
}
new_in_step false t w version none first = record {
  next = omega (arith, first);
  none_held = refl;
  shown = omega arith;
  lines = omega arith;
}

-- and where the round begins
begin_for : (w : Option WitnessView) (x : Option ProxyView) (version : ℕ) → AreFor w x version →
    AreFor w (option_map proxy_begins x) version
begin_for None None version h = tt
begin_for None (Some x) version h = absurd h
begin_for (Some w) None version h = absurd h
begin_for (Some w) (Some x) version h =
    let from = h.shown in
    record { next = h.next; none_held = h.none_held; shown = omega (arith, from); lines = h.lines }

neither : (w : Option WitnessView) (x : Option ProxyView) (version : ℕ) → w ≡ None → x ≡ None → AreFor w x version
neither w x version no_witness no_client =
    subst (λ a. AreFor a x version) (sym no_witness) (subst (λ b. AreFor None b version) (sym no_client) tt)

-- what becomes of a real and of a part that join, or not
abbrev pub real_if : Bool → Here → RealView → RealView
real_if b h q = cond b (with_witness h q) q

abbrev pub part_if : Bool → Here → PartView → PartView
part_if b h p = cond b (with_proxy h p) p

join_for : (b : Bool) (g h : Here) (q : RealView) (p : PartView) → AreFor q.witness p.proxy p.version →
    AreFor (real_if b g q).witness (part_if b h p).proxy (part_if b h p).version
join_for true g h q p are = new_in_step _ (base_text h (record p { proxy = Some new_proxy })) _ p.version refl refl
join_for false g h q p are = are

pub real_from : (b : Bool) (h : Here) (o : Option RealView) (r : RealView) →
    option_map real_begins (joined_if b (with_witness h) o) ≡ Some r → (q : RealView) × (o ≡ Some q) × (real_begins (real_if b h q) ≡ r)
real_from true h None r is = absurd (let z = is in cc)
real_from true h (Some q) r is = (q, refl, (let z = is in cc))
real_from false h None r is = absurd (let z = is in cc)
real_from false h (Some q) r is = (q, refl, (let z = is in cc))

pub part_from : (b : Bool) (h : Here) (o : Option PartView) (p : PartView) → joined_if b (with_proxy h) o ≡ Some p →
    (q : PartView) × (o ≡ Some q) × (part_if b h q ≡ p)
part_from true h None p is = absurd (let z = is in cc)
part_from true h (Some q) p is = (q, refl, (let z = is in cc))
part_from false h None p is = absurd (let z = is in cc)
part_from false h (Some q) p is = (q, refl, (let z = is in cc))

begun_from : (o : Option PartView) (p : PartView) → option_map part_begins o ≡ Some p → (q : PartView) × (o ≡ Some q) × (part_begins q ≡ p)
begun_from None p is = absurd (let z = is in cc)
begun_from (Some q) p is = (q, refl, (let z = is in cc))

-- ---- in a loaded world

module _ (f : Frame) (w : World) (b : Batch) (begin : MayBegin f w b) (had : HasPartsBetweenRounds f w) (e : ℕ) where
  abbrev home : ℕ
  home = home_of f e

  abbrev joins : Bool
  joins = is_among e b.clients

  abbrev then : ℕ → Has
  then k = (entity_flow e (loaded w b)).slot k

  slot_there : (k : ℕ) (o : Option NodeView) → slice_get w.nodes k ≡ o → then k ≡ slot_at (has_of e) has_none (option_map (node_loaded b) o)
  slot_there k o at = slot_is w b e k ∙ ap (λ x. slot_at (has_of e) has_none (option_map (node_loaded b) x)) at

  -- the node of a real, and the real before clients were attached
  pub record RealFrom (k : ℕ) (r : RealView) : Type 0 where
    pub node : NodeView
    pub there : slice_get w.nodes k ≡ Some node
    pub real : RealView
    pub was : real_in_node e (peopled b node) ≡ Some real
    pub is : real_begins (real_if joins (here_at f k) real) ≡ r

  pub real_there : (k : ℕ) (r : RealView) (o : Option NodeView) → slice_get w.nodes k ≡ o → real_in (then k) ≡ Some r → RealFrom k r
  real_there k r None at has = absurd (let z = sym (ap real_in (slot_there k None at)) ∙ has in cc)
  real_there k r (Some s) at has =
      let q =
      real_from joins (here_at f k) (real_in_node e (peopled b s)) r
      (sym (real_joined e f b k s (begin.between.nodes.nodes k s at)) ∙ (sym (ap real_in (slot_there k (Some s) at)) ∙ has)) in
      record { node = s; there = at; real = q.0; was = q.1; is = q.2 }

  -- the node of a part, and the part before clients were attached
  pub record PartFrom (k : ℕ) (p : PartView) : Type 0 where
    pub node : NodeView
    pub there : slice_get w.nodes k ≡ Some node
    pub part : PartView
    pub was : part_at e (peopled b node) ≡ Some part
    pub is : part_if joins (here_at f k) part ≡ p

  pub part_there : (k : ℕ) (p : PartView) (o : Option NodeView) → slice_get w.nodes k ≡ o → (then k).base.part ≡ Some p → PartFrom k p
  part_there k p None at has = absurd (let z = sym (ap (λ h. h.base.part) (slot_there k None at)) ∙ has in cc)
  part_there k p (Some s) at has =
      let q =
      part_from joins (here_at f k) (part_at e (peopled b s)) p
      (sym (part_joined e f b k s (begin.between.nodes.nodes k s at)) ∙ (sym (ap (λ h. h.base.part) (slot_there k (Some s) at)) ∙ has)) in
      record { node = s; there = at; part = q.0; was = q.1; is = q.2 }

  -- before they were attached
  before_by : (k : ℕ) (r : RealView) (x : RealFrom k r) (p : PartView) (y : PartFrom home p) → Creation e b.creates →
      AreFor x.real.witness y.part.proxy y.part.version
  before_by k r x p y (nowhere others) =
      let part = begun_from (part_at e y.node) y.part (sym (part_peopled e b y.node others) ∙ y.was) in
      let was =
      had.clients e k x.real (ap (λ o. real_in (slot_at (has_of e) has_none o)) x.there ∙ (sym (real_peopled e b x.node others) ∙ x.was))
      part.0 (ap (λ o. (slot_at (has_of e) has_none o).base.part) y.there ∙ part.1) in
      subst (λ (z : PartView). AreFor x.real.witness z.proxy z.version) part.2
      (begin_for x.real.witness part.0.proxy part.0.version was)
  before_by k r x p y (once first c later is at others more) =
      let may : MayBeMade f w c = middle (MayBeMade f w) first c later (subst (AllByRecursion (MayBeMade f w)) is begin.fits.creates) in
      let new : (j : ℕ) → (entity_flow e w).slot j ≡ has_none = subst (λ q. (j : ℕ) → (entity_flow q w).slot j ≡ has_none) at may.new in
      let no_real = ap (λ o. real_in (slot_at (has_of e) has_none o)) (sym x.there) ∙ ap real_in (new k) in
      let no_part =
      ap (λ o. (slot_at (has_of e) has_none o).base.part) (sym y.there) ∙ ap (λ h. h.base.part) (new home) in
      neither x.real.witness y.part.proxy y.part.version (unseen_peopled e b x.node no_real x.real x.was)
      (bare_peopled e b y.node no_part y.part y.was)

  pub are_for_loaded : (k : ℕ) (r : RealView) → real_in (then k) ≡ Some r → (p : PartView) → (then home).base.part ≡ Some p →
      AreFor r.witness p.proxy p.version
  are_for_loaded k r has p there =
      let x = real_there k r (slice_get w.nodes k) refl has in
      let y = part_there home p (slice_get w.nodes home) refl there in
      let are =
      join_for joins (here_at f k) (here_at f home) x.real y.part (before_by k r x p y (creation_of e b.creates begin.fits.once)) in
      subst (λ (q : RealView). AreFor q.witness p.proxy p.version) x.is
      (subst (λ (z : PartView). AreFor (real_if joins (here_at f k) x.real).witness z.proxy z.version) y.is are)

  -- ---- its numbers

  told_if : (c : Bool) (h : Here) (q : RealView) → sent_by (real_if c h q) ≤ sent_by q
  told_if true h q = omega arith
  told_if false h q = omega arith

  version_if : (c : Bool) (h : Here) (p : PartView) → (part_if c h p).version ≡ p.version
  version_if true h p = refl
  version_if false h p = refl

  lines_by : FitsParts f w b → (k : ℕ) (r : RealView) (x : RealFrom k r) (p : PartView) (y : PartFrom home p) → p.version < 2 ^ 61 →
      Creation e b.creates → lines_of r p < 2 ^ 61
  lines_by brings k r x p y few (nowhere others) =
      let part = begun_from (part_at e y.node) y.part (sym (part_peopled e b y.node others) ∙ y.was) in
      let small =
      brings.small e k x.real
      (ap (λ o. real_in (slot_at (has_of e) has_none o)) x.there ∙ (sym (real_peopled e b x.node others) ∙ x.was))
      part.0 (ap (λ o. (slot_at (has_of e) has_none o).base.part) y.there ∙ part.1) in
      let told = told_if joins (here_at f k) x.real in
      let same = ap sent_by x.is in
      let version = version_if joins (here_at f home) y.part in
      let is = ap (λ (z : PartView). z.version) y.is in
      let was = ap (λ (z : PartView). z.version) part.2 in
      omega (arith, small, told, same, version, is, was)
  lines_by brings k r x p y few (once first c later is at others more) =
      let may : MayBeMade f w c = middle (MayBeMade f w) first c later (subst (AllByRecursion (MayBeMade f w)) is begin.fits.creates) in
      let new : (j : ℕ) → (entity_flow e w).slot j ≡ has_none = subst (λ q. (j : ℕ) → (entity_flow q w).slot j ≡ has_none) at may.new in
      let no_real = ap (λ o. real_in (slot_at (has_of e) has_none o)) (sym x.there) ∙ ap real_in (new k) in
      let none = ap sent_of (unseen_peopled e b x.node no_real x.real x.was) in
      let told = told_if joins (here_at f k) x.real in
      let same = ap sent_by x.is in
      omega (arith, few, none, told, same)

  pub lines_loaded : FitsParts f w b → (k : ℕ) (r : RealView) → real_in (then k) ≡ Some r → (p : PartView) →
      (then home).base.part ≡ Some p → p.version < 2 ^ 61 → lines_of r p < 2 ^ 61
  lines_loaded brings k r has p there few =
      lines_by brings k r (real_there k r (slice_get w.nodes k) refl has) p (part_there home p (slice_get w.nodes home) refl there) few
      (creation_of e b.creates begin.fits.once)

  -- ---- its view

  abbrev FewIn : Option WitnessView → Type 0
  FewIn None = Unit {0}
  FewIn (Some x) = IsFewView x.view

  -- a new view is of none
  new_view : (h : Here) (q : RealView) → SeesFew (with_witness h q)
  unfolding IsDistinct
  new_view h q x seen =
      subst (λ (o : Option WitnessView). FewIn o) seen (record { view = record { once = tt; shown = tt }; below = tt })

  sees_if : (c : Bool) (h : Here) (q : RealView) → SeesFew q → SeesFew (real_begins (real_if c h q))
  sees_if true h q sees = new_view h q
  sees_if false h q sees = sees

  sees_by : (k : ℕ) (r : RealView) (x : RealFrom k r) → Creation e b.creates → SeesFew x.real
  sees_by k r x (nowhere others) =
      had.views e k x.real (ap (λ o. real_in (slot_at (has_of e) has_none o)) x.there ∙ (sym (real_peopled e b x.node others) ∙ x.was))
  sees_by k r x (once first c later is at others more) =
      let may : MayBeMade f w c = middle (MayBeMade f w) first c later (subst (AllByRecursion (MayBeMade f w)) is begin.fits.creates) in
      let new : (j : ℕ) → (entity_flow e w).slot j ≡ has_none = subst (λ q. (j : ℕ) → (entity_flow q w).slot j ≡ has_none) at may.new in
      let no_real = ap (λ o. real_in (slot_at (has_of e) has_none o)) (sym x.there) ∙ ap real_in (new k) in
      λ y seen. absurd (let z = sym (unseen_peopled e b x.node no_real x.real x.was) ∙ seen in cc)

  pub sees_loaded : (k : ℕ) (r : RealView) → real_in (then k) ≡ Some r → SeesFew r
  sees_loaded k r has =
      let x = real_there k r (slice_get w.nodes k) refl has in
      subst SeesFew x.is (sees_if joins (here_at f k) x.real (sees_by k r x (creation_of e b.creates begin.fits.once)))
