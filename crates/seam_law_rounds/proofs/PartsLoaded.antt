-- The base parts of a loaded world: those that were there, and those that the batch created.
use Rattle.seam_law_rounds.proofs.Prelude.{◌≡◌, ℕ, ◌^◌, ◌<◌, ◌≤◌, Bool, true, false, cond, eqb, List, [], ◌∷◌, ◌++◌, Option, None, Some}
use Rattle.seam_law_rounds.proofs.Prelude.{refl, sym, ap, ◌∙◌, subst, arith, inl, inr, option_map, slice_get, AllByRecursion, nat_cmp}
use Rattle.seam_law_rounds.proofs.Prelude.{eq-eqb, ne_eqb, slice_get_cases, mod-lt, leaf_at, Create, Batch, order_or, RealView, Here}
use Rattle.seam_law_rounds.proofs.Prelude.{created, real_begins, PartView, ProxyView, NodeView, World, new_part, part_begins, loaded}
use Rattle.seam_law_rounds.proofs.Prelude.{slot_at, Frame, here_at, Has, has_of, has_none, entity_flow, real_in, HasNoProxy, home_of}
use Rattle.seam_law_rounds.proofs.Prelude.{HasNoClient, real_at, MayBeMade, framed, node_loaded, next_to, HasSettledPart}
use Rattle.seam_law_rounds.proofs.Prelude.{HasPartsBetweenRounds, FitsParts, StaysWithoutClient, MayBegin}
use Rattle.std.specs.FinMap as table
use Rattle.seam_law_rounds.proofs.Framing.{in_frame}
use Rattle.seam_law_rounds.proofs.Staying.{Kept}
use Rattle.seam_law_rounds.proofs.Making.{AreOthers, Creation, nowhere, once, creation_of, middle, until, node_made, node_after}
use Rattle.seam_law_rounds.proofs.Loaded.{slot_is, real_was}
use Rattle.seam_law_rounds.proofs.Giving.{some_base}
use Rattle.seam_law_rounds.proofs.PartLoads.{SamePart, part_stays, part_made, part_comes, bare_stays}

-- ---- what a load leaves of a part, in the world

pub same_none : (o p : Option PartView) → SamePart o p → o ≡ None → p ≡ None
same_none None p k is = k
same_none (Some a) p k is = absurd (let z = is in cc)

pub same_some : (o p : Option PartView) → SamePart o p → (a : PartView) → o ≡ Some a →
    (x : Option ProxyView) × (p ≡ Some (record a { proxy = x }))
same_some None p k a is = absurd (let z = is in cc)
same_some (Some q) p k a is =
    let same : q ≡ a = cc in
    subst (λ y. (x : Option ProxyView) × (p ≡ Some (record y { proxy = x }))) same k

-- a real that was kept has its type
kept_type : (o p : Option RealView) → Kept real_begins o p → (ty : ℕ) → ((q : RealView) → o ≡ Some q → q.ty ≡ ty) → (r : RealView) →
    p ≡ Some r → r.ty ≡ ty
kept_type None p k ty h r is = absurd (let z = sym k ∙ is in cc)
kept_type (Some q) p k ty h r is =
    let same : Some (record (real_begins q) { witness = k.0 }) ≡ Some r = sym k.1 ∙ is in
    let one : record (real_begins q) { witness = k.0 } ≡ r = cc in
    ap (λ (x : RealView). x.ty) (sym one) ∙ h q refl

module _ (f : Frame) (w : World) (b : Batch) (e ty : ℕ) where
  -- what a loaded world has of a base part
  pub record LoadedPart : Type 0 where
    pub settled : HasSettledPart (framed f b) e ty (loaded w b)
    pub idle : settled.part.done ≡ []
    pub small : settled.part.version < 2 ^ 61

  abbrev part_then : ℕ → Option PartView
  part_then k = ((entity_flow e (loaded w b)).slot k).base.part

  -- the part p at the entity's base node, of which node k had g k before clients were attached
  record Origin (p : PartView) (g : ℕ → Option PartView) : Type 0 where
    becomes : (k : ℕ) → SamePart (g k) (part_then k)
    here : g (home_of f e) ≡ Some p
    others : (k : ℕ) → (k ≡ home_of f e → ⊥) → g k ≡ None
    type : p.ty ≡ ty
    none_held : (s : ℕ) → (order_or (table.get p.orders s)).held ≡ []
    from_one : (s : ℕ) → 1 ≤ next_to s p
    idle : p.done ≡ []
    small : p.version < 2 ^ 61

  part_of_origin : (p : PartView) (g : ℕ → Option PartView) → Origin p g → LoadedPart
  part_of_origin p g o =
      let home = home_of f e in
      let is = same_some (g home) (part_then home) (o.becomes home) p o.here in
      record {
        settled = record {
          part = record p { proxy = is.0 };
          here = is.1;
          others = λ k n. same_none (g k) (part_then k) (o.becomes k) (o.others k n);
          type = o.type;
          none_held = o.none_held;
          from_one = o.from_one;
        };
        idle = o.idle;
        small = o.small;
      }

  -- ---- one that was there

  pub was_there : AreOthers e b.creates → (h : HasSettledPart f e ty w) → h.part.version < 2 ^ 61 → LoadedPart
  was_there others h few =
      part_of_origin (part_begins h.part) (λ k. option_map part_begins ((entity_flow e w).slot k).base.part) (record {
        becomes = λ k.
            subst (λ s. SamePart (option_map part_begins ((entity_flow e w).slot k).base.part) s.base.part) (sym (slot_is w b e k))
            (becomes_by (slice_get w.nodes k));
        here = ap (option_map part_begins) h.here;
        others = λ k n. ap (option_map part_begins) (h.others k n);
        type = h.type;
        none_held = h.none_held;
        from_one = h.from_one;
        idle = refl;
        small = few;
      })
    where
      becomes_by : (o : Option NodeView) → SamePart (option_map part_begins (slot_at (has_of e) has_none o).base.part)
          (slot_at (has_of e) has_none (option_map (node_loaded b) o)).base.part
      becomes_by None = refl
      becomes_by (Some s) = part_stays e b others s

-- ---- one that is created

module _ (f : Frame) (w : World) (b : Batch) (begin : MayBegin f w b) (bases : 1 ≤ f.settings.bases) (first : List Create) (x : Create)
    (later : List Create) (is : b.creates ≡ first ++ x ∷ later) (others : AreOthers x.entity first) (more : AreOthers x.entity later) where
  abbrev own : ℕ
  own = x.entity

  abbrev home : ℕ
  home = home_of f own

  may : MayBeMade f w x
  may = middle (MayBeMade f w) first x later (subst (AllByRecursion (MayBeMade f w)) is begin.fits.creates)

  -- ---- its real

  abbrev had : ℕ → Option NodeView → Has
  had k o =
      slot_at (has_of own) has_none (option_map (until f b begin.fits.tree x k first later is others more begin.fits.spares) o)

  kept_by : (k : ℕ) (o : Option NodeView) →
      Kept real_begins (real_in (had k o)) (real_in (slot_at (has_of own) has_none (option_map (node_loaded b) o)))
  kept_by k None = refl
  kept_by k (Some s) = (node_after f b begin.fits.tree x k first later is others more begin.fits.spares s).real

  typed_if : (c : Bool) (h : Here) (q : RealView) → cond c (Some (created h own x.ty x.pos)) None ≡ Some q → q.ty ≡ x.ty
  typed_if true h q at = let same : created h own x.ty x.pos ≡ q = cc in ap (λ (y : RealView). y.ty) (sym same)
  typed_if false h q at = absurd (let z = at in cc)

  typed_by : (k : ℕ) (o : Option NodeView) → slice_get w.nodes k ≡ o → (q : RealView) → real_in (had k o) ≡ Some q → q.ty ≡ x.ty
  typed_by k None at q here = absurd (let z = here in cc)
  typed_by k (Some s) at q here =
      let m = node_made f b begin.fits.tree x k first later is others more begin.fits.spares s (begin.between.nodes.sound.states k s at)
      (begin.between.nodes.nodes k s at) (sym (ap (slot_at (has_of own) has_none) at) ∙ may.new k) in
      typed_if (eqb (leaf_at b.tree x.pos) k) (here_at f k) q (sym m.real ∙ here)

  made_type : (k : ℕ) (r : RealView) → real_at own (loaded w b) k ≡ Some r → r.ty ≡ x.ty
  made_type k r here =
      let o = slice_get w.nodes k in
      let there = ap real_in (sym (slot_is w b own k)) ∙ here in
      kept_type (real_in (had k o)) (real_in (slot_at (has_of own) has_none (option_map (node_loaded b) o))) (kept_by k o) x.ty
      (typed_by k o refl) r there

  -- ---- its part

  abbrev new : PartView
  new = new_part (here_at f home) x.ty

  -- there is no node past the last, and the base node is not
  past : (k : ℕ) → slice_get w.nodes k ≡ None → k ≡ home → ⊥
  past k at same =
      let many = begin.between.many in
      let low = mod-lt own {m = f.settings.bases} (omega (arith, bases)) in
      elim (slice_get_cases w.nodes k).1 [
        | inl p ↦ let z = sym at ∙ p.2 in cc
        | inr p ↦ let high = p.0 in omega (arith, high, many, low, same)
      ]

  elsewhere : (k : ℕ) → (k ≡ home → ⊥) → part_made f k x b.tree ≡ None
  elsewhere k n =
      ap (λ c. cond c (Some (new_part (here_at f k) x.ty)) None) (ne_eqb home k (λ at. n (sym at)))

  comes_by : (k : ℕ) (o : Option NodeView) → slice_get w.nodes k ≡ o →
      SamePart (part_made f k x b.tree) (slot_at (has_of own) has_none (option_map (node_loaded b) o)).base.part
  comes_by k None at = subst (λ p. SamePart p None) (sym (elsewhere k (past k at))) refl
  comes_by k (Some s) at =
      part_comes f k x b first later is others more s (begin.between.nodes.nodes k s at)
      (ap (λ h. h.base.part) (sym (ap (slot_at (has_of own) has_none) at) ∙ may.new k))

  fresh : (s : ℕ) → order_or (table.get new.orders s) ≡ record { next = 1; held = [] }
  fresh s = ap order_or (table.get-empty nat_cmp s)

  pub was_made : (k : ℕ) (r : RealView) → real_at own (loaded w b) k ≡ Some r → LoadedPart f w b own r.ty
  was_made k r here = part_of_origin f w b own r.ty new (λ j. part_made f j x b.tree) (record {
    becomes = λ j.
        subst (λ s. SamePart (part_made f j x b.tree) s.base.part) (sym (slot_is w b own j)) (comes_by j (slice_get w.nodes j) refl);
    here = ap (λ c. cond c (Some (new_part (here_at f home) x.ty)) None) (eq-eqb home home refl);
    others = elsewhere;
    type = sym (made_type k r here);
    none_held = λ s. ap (λ o. o.held) (fresh s);
    from_one = λ s. let one = ap (λ o. o.next) (fresh s) in omega (arith, one);
    idle = refl;
    small = omega arith;
  })

-- ---- each

module _ (f : Frame) (w : World) (b : Batch) (begin : MayBegin f w b) (parts : HasPartsBetweenRounds f w) (brings : FitsParts f w b)
    (e k : ℕ) (r : RealView) (here : real_at e (loaded w b) k ≡ Some r) where
  pub bases_loaded : 1 ≤ f.settings.bases
  bases_loaded = some_base (framed f b) (loaded w b) (in_frame f w b begin) e k r here

  loaded_by : Creation e b.creates → LoadedPart f w b e r.ty
  loaded_by (nowhere others) =
      let q = real_was w b e begin.fits.spares others k r here in
      let same = ap (λ (y : RealView). y.ty) q.3 in
      let had : HasSettledPart f e q.0.ty w = parts.parts e k q.0 q.2 in
      let few = brings.small e k q.0 q.2 had.part had.here in
      subst (LoadedPart f w b e) same (was_there f w b e q.0.ty others had (omega (arith, few)))
  loaded_by (once first x later is at others more) =
      subst (λ j. LoadedPart f w b j r.ty) at
      (was_made f w b begin bases_loaded first x later is (subst (λ j. AreOthers j first) (sym at) others)
      (subst (λ j. AreOthers j later) (sym at) more) k r
      (subst (λ j. real_at j (loaded w b) k ≡ Some r) (sym at) here))

  -- the base part of an entity that is there
  pub part_loaded : LoadedPart f w b e r.ty
  part_loaded = loaded_by (creation_of e b.creates begin.fits.once)

-- ---- an entity without a client

pub alone_loaded : (w : World) (b : Batch) (e : ℕ) → StaysWithoutClient e w b → HasNoClient e (loaded w b)
alone_loaded w b e alone k =
    subst (λ s. HasNoProxy s.base.part) (sym (slot_is w b e k)) (bare_by (slice_get w.nodes k) (alone.none k))
  where
    bare_by : (o : Option NodeView) → HasNoProxy (slot_at (has_of e) has_none o).base.part →
        HasNoProxy (slot_at (has_of e) has_none (option_map (node_loaded b) o)).base.part
    bare_by None h = h
    bare_by (Some s) h = bare_stays e b alone.attached s h
