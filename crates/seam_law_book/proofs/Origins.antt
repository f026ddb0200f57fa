-- Where the reals and the base parts of a loaded world come from: they were there, or the batch creates them.
use Rattle.seam_law_book.proofs.Prelude.{◌≡◌, ℕ, Bool, true, false, cond, eqb, List, ◌∷◌, ◌++◌, map, Option, Some, None, refl, sym, ap, ◌∙◌}
use Rattle.seam_law_book.proofs.Prelude.{subst, option_map, slice_get, AllByRecursion, IsDistinct, leaf_at, IsTree, Create, Batch, RealView}
use Rattle.seam_law_book.proofs.Prelude.{WitnessView, created, real_begins, PartView, ProxyView, NodeView, World, new_part, part_begins}
use Rattle.seam_law_book.proofs.Prelude.{loaded, slot_at, Frame, here_at, has_of, has_none, entity_flow, real_in, reaped_by_order, home_of}
use Rattle.seam_law_book.proofs.Prelude.{real_at, created_entity, MayBeMade, IsBetweenRounds, node_loaded, Kept, AreOthers, Creation}
use Rattle.seam_law_book.proofs.Prelude.{nowhere, once, creation_of, middle, until, node_made, node_after, slot_is, real_was, SamePart}
use Rattle.seam_law_book.proofs.Prelude.{part_stays, part_comes}
use Rattle.std.specs.FinMap as table

-- entity e is the create x of the list, and no other of it
pub record IsCreate (e : ℕ) (xs : List Create) (x : Create) : Type 0 where
  pub before : List Create
  pub later : List Create
  pub is : xs ≡ before ++ x ∷ later
  pub entity : x.entity ≡ e
  pub first : AreOthers e before
  pub last : AreOthers e later

-- a real of a world into which a batch with these creates was loaded: it was there, or it is made
pub data RealFrom (w : World) (xs : List Create) (e k : ℕ) (r : RealView) : Type 0 where
  was : AreOthers e xs → (q : RealView) (x : Option WitnessView) → real_at e w k ≡ Some q
      → record (real_begins q) { witness = x } ≡ r → RealFrom w xs e k r
  made : (x : Create) → IsCreate e xs x → r.ty ≡ x.ty → r.orders ≡ table.empty → RealFrom w xs e k r

-- and a base part
pub data PartFrom (f : Frame) (w : World) (xs : List Create) (e k : ℕ) (p : PartView) : Type 0 where
  had : AreOthers e xs → (q : PartView) (x : Option ProxyView) → ((entity_flow e w).slot k).base.part ≡ Some q
      → record (part_begins q) { proxy = x } ≡ p → PartFrom f w xs e k p
  comes : (x : Create) → IsCreate e xs x → (y : Option ProxyView) → record (new_part (here_at f k) x.ty) { proxy = y } ≡ p
      → PartFrom f w xs e k p

module _ (f : Frame) (w : World) (b : Batch) (between : IsBetweenRounds f w) (tree : IsTree b.tree)
    (creates : AllByRecursion (MayBeMade f w) b.creates) (spares : AllByRecursion (λ o. reaped_by_order o.1 ≡ None) b.orders) where
  -- ---- reals

  module _ (x : Create) (first later : List Create) (is : b.creates ≡ first ++ x ∷ later) (others : AreOthers x.entity first)
      (more : AreOthers x.entity later) (k : ℕ) where
    abbrev new : RealView
    new = created (here_at f k) x.entity x.ty x.pos

    new_by : (c : Bool) (o p : Option RealView) → o ≡ cond c (Some new) None → Kept real_begins o p → (r : RealView) → p ≡ Some r →
        (r.ty ≡ x.ty) × (r.orders ≡ table.empty)
    new_by true None p has kept r at = absurd (let z = has in cc)
    new_by true (Some q) p has kept r at =
        let same : q ≡ new = cc in
        let is : record (real_begins q) { witness = kept.0 } ≡ r = (let z = sym kept.1 ∙ at in cc) in (
          sym (ap (λ (y : RealView). y.ty) is) ∙ ap (λ (y : RealView). y.ty) same,
          sym (ap (λ (y : RealView). y.orders) is) ∙ ap (λ (y : RealView). y.orders) same,
        )
    new_by false None p has kept r at = absurd (let z = sym kept ∙ at in cc)
    new_by false (Some q) p has kept r at = absurd (let z = has in cc)

    may : MayBeMade f w x
    may = middle (MayBeMade f w) first x later (subst (AllByRecursion (MayBeMade f w)) is creates)

    new_at : (o : Option NodeView) → slice_get w.nodes k ≡ o → (r : RealView) →
        real_in (slot_at (has_of x.entity) has_none (option_map (node_loaded b) o)) ≡ Some r → (r.ty ≡ x.ty) × (r.orders ≡ table.empty)
    new_at None at r here = absurd (let z = here in cc)
    new_at (Some s) at r here =
        let made = node_made f b tree x k first later is others more spares s (between.nodes.sound.states k s at)
        (between.nodes.nodes k s at) (sym (ap (slot_at (has_of x.entity) has_none) at) ∙ may.new k) in
        let after = node_after f b tree x k first later is others more spares s in
        new_by (eqb (leaf_at b.tree x.pos) k) (real_in (has_of x.entity (until f b tree x k first later is others more spares s)))
        (real_in (has_of x.entity (node_loaded b s))) made.real after.real r here

  real_by : (e k : ℕ) (r : RealView) → Creation e b.creates → real_at e (loaded w b) k ≡ Some r → RealFrom w b.creates e k r
  real_by e k r (nowhere others) here =
      let q = real_was w b e spares others k r here in
      was others q.0 q.1 q.2 q.3
  real_by e k r (once first x later is at others more) here =
      let o = subst (λ d. AreOthers d first) (sym at) others in
      let m = subst (λ d. AreOthers d later) (sym at) more in
      let there = subst (λ d. real_at d (loaded w b) k ≡ Some r) (sym at) here in
      let two = new_at x first later is o m k (slice_get w.nodes k) refl r (sym (ap real_in (slot_is w b x.entity k)) ∙ there) in
      made x (record { before = first; later = later; is = is; entity = at; first = others; last = more }) two.0 two.1

  pub real_from : IsDistinct eqb (map created_entity b.creates) → (e k : ℕ) (r : RealView) →
      real_at e (loaded w b) k ≡ Some r → RealFrom w b.creates e k r
  real_from one e k r here = real_by e k r (creation_of e b.creates one) here

  -- ---- base parts

  part_by : (o : Option PartView) (p : Option PartView) → SamePart (option_map part_begins o) p → (a : PartView) → p ≡ Some a →
      (q : PartView) × (o ≡ Some q) × (x : Option ProxyView) × (record (part_begins q) { proxy = x } ≡ a)
  part_by None p same a at = absurd (let z = sym same ∙ at in cc)
  part_by (Some q) p same a at =
      (q, refl, same.0, let z = sym same.1 ∙ at in cc)

  stays_at : (e k : ℕ) → AreOthers e b.creates → (o : Option NodeView) → (p : PartView) →
      (slot_at (has_of e) has_none (option_map (node_loaded b) o)).base.part ≡ Some p →
      (q : PartView) × ((slot_at (has_of e) has_none o).base.part ≡ Some q) × (x : Option ProxyView)
      × (record (part_begins q) { proxy = x } ≡ p)
  stays_at e k others None p here = absurd (let z = here in cc)
  stays_at e k others (Some s) p here = part_by (has_of e s).base.part (has_of e (node_loaded b s)).base.part (part_stays e b others s) p
      here

  new_part_by : (k : ℕ) (x : Create) (c : Bool) (p : Option PartView) → SamePart (cond c (Some (new_part (here_at f k) x.ty)) None) p →
      (a : PartView) → p ≡ Some a → (y : Option ProxyView) × (record (new_part (here_at f k) x.ty) { proxy = y } ≡ a)
  new_part_by k x true p same a at = (same.0, let z = sym same.1 ∙ at in cc)
  new_part_by k x false p same a at = absurd (let z = sym same ∙ at in cc)

  comes_at : (k : ℕ) (x : Create) (first later : List Create) → b.creates ≡ first ++ x ∷ later → AreOthers x.entity first →
      AreOthers x.entity later → (o : Option NodeView) → slice_get w.nodes k ≡ o → (p : PartView) →
      (slot_at (has_of x.entity) has_none (option_map (node_loaded b) o)).base.part ≡ Some p →
      (y : Option ProxyView) × (record (new_part (here_at f k) x.ty) { proxy = y } ≡ p)
  comes_at k x first later is others more None at p here = absurd (let z = here in cc)
  comes_at k x first later is others more (Some s) at p here =
      let may = middle (MayBeMade f w) first x later (subst (AllByRecursion (MayBeMade f w)) is creates) in
      new_part_by k x (eqb (home_of f x.entity) k) (has_of x.entity (node_loaded b s)).base.part
      (part_comes f k x b first later is others more s (between.nodes.nodes k s at)
      (ap (λ h. h.base.part) (sym (ap (slot_at (has_of x.entity) has_none) at) ∙ may.new k))) p here

  part_from_by : (e k : ℕ) (p : PartView) → Creation e b.creates → ((entity_flow e (loaded w b)).slot k).base.part ≡ Some p →
      PartFrom f w b.creates e k p
  part_from_by e k p (nowhere others) here =
      let q = stays_at e k others (slice_get w.nodes k) p (sym (ap (λ h. h.base.part) (slot_is w b e k)) ∙ here) in
      had others q.0 q.2 q.1 q.3
  part_from_by e k p (once first x later is at others more) here =
      let o = subst (λ d. AreOthers d first) (sym at) others in
      let m = subst (λ d. AreOthers d later) (sym at) more in
      let there = subst (λ d. ((entity_flow d (loaded w b)).slot k).base.part ≡ Some p) (sym at) here in
      let two = comes_at k x first later is o m (slice_get w.nodes k) refl p (sym (ap (λ h. h.base.part) (slot_is w b x.entity k)) ∙ there)
      in
      comes x (record { before = first; later = later; is = is; entity = at; first = others; last = more }) two.0 two.1

  pub part_from : IsDistinct eqb (map created_entity b.creates) → (e k : ℕ) (p : PartView) →
      ((entity_flow e (loaded w b)).slot k).base.part ≡ Some p → PartFrom f w b.creates e k p
  part_from one e k p here = part_from_by e k p (creation_of e b.creates one) here
