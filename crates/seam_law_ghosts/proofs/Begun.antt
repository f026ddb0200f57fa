-- Where a batch is loaded, each entity is on the survey list of its real's cell; and where reals come from.
use Rattle.seam_law_ghosts.proofs.Prelude.{◌≡◌, ℕ, ◌≤◌, false, cond, eqb, List, [], ◌∷◌, ◌++◌, map, Option, None, Some, refl, sym, ap, ◌∙◌}
use Rattle.seam_law_ghosts.proofs.Prelude.{subst, arith, inl, inr, option_map, slice_get, AllByRecursion, nat_cmp, unsigned_tied, cases_eq}
use Rattle.seam_law_ghosts.proofs.Prelude.{eq-eqb, ne_eqb, append_assoc, slice_get_cases, leaf_at, Create, Order, Batch, RealView}
use Rattle.seam_law_ghosts.proofs.Prelude.{WitnessView, real_begins, NodeView, World, Cell, Base, cell_round, ordered_at, loaded, slot_at}
use Rattle.seam_law_ghosts.proofs.Prelude.{Frame, has_of, has_none, times, one_more_if, entity_flow, real_in, real_at, created_entity}
use Rattle.seam_law_ghosts.proofs.Prelude.{MayBeMade, made, node_loaded, MayBegin, made_real, BeginsAt, leaf_is_cell, each_keeps, Any, any}
use Rattle.seam_law_ghosts.proofs.Prelude.{get-each_value, kept_some, slot_is, slot_becomes}
use Rattle.std.specs.List.{IsDistinct}
use Rattle.std.specs.FinMap as table
use Rattle.std.specs.FinMap.Entries.{find as key_find}
use Rattle.seam_law_rounds.proofs.Making.{AreOthers, Creation, nowhere, once, creation_of, middle, until, node_made, node_after}

-- ---- survey lists

times_some : {X : Type 0} (e : ℕ) (x : X) (ps : List (ℕ × X)) → key_find nat_cmp e ps ≡ Some x → 1 ≤ times e (map (λ p. p.0) ps)
times_some e x [] h = cc
times_some e x (p ∷ ps) h = elim (cases_eq p.0 e) [
  | inl is ↦
      let more = ap (λ b. one_more_if b (times e (map (λ p. p.0) ps))) (eq-eqb p.0 e is) in
      omega (arith, more)
  | inr n ↦
      let less = ap (λ b. one_more_if b (times e (map (λ p. p.0) ps))) (ne_eqb p.0 e n) in
      let skips = ap (λ b. cond b (Some p.1) (key_find nat_cmp e ps)) (unsigned_tied e p.0 ∙ ne_eqb e p.0 (λ is. n (sym is))) in
      let rest = times_some e x ps (sym skips ∙ h) in
      omega (arith, less, rest)
]

abbrev IsListed : ℕ → NodeView → Type 0
IsListed e n = (r : RealView) → real_in (has_of e n) ≡ Some r → 1 ≤ (has_of e n).cell.survey

module _ (e : ℕ) where
  begun_by : (reals : table.FinMap nat_cmp RealView) (o : Option RealView) → table.get reals e ≡ o → (r : RealView) →
      option_map real_begins o ≡ Some r → 1 ≤ times e (table.keys reals)
  begun_by reals None at r is = cc
  begun_by reals (Some x) at r is = times_some e x (table.entries reals) (sym (table.get-entries reals e) ∙ at)

  round_listed : (b : Batch) (n : NodeView) → IsListed e (cell_round b.tree n)
  round_listed b (Cell c) r at =
      begun_by c.reals (table.get c.reals e) refl r (sym (get-each_value real_begins c.reals e) ∙ at)
  round_listed b (Base n) r at = cc

  ordered_listed : (o : ℕ × Order) (n : NodeView) → Any o → IsListed e n → IsListed e (ordered_at o n)
  ordered_listed o (Cell c) u h r at = h r at
  ordered_listed o (Base n) u h r at = cc

  node_listed : (b : Batch) (s : NodeView) → IsListed e (node_loaded b s)
  node_listed b s =
      each_keeps ordered_at (IsListed e) Any ordered_listed b.orders (any b.orders) (cell_round b.tree (made b s))
      (round_listed b (made b s))

  listed_by : (b : Batch) (o : Option NodeView) (r : RealView) → real_in (slot_at (has_of e) has_none (option_map (node_loaded b) o)) ≡ Some
      r → 1 ≤ (slot_at (has_of e) has_none (option_map (node_loaded b) o)).cell.survey
  listed_by b None r at = cc
  listed_by b (Some s) r at = node_listed b s r at

  pub listed : (w : World) (b : Batch) (k : ℕ) (r : RealView) → real_at e (loaded w b) k ≡ Some r →
      1 ≤ ((entity_flow e (loaded w b)).slot k).cell.survey
  listed w b k r at =
      let is = slot_is w b e k in
      subst (λ h. 1 ≤ h.cell.survey) (sym is) (listed_by b (slice_get w.nodes k) r (sym (ap real_in is) ∙ at))

-- ---- reals that were there

begins : (w : World) (b : Batch) (e k : ℕ) (r : RealView) → (x : Option WitnessView)
    × (real_at e (loaded w b) k ≡ Some (record (real_begins r) { witness = x })) → BeginsAt w b e k r
begins w b e k r p = record { witness = p.0; here = p.1 }

module _ (f : Frame) (w : World) (b : Batch) (begin : MayBegin f w b) where
  others_by : (e home : ℕ) (r : RealView) → real_at e w home ≡ Some r → Creation e b.creates → AreOthers e b.creates
  others_by e home r here (nowhere others) = others
  others_by e home r here (once first x later is at before after) =
      let may = middle (MayBeMade f w) first x later (subst (AllByRecursion (MayBeMade f w)) is begin.fits.creates) in
      absurd (let z = sym (ap real_in (sym (ap (λ q. (entity_flow q w).slot home) at) ∙ may.new home)) ∙ here in cc)

  pub was_begins : (e home : ℕ) (r : RealView) → real_at e w home ≡ Some r → BeginsAt w b e home r
  was_begins e home r here =
      let others = others_by e home r here (creation_of e b.creates begin.fits.once) in
      begins w b e home r (kept_some (real_at e w home) (real_at e (loaded w b) home)
      (slot_becomes w b e begin.fits.spares others home).real r here)

  -- ---- reals that are created

  module _ (first : List Create) (x : Create) (later : List Create) (is : b.creates ≡ first ++ x ∷ later)
      (before : AreOthers x.entity first) (after : AreOthers x.entity later) where
    abbrev leaf : ℕ
    leaf = leaf_at b.tree x.pos

    may : MayBeMade f w x
    may = middle (MayBeMade f w) first x later (subst (AllByRecursion (MayBeMade f w)) is begin.fits.creates)

    made_by : (s : NodeView) → slice_get w.nodes leaf ≡ Some s → BeginsAt w b x.entity leaf (made_real f b.tree x)
    made_by s at =
        let none = sym (ap (slot_at (has_of x.entity) has_none) at) ∙ may.new leaf in
        let had = node_made f b begin.fits.tree x leaf first later is before after begin.fits.spares s
        (begin.between.nodes.sound.states leaf s at)
        (begin.between.nodes.nodes leaf s at) none in
        let real = had.real ∙ ap (λ c. cond c (Some (made_real f b.tree x)) None) (eq-eqb leaf leaf refl) in
        let kept = kept_some (real_in (has_of x.entity (until f b begin.fits.tree x leaf first later is before after begin.fits.spares s)))
        (real_in (has_of x.entity (node_loaded b s)))
        (node_after f b begin.fits.tree x leaf first later is before after begin.fits.spares s).real (made_real f b.tree x) real in
        record {
          witness = kept.0;
          here =
              ap real_in (slot_is w b x.entity leaf)
              ∙ (ap (λ o. real_in (slot_at (has_of x.entity) has_none (option_map (node_loaded b) o))) at ∙ kept.1);
        }

    made_begins : BeginsAt w b x.entity leaf (made_real f b.tree x)
    made_begins = elim (slice_get_cases w.nodes leaf).1 [
      | inl p ↦ made_by p.0 p.2
      | inr p ↦
          let past = p.0 in
          let low = leaf_is_cell b.tree x.pos in
          let most = begin.fits.tree.cells_to in
          let many = begin.between.many in
          absurd (omega (arith, past, many, low, most))
    ]

-- ---- each entity is created once

of_middle : (P : ℕ → Type 0) (ys : List Create) (x : Create) (later : List Create) →
    AllByRecursion P (map created_entity (ys ++ x ∷ later)) → P x.entity
of_middle P [] x later h = h.0
of_middle P (y ∷ ys) x later h = of_middle P ys x later h.1

others_after : (x : Create) (ys : List Create) → AllByRecursion (λ y. eqb x.entity y ≡ false) (map created_entity ys) →
    AreOthers x.entity ys
others_after x [] h = tt
others_after x (y ∷ ys) h = ((λ is. let no = sym (eq-eqb x.entity y.entity (sym is)) ∙ h.0 in cc), others_after x ys h.1)

others_around : (first : List Create) (x : Create) (later : List Create) →
    IsDistinct eqb (map created_entity (first ++ x ∷ later)) → AreOthers x.entity first × AreOthers x.entity later
unfolding IsDistinct
others_around [] x later h = (tt, others_after x later h.0)
others_around (y ∷ ys) x later h =
    let more = others_around ys x later h.1 in
    let apart = of_middle (λ z. eqb y.entity z ≡ false) ys x later h.0 in
    (((λ is. let no = sym (eq-eqb y.entity x.entity is) ∙ apart in cc), more.0), more.1)

-- so each that the batch creates begins at its leaf
module _ (f : Frame) (w : World) (b : Batch) (begin : MayBegin f w b) where
  each_by : (first xs : List Create) → b.creates ≡ first ++ xs →
      AllByRecursion (λ x. BeginsAt w b x.entity (leaf_at b.tree x.pos) (made_real f b.tree x)) xs
  each_by first [] is = tt
  each_by first (x ∷ xs) is =
      let others = others_around first x xs (subst (λ l. IsDistinct eqb (map created_entity l)) is begin.fits.once) in (
        made_begins f w b begin first x xs is others.0 others.1,
        each_by (first ++ x ∷ []) xs (is ∙ sym (append_assoc first (x ∷ []) xs)),
      )

  pub each_begins : AllByRecursion (λ x. BeginsAt w b x.entity (leaf_at b.tree x.pos) (made_real f b.tree x)) b.creates
  each_begins = each_by [] b.creates refl
