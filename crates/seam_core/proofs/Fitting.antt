-- A world that keeps the records between rounds may be given the batches that fit it.
use Rattle.std.proofs.Common.{◌≡◌, ℕ, true, false, List, [], ◌∷◌, Option, None, Some, refl, sym, ap, ◌∙◌, subst, arith}
use Rattle.std.proofs.Common.{inl, inr, is_some}
use Rattle.std.specs.Prelude.{slice_get}
use Rattle.std.specs.List.{AllByRecursion}
use Rattle.std.proofs.lemmas.Bool.{cases_eq}
use Rattle.std.proofs.lemmas.Bool.Decides.{nat_tests}
use Rattle.seam_node_steps.specs.Prelude.{Pos, Division, IsInSpace, Create, Batch, RealView, WitnessView, is_inside, PartView, ProxyView}
use Rattle.seam_node_steps.specs.Prelude.{NodeView, World, holders, loaded}
use Rattle.seam_law_flow.specs.Prelude.{slot_at, letters_of}
use Rattle.seam_law_calls.specs.Prelude.{Frame, has_of, has_none, entity_flow, real_in, real_of, home_of}
use Rattle.seam_law_rounds.specs.Prelude.{IsBetweenRounds, IsFitting, MayBeMade, HasNoWitness, HasPartsBetweenRounds, AreFor}
use Rattle.seam_base.specs.Nodes.{has_client}
use Rattle.seam_base.specs.Marks.{passes}
use Rattle.seam_law_calls.proofs.Counting.{none_counts}
use Rattle.seam_law_rounds.proofs.Framing.{known_at}
use Rattle.seam_law_rounds.proofs.Loaded.{no_mail, real_was}
use Rattle.seam_law_rounds.proofs.Making.{Creation, nowhere, once, creation_of, middle}
use Rattle.seam_law_rounds.proofs.Shape.{Somewhere, search_real}
use Rattle.seam_core.specs.Loads.{CanBegin, MayLoad}
use Rattle.seam_core.proofs.Loading.{here_is}
use Rattle.seam_core.proofs.Nodes.{IsUnseen}

-- a position inside a space of that size
in_space : (size : ℕ) (t : Division) (p : Pos) → t.size ≡ size → is_inside size p ≡ true → IsInSpace t p
in_space size t p same inside = record {
  x_inside = grind (arith, nat_tests, same, inside);
  z_inside = grind (arith, nat_tests, same, inside);
}

-- a part without a witness of its entity's real has no client
passes_none : (w : Option WitnessView) (o : Option PartView) (p : PartView) (version : ℕ) → o ≡ Some p → w ≡ None →
    AreFor w p.proxy version → passes has_client o ≡ false
passes_none w o p version is none for = ap (passes has_client) is ∙ by w p.proxy none for
  where
    by : (w : Option WitnessView) (x : Option ProxyView) → w ≡ None → AreFor w x version → is_some x ≡ false
    by None None none for = refl
    by None (Some x) none for = absurd for
    by (Some w) x none for = absurd (let z = none in cc)

module _ (f : Frame) (w : World) (b : Batch) (between : IsBetweenRounds f w) (parts : HasPartsBetweenRounds f w) (fits : IsFitting f w b)
  where
    -- what a node has of an entity, in the world as the entity sees it
    seen : (e k : ℕ) (s : NodeView) → slice_get w.nodes k ≡ Some s → (entity_flow e w).slot k ≡ has_of e s
    seen e k s at = ap (slot_at (has_of e) has_none) at

    module _ (k : ℕ) (s : NodeView) (at : slice_get w.nodes k ≡ Some s) where
      inside : (xs : List Create) → AllByRecursion (MayBeMade f w) xs → AllByRecursion (λ x. IsInSpace b.tree x.pos) xs
      inside [] all = tt
      inside (x ∷ xs) all = (in_space f.settings.size b.tree x.pos fits.space all.0.inside, inside xs all.1)

      new : (xs : List Create) → AllByRecursion (MayBeMade f w) xs → AllByRecursion (λ x. real_in (has_of x.entity s) ≡ None) xs
      new [] all = tt
      new (x ∷ xs) all = (ap real_in (sym (seen x.entity k s at) ∙ all.0.new k), new xs all.1)

      -- one that is created has nothing here
      unseen_new : (x : Create) → MayBeMade f w x → IsUnseen s x.entity
      unseen_new x may = ap (λ h. passes has_client h.base.part) (sym (seen x.entity k s at) ∙ may.new k)

      -- one that was there has its part at its home
      unseen_old : (e home : ℕ) (r : RealView) → real_in ((entity_flow e w).slot home) ≡ Some r → HasNoWitness w e → IsUnseen s e
      unseen_old e home r here none =
          let part = parts.parts e home r here in
          elim (cases_eq k (home_of f e)) [
            | inl is ↦
                passes_none r.witness (has_of e s).base.part part.part part.part.version
                (ap (λ h. h.base.part) (sym (seen e k s at)) ∙ (ap (λ j. ((entity_flow e w).slot j).base.part) is ∙ part.here))
                (none home r here) (parts.clients e home r here part.part part.here)
            | inr n ↦ ap (passes has_client) (ap (λ h. h.base.part) (sym (seen e k s at)) ∙ part.others k n)
          ]

      unseen_by : (e : ℕ) → HasNoWitness w e → Creation e b.creates → Somewhere e (loaded w b) → IsUnseen s e
      unseen_by e none (nowhere others) at =
          let q = real_was w b e fits.spares others at.0 at.1 at.2 in
          unseen_old e at.0 q.0 q.2 none
      unseen_by e none (once first x later is same others more) at =
          subst (IsUnseen s) same
          (unseen_new x (middle (MayBeMade f w) first x later (subst (AllByRecursion (MayBeMade f w)) is fits.creates)))

      somewhere : (e : ℕ) → holders (loaded w b) e ≡ 1 → Somewhere e (loaded w b)
      somewhere e one = elim (search_real e (loaded w b)) [
        | inl there ↦ there
        | inr none ↦
            let zero = none_counts (loaded w b) e
            (record {
              slots = none;
              mail = λ x y. ap (letters_of real_of) (no_mail f w b (record { between = between; fits = fits }) e x y);
            }) in
            absurd (omega (arith, one, zero))
      ]

      unseen : (es : List ℕ) → AllByRecursion (λ e. holders (loaded w b) e ≡ 1) es → AllByRecursion (HasNoWitness w) es →
          AllByRecursion (IsUnseen s) es
      unseen [] ones all = tt
      unseen (e ∷ es) ones all = (
        unseen_by e all.0 (creation_of e b.creates fits.once) (somewhere e ones.0),
        unseen es ones.1 all.1,
      )

      can_begin : CanBegin b s
      can_begin = record {
        space = ap (λ h. h.settings.size) (here_is f.defs f.settings k s (known_at f k s (between.nodes.nodes k s at))) ∙ sym fits.space;
        inside = inside b.creates fits.creates;
        new = new b.creates fits.creates;
        once = fits.once;
        unseen = unseen b.clients fits.clients fits.unseen;
        one_each = fits.one_each;
      }

    pub may_load : MayLoad w b
    may_load k s at = can_begin k s at
