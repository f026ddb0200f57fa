-- What is kept of clients whose entities die in a round.
use Rattle.std.proofs.Common.{◌≡◌, ℕ, Bool, true, false, cond, List, [], ◌∷◌, ◌++◌, Option, None, Some, refl, sym, ap, ◌∙◌, arith}
use Rattle.std.specs.Prelude.{◌==◌, ◌||◌}
use Rattle.std.specs.List.{list_any, filter_map}
use Rattle.std.specs.Option.{option_map}
use Rattle.std.specs.Ordering.{nat_cmp, eq_by_cmp}
use Rattle.std.specs.FinMap as table
use Rattle.std.specs.Cmp.{nat_cmp_total}
use Rattle.std.specs.BTreeMap.{BTreeMap, get, values}
use Rattle.std.proofs.lemmas.Bool.{eqb-true}
use Rattle.std.proofs.lemmas.Bool.Decides.{nat_tests}
use Rattle.std.proofs.lemmas.List.Folds.{list_any-append}
use Rattle.seam_node_steps.specs.Prelude.{TypeDef, Create, Map, World}
use Rattle.seam_rule_rounds.specs.Prelude.{Book, destroys, is_shown}
use Rattle.seam_accept.specs.Batches.{destroyed}
use Rattle.seam_world_text.specs.Residents.{ArePresent, IsByNumber, is_among, present_as}
use Rattle.seam_world_text.specs.Farewells.{AreFarewells, AreOf, farewell_of, kept_of}
use Rattle.seam_world_text.specs.declared.farewells.Farewell.{Farewell}
use Rattle.seam_world_text.specs.declared.residents.Resident.{Resident}
use Rattle.seam_world_text.proofs.Listing.{resident_of, from_list}
use Rattle.seam_world_text.proofs.Keeping.{present_named}
use Rattle.seam_world_text.proofs.Entries.{destroyed_among}

same_test : (d e : ℕ) → eq_by_cmp nat_cmp d e ≡ (e == d)
same_test d e = grind (arith, nat_tests)

module _ (defs : List TypeDef) (w : World) (m : BTreeMap ℕ Resident) where
  abbrev its : ℕ → Option Farewell
  its e = farewell_of defs w (get nat_cmp m e)

  -- ---- one more

  module _ (e : ℕ) (es : List ℕ) (f : Map Farewell) (so_far : AreOf defs w m es f) where
    among_more : (d : ℕ) → is_among d (es ++ e ∷ []) ≡ (is_among d es || ((e == d) || false))
    among_more d = list_any-append (λ x. x == d) es (e ∷ [])

    kept_by : (t : Farewell) (x y : Bool) (o : Option Farewell) → (y ≡ true → o ≡ Some t) →
        cond y (Some t) (cond x o None) ≡ cond (x || (y || false)) o None
    kept_by t true true o here = sym (here refl)
    kept_by t false true o here = sym (here refl)
    kept_by t true false o here = refl
    kept_by t false false o here = refl

    pub one_more_kept : (t : Farewell) → its e ≡ Some t → (g : Map Farewell) → g ≡ table.insert f e t → AreOf defs w m (es ++ e ∷ []) g
    one_more_kept t is g same d =
        ap (λ (x : Map Farewell). table.get x d) same ∙ table.get-insert nat_cmp_total f e t d
        ∙ (λ i. cond (same_test d e i) (Some t) (so_far d i))
        ∙ kept_by t (is_among d es) (e == d) (its d) (λ here. ap its (sym (eqb-true e d here)) ∙ is)
        ∙ sym (ap (λ x. cond x (its d) None) (among_more d))

    none_by : (x y : Bool) (o : Option Farewell) → (y ≡ true → o ≡ None) → cond x o None ≡ cond (x || (y || false)) o None
    none_by true y o here = refl
    none_by false true o here = sym (here refl)
    none_by false false o here = refl

    pub none_more_kept : its e ≡ None → AreOf defs w m (es ++ e ∷ []) f
    none_more_kept is d =
        so_far d ∙ none_by (is_among d es) (e == d) (its d) (λ here. ap its (sym (eqb-true e d here)) ∙ is)
        ∙ sym (ap (λ x. cond x (its d) None) (among_more d))

  pub none_kept : (f : Map Farewell) → f ≡ table.empty → AreOf defs w m [] f
  none_kept f none d = ap (λ (x : Map Farewell). table.get x d) none ∙ table.get-empty nat_cmp d

  -- ---- of those who die in a round

  has_farewell : (c : Create) (x : Bool) → x ≡ true →
      farewell_of defs w (Some (record { made = c; client = x })) ≡ Some (kept_of defs w c)
  has_farewell c true is = refl
  has_farewell c false is = absurd (let z = is in cc)

  pub are_farewells : (b : Book) → IsByNumber m → ArePresent b (values m) → (es : List ℕ) → es ≡ filter_map destroyed b.current →
      (f : Map Farewell) → AreOf defs w m es f → AreFarewells defs b w f
  are_farewells b by present es are f kept c there shown =
      let has = from_list (present_as b) (is_shown b) (present_named b) m by present c.entity
      ∙ ap (option_map (resident_of (is_shown b))) there in
      kept c.entity
      ∙ ap (λ xs. cond (is_among c.entity xs) (its c.entity) None) are
      ∙ ap (λ x. cond x (its c.entity) None) (destroyed_among c.entity b.current)
      ∙ ap (λ o. cond (list_any (destroys c.entity) b.current) o None) (ap (farewell_of defs w) has
      ∙ has_farewell c (is_shown b c.entity) shown)
