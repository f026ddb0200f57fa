-- Residents by their numbers, after one more was added.
use Rattle.std.proofs.Common.{◌≡◌, ℕ, List, [], ◌∷◌, ◌++◌, Option, None, Some, refl, sym, ap, ◌∙◌}
use Rattle.std.specs.Prelude.{◌==◌, find}
use Rattle.std.specs.Option.{option_or, option_map}
use Rattle.std.specs.Ordering.{nat_cmp}
use Rattle.std.specs.BTreeMap.{BTreeMap, get}
use Rattle.std.proofs.lemmas.List.Folds.{find-append}
use Rattle.seam_call.specs.declared.create.Create.{Create}
use Rattle.seam_world_text.specs.Residents.{newcomer, Adds}
use Rattle.seam_world_text.specs.declared.residents.Resident.{Resident}

abbrev Map : Type 0
Map = BTreeMap ℕ Resident

module _ (old mid new : Map) where
  added_by : (o p q : Option Resident) → option_or (option_or o p) q ≡ option_or o (option_or p q)
  added_by None p q = refl
  added_by (Some r) p q = refl

  made_by : (o p : Option Create) → option_or (option_map newcomer o) (option_map newcomer p) ≡ option_map newcomer (option_or o p)
  made_by None p = refl
  made_by (Some c) p = refl

  pub one_more_added : (cs : List Create) (c : Create) → Adds cs old mid → Adds (c ∷ []) mid new → Adds (cs ++ c ∷ []) old new
  one_more_added cs c first then e =
      let its : List Create → Option Create = λ xs. find (λ d. d.entity == e) xs in
      then e ∙ ap (λ o. option_or o (option_map newcomer (its (c ∷ [])))) (first e)
      ∙ added_by (get nat_cmp old e) (option_map newcomer (its cs)) (option_map newcomer (its (c ∷ [])))
      ∙ ap (option_or (get nat_cmp old e)) (made_by (its cs) (its (c ∷ []))
      ∙ ap (option_map newcomer) (sym (find-append (λ d. d.entity == e) cs (c ∷ []))))
