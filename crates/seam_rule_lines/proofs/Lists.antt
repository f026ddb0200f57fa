-- Lists of entities in rising number.
use Rattle.std.proofs.Common.{◌≡◌, ◌<◌, ℕ, List, [], ◌∷◌, map, get_or, zero, suc, ◌⊎◌, Option, refl, sym, ◌∙◌, ap, subst, arith, inl, inr}
use Rattle.std.specs.Prelude.{Contains}
use Rattle.std.specs.List.{AllPairs}
use Rattle.std.specs.List.Sorted.{IsStrictlyIncreasing}
use Rattle.std.proofs.lemmas.List.{get_or-map, length-map}
use Rattle.std.proofs.lemmas.List.Elements.{All-contains}
use Rattle.std.proofs.lemmas.List.Kept.{AllPairs-from_increasing}
use Rattle.seam_call.specs.declared.create.Create.{Create}
use Rattle.seam_rule_lines.specs.Round.{Lists}

pub contains_first : {X : Type 0} (x : X) (xs : List X) → Contains (x ∷ xs) x
contains_first x xs = (0, omega arith, refl)

pub contains_later : {X : Type 0} (y x : X) (xs : List X) → Contains xs x → Contains (y ∷ xs) x
contains_later y x xs (k, within, is) = (suc k, omega arith, is)

pub contains_cases : {X : Type 0} (y x : X) (xs : List X) → Contains (y ∷ xs) x → (y ≡ x) ⊎ Contains xs x
contains_cases y x xs (zero, within, is) = inl is
contains_cases y x xs (suc k, within, is) = inr (k, omega arith, is)

-- each entity's number is below those of the later ones
abbrev Rises : List Create → Type 0
Rises list = AllPairs (λ (a b : Create). a.entity < b.entity) list

rises : (list : List Create) → IsStrictlyIncreasing (map (λ c. c.entity) list) → Rises list
rises list rising i j d first within =
    let entity : Create → ℕ = λ (c : Create). c.entity in
    let below = AllPairs-from_increasing (map entity list) rising i j 0 first (omega (arith, length-map list entity)) in
    subst (λ (n : ℕ). n < (get_or list j d).entity) (get_or-map entity list i d 0 (omega arith))
    (subst (λ (n : ℕ). get_or (map entity list) i 0 < n) (get_or-map entity list j d 0 within) below)

rises_after_first : (x : Create) (xs : List Create) → Rises (x ∷ xs) → Rises xs
rises_after_first x xs rise i j d first within = rise (suc i) (suc j) d (omega arith) (omega arith)

first_is_below : (x c : Create) (xs : List Create) → Rises (x ∷ xs) → Contains xs c → x.entity < c.entity
first_is_below x c xs rise has =
    All-contains (λ (d : Create). x.entity < d.entity) xs c (λ k d within. rise 0 (suc k) d (omega arith) (omega arith)) has

none_in_empty : (c : Create) → Contains [] c → ⊥
none_in_empty c (k, within, is) = omega arith

-- what is above the first one comes later
later : (x c : Create) (xs : List Create) → (x ≡ c) ⊎ Contains xs c → x.entity < c.entity → Contains xs c
later x c xs (inl same) above = let number = ap (λ (d : Create). d.entity) same in absurd (omega (arith, number))
later x c xs (inr has) above = has

-- rising lists with the same elements are one
list_is_one : (xs ys : List Create) → Rises xs → Rises ys → ((c : Create) → Contains xs c → Contains ys c) →
    ((c : Create) → Contains ys c → Contains xs c) → xs ≡ ys
list_is_one [] [] rise rise' there back = refl
list_is_one [] (y ∷ ys) rise rise' there back = absurd (none_in_empty y (back y (contains_first y ys)))
list_is_one (x ∷ xs) [] rise rise' there back = absurd (none_in_empty x (there x (contains_first x xs)))
list_is_one (x ∷ xs) (y ∷ ys) rise rise' there back =
    let same : x ≡ y =
    heads (contains_cases y x ys (there x (contains_first x xs))) (contains_cases x y xs (back y (contains_first y ys))) in
    ap (λ (c : Create). c ∷ xs) same
    ∙ ap (λ (cs : List Create). y ∷ cs) (list_is_one xs ys (rises_after_first x xs rise) (rises_after_first y ys rise')
    (λ c has. later y c ys (contains_cases y c ys (there c (contains_later x c xs has)))
    (subst (λ (d : Create). d.entity < c.entity) same (first_is_below x c xs rise has)))
    (λ c has. later x c xs (contains_cases x c xs (back c (contains_later y c ys has)))
    (subst (λ (d : Create). d.entity < c.entity) (sym same) (first_is_below y c ys rise' has))))
  where
    heads : (y ≡ x) ⊎ Contains ys x → (x ≡ y) ⊎ Contains xs y → x ≡ y
    heads (inl same) other = sym same
    heads (inr has) (inl same) = same
    heads (inr has) (inr has') =
        let one = first_is_below y x ys rise' has in
        let other = first_is_below x y xs rise has' in
        absurd (omega arith)

-- the entities that a function gives are listed in one way
pub listed_is_one : (entities : ℕ → Option Create) (xs ys : List Create) → Lists entities xs → Lists entities ys → xs ≡ ys
listed_is_one entities xs ys one other =
    list_is_one xs ys (rises xs one.rising) (rises ys other.rising)
    (λ c has. (other.exact c).1 ((one.exact c).0 has)) (λ c has. (one.exact c).1 ((other.exact c).0 has))
