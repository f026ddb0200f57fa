-- Walks over a list that keep what each item gives.
use Rattle.std.proofs.Common.{◌≡◌, ◌+◌, ◌<◌, ℕ, List, [], ◌∷◌, ◌++◌, length, take, get_or, Option, sym, ap, ◌∙◌}
use Rattle.std.specs.List.{filter_map, cons_option}
use Rattle.std.proofs.lemmas.List.{take_more}
use Rattle.std.proofs.lemmas.List.Elements.{filter_map-append}

-- what the items give, with one more
pub given_more : {A B : Type 0} (f : A → Option B) (xs : List A) (i : ℕ) (d : A) (out new : List B) (o : Option B) → i < length xs →
    out ≡ filter_map f (take i xs) → o ≡ f (get_or xs i d) → new ≡ out ++ cons_option o [] → new ≡ filter_map f (take (i + 1) xs)
given_more f xs i d out new o within before gives is =
    is ∙ (λ k. before k ++ cons_option (gives k) [])
    ∙ sym (filter_map-append f (take i xs) (get_or xs i d ∷ [])) ∙ ap (filter_map f) (sym (take_more xs i d within))
