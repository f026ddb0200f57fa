-- The texts of words in a table.
use Rattle.std.proofs.Common.{◌≡◌, ◌<◌, ◌+◌, ℕ, List, [], ◌∷◌, ◌++◌, length, take, map, set, sym, ◌∙◌, ap}
use Rattle.std.proofs.lemmas.List.{take_more_set, map-append}

-- one more word is put into the table
pub one_more_word : {R S : Type 0} (now : R → List ℕ) (text : S → List ℕ) (table : List R) (spans : List S) (i : ℕ) (r : R) (s : S) →
    i < length table → now r ≡ text s → map now (take i table) ≡ map text spans →
    map now (take (i + 1) (set table i r)) ≡ map text (spans ++ s ∷ [])
one_more_word now text table spans i r s in_table same before =
    ap (map now) (take_more_set table i r in_table) ∙ map-append now (take i table) (r ∷ [])
    ∙ ap (λ (xs : List (List ℕ)). xs ++ now r ∷ []) before ∙ ap (λ (x : List ℕ). map text spans ++ x ∷ []) same
    ∙ sym (map-append text spans (s ∷ []))
