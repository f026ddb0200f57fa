-- What a watch tells after it was given journals, some after others.
use Rattle.std.proofs.Common.{◌≡◌, ℕ, List, [], ◌++◌, None, Some, map, refl, sym, ap, ◌∙◌, append_assoc, append-nil}
use Rattle.std.proofs.lemmas.List.{map-append}
use Rattle.seam_watch.specs.Watching.{Told, after_all}
use Rattle.seam_watch.specs.declared.journal.Journal.{Journal}

pub told_nothing : (space : ℕ) (told : Told) → told ≡ after_all space [] told
told_nothing space None = refl
told_nothing space (Some told) = ap (λ js. Some js) (sym (append-nil told))

pub told_more : (space : ℕ) (xs ys : List Journal) (told : Told) →
    after_all space ys (after_all space xs told) ≡ after_all space (xs ++ ys) told
told_more space xs ys None = refl
told_more space xs ys (Some told) =
    let given = λ (js : List Journal). map (λ (j : Journal). (space, j)) js in
    ap (λ js. Some js)
    (append_assoc told (given xs) (given ys) ∙ ap (λ js. told ++ js) (sym (map-append (λ (j : Journal). (space, j)) xs ys)))
