-- Items by their numbers: what a step told is what its letters tell.
use Rattle.seam_law_clients.proofs.Prelude.{◌≡◌, ℕ, ◌+◌, List, [], ◌∷◌, map, Option, refl, sym, ap, ◌∙◌, OrderView, letters_of, more_issued}
use Rattle.seam_law_clients.proofs.Prelude.{number_from}
use Rattle.seam_law_flow.specs.Deliveries.{Passes}
use Rattle.seam_law_flow.specs.Deliveries as pass

unnumbered : {U : Type 0} (n : ℕ) (us : List U) → map (λ p. p.1) (number_from n us) ≡ us
unnumbered n [] = refl
unnumbered n (u ∷ us) = ap (λ l. u ∷ l) (unnumbered (n + 1) us)

pub same_items : {U : Type 0} (n : ℕ) (us vs : List U) → number_from n us ≡ number_from n vs → us ≡ vs
same_items n us vs h = sym (unnumbered n us) ∙ (ap (map (λ p. p.1)) h ∙ unnumbered n vs)

pub issued_is : {S L U : Type 0} (order : S → OrderView U) (delivered : S → List U) (brings : L → Option (ℕ × U)) (b number : ℕ) (s : S)
    (i : Option L) (t : S) (out : ℕ → List L) (p : Passes order delivered brings b number s i t out) →
    letters_of brings (out b) ≡ number_from number (more_issued p)
issued_is order delivered brings b number s i t out (pass.rests eo es nh o) = o b
issued_is order delivered brings b number s i t out (pass.issues us eo es nh o z few) = o
issued_is order delivered brings b number s i t out (pass.offers n u c eo es o) = o b
issued_is order delivered brings b number s i t out (pass.gives u a eo es c o) = o b
