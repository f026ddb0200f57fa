-- Of lists of lines that are put together piece by piece, one for each entity, those of one entity.
use Rattle.std.proofs.Common.{◌≡◌, ◌≢◌, ◌<◌, ℕ, suc, Bool, true, false, cond, List, [], ◌∷◌, ◌++◌, map, get_or, refl, ap, ◌∙◌, subst, arith}
use Rattle.std.proofs.Common.{inl, inr, ◌⊎◌, append-nil}
use Rattle.std.specs.Prelude.{filter, ◌==◌, Contains}
use Rattle.std.specs.List.{AllPairs, flat_map}
use Rattle.std.specs.List.Sorted.{IsStrictlyIncreasing}
use Rattle.std.proofs.lemmas.Bool.Decides.{nat_tests}
use Rattle.std.proofs.lemmas.List.{get_or-map, length-map}
use Rattle.std.proofs.lemmas.List.Elements.{All-contains, filter-append}
use Rattle.std.proofs.lemmas.List.Kept.{AllPairs-from_increasing}
use Rattle.seam_call.specs.declared.create.Create.{Create}
use Rattle.seam_rule_lines.proofs.Lists.{contains_first, contains_later, contains_cases}

-- a test that is everywhere the same keeps all or nothing
pub filter_same : {X : Type 0} (q : X → Bool) (b : Bool) (xs : List X) → ((x : X) → Contains xs x → q x ≡ b) → filter q xs ≡ cond b xs []
filter_same q true [] each = refl
filter_same q false [] each = refl
filter_same {X} q b (x ∷ xs) each =
    ap (λ (y : Bool). cond y (x ∷ filter q xs) (filter q xs)) (each x (contains_first x xs))
    ∙ by b (filter_same q b xs (λ y has. each y (contains_later x y xs has)))
  where
    by : (b : Bool) → filter q xs ≡ cond b xs [] → cond b (x ∷ filter q xs) (filter q xs) ≡ cond b (x ∷ xs) []
    by true again = ap (λ (ys : List X). x ∷ ys) again
    by false again = again

-- the piece of an entity, and nothing of another
abbrev pub piece_of : {X : Type 0} → (Create → List X) → ℕ → Create → List X
piece_of f e c = cond (c.entity == e) (f c) []

-- a test that in each piece tells its entity keeps the piece of that one
pub pieces_kept : {X : Type 0} (f : Create → List X) (q : X → Bool) (e : ℕ) (cs : List Create) →
    ((c : Create) → Contains cs c → (x : X) → Contains (f c) x → q x ≡ (c.entity == e)) →
    filter q (flat_map f cs) ≡ flat_map (piece_of f e) cs
pieces_kept f q e [] each = refl
pieces_kept f q e (c ∷ cs) each =
    let one = filter_same q (c.entity == e) (f c) (each c (contains_first c cs)) in
    let others = pieces_kept f q e cs (λ d has. each d (contains_later c d cs has)) in
    filter-append q (f c) (flat_map f cs) ∙ (λ i. one i ++ others i)

-- a test that no piece passes keeps nothing
pub pieces_lost : {X : Type 0} (f : Create → List X) (q : X → Bool) (cs : List Create) →
    ((c : Create) → Contains cs c → (x : X) → Contains (f c) x → q x ≡ false) → filter q (flat_map f cs) ≡ []
pieces_lost f q [] each = refl
pieces_lost f q (c ∷ cs) each =
    let one = filter_same q false (f c) (each c (contains_first c cs)) in
    let others = pieces_lost f q cs (λ d has. each d (contains_later c d cs has)) in
    filter-append q (f c) (flat_map f cs) ∙ (λ i. one i ++ others i)

-- where no entity has the number, there is no piece
pub no_piece : {X : Type 0} (f : Create → List X) (e : ℕ) (cs : List Create) → ((c : Create) → Contains cs c → c.entity ≢ e) →
    flat_map (piece_of f e) cs ≡ []
no_piece f e [] other = refl
no_piece {X} f e (c ∷ cs) other =
    by (c.entity == e) refl (no_piece f e cs (λ d has. other d (contains_later c d cs has)))
  where
    by : (b : Bool) → (c.entity == e) ≡ b → flat_map (piece_of f e) cs ≡ [] → cond b (f c) [] ++ flat_map (piece_of f e) cs ≡ []
    by true is again = absurd (other c (contains_first c cs) (grind (arith, nat_tests, is)))
    by false is again = again

-- each number is below those of the later entities
abbrev Rises : List Create → Type 0
Rises list = AllPairs (λ (a b : Create). a.entity < b.entity) list

rises : (list : List Create) → IsStrictlyIncreasing (map (λ c. c.entity) list) → Rises list
rises list rising i j d first within =
    let entity : Create → ℕ = λ (c : Create). c.entity in
    let below = AllPairs-from_increasing (map entity list) rising i j 0 first (omega (arith, length-map list entity)) in
    subst (λ (n : ℕ). n < (get_or list j d).entity) (get_or-map entity list i d 0 (omega arith))
    (subst (λ (n : ℕ). get_or (map entity list) i 0 < n) (get_or-map entity list j d 0 within) below)

piece_among : {X : Type 0} (f : Create → List X) (c : Create) (cs : List Create) → Rises cs → Contains cs c →
    flat_map (piece_of f c.entity) cs ≡ f c
piece_among f c [] rise (k, within, is) = absurd (omega arith)
piece_among {X} f c (x ∷ xs) rise has =
    by (x.entity == c.entity) refl
    (piece_among f c xs (λ i j d first within. rise (suc i) (suc j) d (omega arith) (omega arith))) (contains_cases x c xs has)
  where
    above : (d : Create) → Contains xs d → x.entity < d.entity
    above d there =
        All-contains (λ (y : Create). x.entity < y.entity) xs d (λ k e within. rise 0 (suc k) e (omega arith) (omega arith)) there

    by : (b : Bool) → (x.entity == c.entity) ≡ b → (Contains xs c → flat_map (piece_of f c.entity) xs ≡ f c) → (x ≡ c) ⊎ Contains xs c →
        cond b (f x) [] ++ flat_map (piece_of f c.entity) xs ≡ f c
    by true is again (inl same) =
        let none = no_piece f c.entity xs (λ d there equal.
        let up = above d there in
        let here : x.entity ≡ c.entity = ap (λ (y : Create). y.entity) same in
        absurd (omega (arith, up, here, equal))) in
        ap (λ (ys : List X). f x ++ ys) none ∙ append-nil (f x) ∙ ap f same
    by true is again (inr there) = let up = above c there in absurd (grind (arith, nat_tests, is, up))
    by false is again (inl same) = let here : x.entity ≡ c.entity = ap (λ (y : Create). y.entity) same in
        absurd (grind (arith, nat_tests, is, here))
    by false is again (inr there) = again there

-- the piece of an entity of a list in rising number
pub one_piece : {X : Type 0} (f : Create → List X) (c : Create) (cs : List Create) → IsStrictlyIncreasing (map (λ d. d.entity) cs) →
    Contains cs c → flat_map (piece_of f c.entity) cs ≡ f c
one_piece f c cs rising has = piece_among f c cs (rises cs rising) has
