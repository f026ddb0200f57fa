-- Walks that append what each item gives.
use Rattle.std.proofs.Common.{◌≡◌, ◌+◌, ◌<◌, ℕ, List, [], ◌∷◌, ◌++◌, length, map, take, get_or, sym, ◌∙◌, ap}
use Rattle.std.proofs.Common.{refl, subst, zero, suc, Bor}
use Rattle.std.proofs.lemmas.List.{take_more, length-map}
use Rattle.std.proofs.lemmas.List.Sums.{fold_more}
use Rattle.seam_rule_rounds.specs.Prelude.{type_of, after, TypeDef, Part, State, Call, Create, Header, flat, first_state}

-- what an item gives comes after what those before it gave
pub appended : {A B : Type 0} (F : List A → List B) → ((xs ys : List A) → F (xs ++ ys) ≡ F xs ++ F ys) → (xs : List A) (i : ℕ) (d : A) →
    i < length xs
    → (out new : List B) → out ≡ F (take i xs) → new ≡ out ++ F (get_or xs i d ∷ []) → new ≡ F (take (i + 1) xs)
appended {A} {B} F splits xs i d within out new before step =
    step ∙ ap (λ (bs : List B). bs ++ F (get_or xs i d ∷ [])) before
    ∙ sym (splits (take i xs) (get_or xs i d ∷ [])) ∙ ap F (sym (take_more xs i d within))

item_at : (calls : List (Bor Call)) (i : ℕ) (d : Bor Call) → (get_or calls i d).now ≡ get_or (map (λ c. c.now) calls) i d.now
item_at [] i d = refl
item_at (x ∷ xs) zero d = refl
item_at (x ∷ xs) (suc i) d = item_at xs i d

-- one more call
pub flat_more : (h : Header) (p : Part) (create : Create) (calls : List (Bor Call)) (i : ℕ) (d : Bor Call) (t : TypeDef)
    (state new : State) → i < length calls
    → new ≡ after t state (get_or calls i d).now.deed → t ≡ type_of h.defs create.ty → state ≡ flat h p create (map (λ c. c.now) calls) i →
    new ≡ flat h p create (map (λ c. c.now) calls) (i + 1)
flat_more h p create calls i d t state new within new_is t_is was =
    let of : TypeDef = type_of h.defs create.ty in
    let known : List Call = map (λ c. c.now) calls in
    let long : i < length known = subst (λ (n : ℕ). i < n) (sym (length-map calls (λ c. c.now))) within in
    new_is ∙ ap (λ (x : TypeDef). after x state (get_or calls i d).now.deed) t_is
    ∙ ap (λ (s : State). after of s (get_or calls i d).now.deed) was
    ∙ ap (λ (x : Call). after of (flat h p create known i) x.deed) (item_at calls i d)
    ∙ sym (fold_more (λ (s : State) (x : Call). after of s x.deed) (first_state h p create) known i d.now long)
