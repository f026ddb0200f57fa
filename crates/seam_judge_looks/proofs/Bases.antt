-- The versions at which a base part is shown, by the lists that the code has.
use Rattle.std.proofs.Common.{◌≡◌, ◌++◌, ◌∷◌, [], ◌&&◌, ℕ, Bool, cond, List, length, map, Bor, sym, ap, ◌∙◌}
use Rattle.std.proofs.lemmas.List.{length-map}
use Rattle.seam_defs.specs.declared.flags.Part.TheVariants as part
use Rattle.seam_rule_rounds.specs.Prelude.{Call, Create, Header, is_new_client, changes_past, Standing, shows_base, base_versions}

pub versions_are : (h : Header) (s t : Standing) (c : Create) (former calls : List (Bor Call)) (first : Bool)
    (none some changes all : List ℕ) →
    map (λ x. x.now) former ≡ s.orders part.Base c.entity → map (λ x. x.now) calls ≡ t.orders part.Base c.entity →
    first ≡ (is_new_client s.book c.entity && shows_base h c) → none ≡ [] →
    some ≡ none ++ cond first (length former ∷ []) [] →
    changes ≡ changes_past h part.Base c (map (λ x. x.now) calls) (length former) (length calls) → all ≡ some ++ changes →
    all ≡ base_versions h s t c
versions_are h s t c former calls first none some changes all former_are calls_are first_is none_is some_is changes_are all_is =
    let began = sym (length-map former (λ x. x.now)) ∙ ap length former_are in
    let ended = sym (length-map calls (λ x. x.now)) ∙ ap length calls_are in
    all_is
    ∙ (λ i. (some_is ∙ (λ j. none_is j ++ cond (first_is j) (began j ∷ []) [])) i
    ++ (changes_are ∙ (λ j. changes_past h part.Base c (calls_are j) (began j) (ended j))) i)
