-- Lists that are made item by item.
use Rattle.std.proofs.Common.{◌≡◌, ◌+◌, ◌<◌, ℕ, suc, Bool, true, false, cond, List, [], ◌∷◌, ◌++◌, map, length, take, get_or}
use Rattle.std.proofs.Common.{Some, refl, sym, ap, ◌∙◌, arith}
use Rattle.std.specs.Prelude.{find, ◌==◌, unwrap_or}
use Rattle.std.specs.Option.{option_map}
use Rattle.std.proofs.lemmas.List.{append_assoc, take_more, length-take-le}
use Rattle.seam_rule_rounds.specs.Prelude.{Create, ClientText, Header, Orders, Standing, in_first_cell, ClientLine}
use Rattle.seam_judge_data.specs.Standings.{place_among}
use Rattle.seam_judge_data.specs.declared.standing.Held.{Held}
use Rattle.seam_judge_plain.specs.Plain.{place_after, places_after, line_at, lines_from}

-- ---- where entities are held

-- an entity as the code keeps where it is left
abbrev pub held_of : Header → Standing → Orders → Create → Held
held_of h s orders c = record { entity = c.entity; place = place_after h s orders c }

pub held_is : (h : Header) (s : Standing) (orders : Orders) (e : ℕ) (live : List Create) →
    place_among (map (held_of h s orders) live) e ≡ places_after h s orders live e
held_is h s orders e [] = refl
held_is h s orders e (x ∷ xs) = by (x.entity == e) (held_is h s orders e xs)
  where
    by : (b : Bool) → place_among (map (held_of h s orders) xs) e ≡ places_after h s orders xs e →
        unwrap_or (option_map (λ (d : Held). d.place)
        (cond b (Some (held_of h s orders x)) (find (λ d. d.entity == e) (map (held_of h s orders) xs)))) in_first_cell
        ≡ unwrap_or (option_map (place_after h s orders) (cond b (Some x) (find (λ c. c.entity == e) xs))) in_first_cell
    by true again = refl
    by false again = again

-- ---- lines of a client

-- one text more is one line more, of the next number
pub lines_more : (c : Create) (n : ℕ) (xs : List ClientText) (x : ClientText) →
    lines_from c n (xs ++ x ∷ []) ≡ lines_from c n xs ++ line_at c (n + length xs + 1) x ∷ []
lines_more c n [] x =
    let here : n + 1 ≡ n + 0 + 1 = omega arith in
    ap (λ (k : ℕ). line_at c k x ∷ []) here
lines_more c n (y ∷ ys) x =
    let later : n + 1 + length ys + 1 ≡ n + suc (length ys) + 1 = omega arith in
    ap (λ (ls : List ClientLine). line_at c (n + 1) y ∷ ls)
    (lines_more c (n + 1) ys x ∙ ap (λ (k : ℕ). lines_from c (n + 1) ys ++ line_at c k x ∷ []) later)

pub line_added : (c : Create) (n : ℕ) (xs : List ClientText) (i : ℕ) (d : ClientText) (start lines new : List ClientLine) (x : ClientText)
    (number next : ℕ) → i < length xs → lines ≡ start ++ lines_from c n (take i xs) → number ≡ n + i → next ≡ number + 1 →
    x ≡ get_or xs i d → new ≡ lines ++ line_at c next x ∷ [] → new ≡ start ++ lines_from c n (take (i + 1) xs)
line_added c n xs i d start lines new x number next within before counted is_next item step =
    let short : List ClientText = take i xs in
    let long : length short ≡ i = length-take-le i xs (omega (arith, within)) in
    let same : next ≡ n + length short + 1 = omega (arith, counted, is_next, long) in
    step ∙ (λ k. before k ++ line_at c (same k) (item k) ∷ [])
    ∙ append_assoc start (lines_from c n short) (line_at c (n + length short + 1) (get_or xs i d) ∷ [])
    ∙ ap (λ (ls : List ClientLine). start ++ ls) (sym (lines_more c n short (get_or xs i d)))
    ∙ ap (λ (ts : List ClientText). start ++ lines_from c n ts) (sym (take_more xs i d within))
