-- What one thing more that is shown changes of a client.
use Rattle.std.proofs.Common.{◌≡◌, ◌+◌, ◌<◌, ℕ, Bool, true, false, cond, List, [], ◌∷◌, ◌++◌, length, map, take, get_or, Bor, Option, Some}
use Rattle.std.proofs.Common.{refl, sym, ap, ◌∙◌, arith}
use Rattle.std.specs.Prelude.{◌==◌}
use Rattle.std.specs.Ordering.{nat_cmp, is_eq}
use Rattle.std.specs.Cmp.{nat_cmp_total}
use Rattle.std.specs.FinMap as table
use Rattle.std.proofs.lemmas.Bool.Decides.{nat_tests}
use Rattle.std.proofs.lemmas.List.{take_more, map-append}
use Rattle.std.proofs.lemmas.List.Elements.{filter_map-append}
use Rattle.std.proofs.lemmas.List.Sums.{fold-append}
use Rattle.seam_rule_rounds.specs.Prelude.{Shown, Own, Enter, Set, Leave, ClientReplica, after_shown, after_all_shown, shown_by}
use Rattle.seam_rule_rounds.specs.Prelude.{shown_by_lines}
use Rattle.seam_call.specs.declared.shown.Line.{Line}
use Rattle.seam_judge_looks.specs.Replicas.{last_own, own_after, version_after, entries_after}

-- after one more of a list
pub shown_more : (c : ClientReplica) (xs : List (Bor Shown)) (i : ℕ) (d : Bor Shown) → i < length xs →
    after_all_shown c (map (λ x. x.now) (take (i + 1) xs))
    ≡ after_shown (after_all_shown c (map (λ x. x.now) (take i xs))) (get_or xs i d).now
shown_more c xs i d within =
    ap (λ (ys : List (Bor Shown)). after_all_shown c (map (λ x. x.now) ys)) (take_more xs i d within)
    ∙ ap (after_all_shown c) (map-append (λ (x : Bor Shown). x.now) (take i xs) (get_or xs i d ∷ []))
    ∙ fold-append after_shown c (map (λ x. x.now) (take i xs)) ((get_or xs i d).now ∷ [])

pub own_step : (c : ClientReplica) (x : Shown) → last_own (after_shown c x) ≡ own_after (last_own c) x
own_step c (Own v s) = refl
own_step c (Enter e k) = refl
own_step c (Set e k) = refl
own_step c (Leave e) = refl

equal_is : (q e : ℕ) → is_eq (nat_cmp q e) ≡ (q == e)
equal_is q e = by (q == e) refl
  where
    by : (b : Bool) → (q == e) ≡ b → is_eq (nat_cmp q e) ≡ b
    by true is = grind (arith, nat_tests, is)
    by false is = grind (arith, nat_tests, is)

got : (m : table.FinMap nat_cmp ℕ) (e v q : ℕ) → table.get (table.insert m e v) q ≡ cond (q == e) (Some v) (table.get m q)
got m e v q = table.get-insert nat_cmp_total m e v q ∙ ap (λ b. cond b (Some v) (table.get m q)) (equal_is q e)

pub version_step : (e : ℕ) (c : ClientReplica) (x : Shown) →
    table.get (after_shown c x).others.shown e ≡ version_after e (table.get c.others.shown e) x
version_step e c (Own v s) = refl
version_step e c (Enter f k) = got c.others.shown f k.version e
version_step e c (Set f k) = got c.others.shown f k.version e
version_step e c (Leave f) = refl

-- the version last shown, after one more of a list
pub version_more : (e : ℕ) (c : ClientReplica) (xs items : List (Bor Shown)) (i : ℕ) (x : Bor Shown) (old new : Option ℕ) → items ≡ xs →
    i < length items → x ≡ get_or items i x →
    old ≡ table.get (after_all_shown c (map (λ x. x.now) (take i xs))).others.shown e → new ≡ version_after e old x.now →
    new ≡ table.get (after_all_shown c (map (λ x. x.now) (take (i + 1) xs))).others.shown e
version_more e c xs items i x old new same within item was is =
    let was_c : ClientReplica = after_all_shown c (map (λ x. x.now) (take i xs)) in
    let here : x ≡ get_or xs i x = item ∙ ap (λ (ys : List (Bor Shown)). get_or ys i x) same in
    let long = ap length same in
    is ∙ (λ k. version_after e (was k) (here k).now)
    ∙ sym (version_step e was_c (get_or xs i x).now)
    ∙ ap (λ (q : ClientReplica). table.get q.others.shown e) (sym (shown_more c xs i x (omega (arith, within, long))))

pub entries_step : (c : ClientReplica) (x : Shown) → (after_shown c x).others.entries ≡ entries_after c.others.entries x
entries_step c (Own v s) = refl
entries_step c (Enter e k) = refl
entries_step c (Set e k) = refl
entries_step c (Leave e) = refl

-- ---- the distances of a view stay

radius_step : (c : ClientReplica) (x : Shown) → (after_shown c x).others.radius ≡ c.others.radius
radius_step c (Own v s) = refl
radius_step c (Enter e k) = refl
radius_step c (Set e k) = refl
radius_step c (Leave e) = refl

pub radius_stays : (c : ClientReplica) (xs : List Shown) → (after_all_shown c xs).others.radius ≡ c.others.radius
radius_stays c [] = refl
radius_stays c (x ∷ xs) = radius_stays (after_shown c x) xs ∙ radius_step c x

hysteresis_step : (c : ClientReplica) (x : Shown) → (after_shown c x).others.hysteresis ≡ c.others.hysteresis
hysteresis_step c (Own v s) = refl
hysteresis_step c (Enter e k) = refl
hysteresis_step c (Set e k) = refl
hysteresis_step c (Leave e) = refl

pub hysteresis_stays : (c : ClientReplica) (xs : List Shown) → (after_all_shown c xs).others.hysteresis ≡ c.others.hysteresis
hysteresis_stays c [] = refl
hysteresis_stays c (x ∷ xs) = hysteresis_stays (after_shown c x) xs ∙ hysteresis_step c x

-- what lines show of cell parts, with one more line
pub lines_more : (lines : List (Bor Line)) (i : ℕ) (l : Bor Line) (out new : List Shown) → i < length lines → l ≡ get_or lines i l →
    out ≡ shown_by_lines (map (λ x. x.now) (take i lines)) → new ≡ out ++ shown_by_lines (l.now ∷ []) →
    new ≡ shown_by_lines (map (λ x. x.now) (take (i + 1) lines))
lines_more lines i l out new within item before is =
    is ∙ (λ k. before k ++ shown_by_lines ((item k).now ∷ []))
    ∙ sym (filter_map-append (λ (x : Line). shown_by x.text) (map (λ x. x.now) (take i lines)) ((get_or lines i l).now ∷ []))
    ∙ ap shown_by_lines (sym (map-append (λ (x : Bor Line). x.now) (take i lines) (get_or lines i l ∷ [])))
    ∙ ap (λ (ls : List (Bor Line)). shown_by_lines (map (λ x. x.now) ls)) (sym (take_more lines i l within))
