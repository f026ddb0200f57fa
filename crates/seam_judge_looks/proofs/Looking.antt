-- A look, by what each entity gives to it.
use Rattle.std.proofs.Common.{◌≡◌, ℕ, Bool, true, false, cond, List, [], ◌∷◌, ◌++◌, map, Option, None, Some, refl, sym, ap, ◌∙◌}
use Rattle.std.proofs.Common.{append_assoc}
use Rattle.std.specs.Prelude.{◌==◌, filter, option_map}
use Rattle.std.specs.List.{filter_map, cons_option}
use Rattle.std.proofs.lemmas.List.Elements.{filter_map-append}
use Rattle.seam_rule_rounds.specs.Prelude.{Pos, Shown, Set, Leave, ClientReplica, Row, row_of, seen, shown_for, own_shown, look_at}
use Rattle.seam_view.specs.declared.Seen.{Seen}
use Rattle.seam_view.specs.declared.Look.{Look}
use Rattle.seam_view.specs.declared.Look.TheVariants as look
use Rattle.seam_view.specs.Replica.{seen_of}
use Rattle.seam_view.specs.ViewLooks.{has_changed}
use Rattle.seam_view.specs.Plain.{is_gone, is_new}
use Rattle.seam_judge_looks.specs.LookParts.{leave_of, set_of, enter_of}

-- what is made of those that pass a test
made_of_passed : {A B C : Type 0} (f : B → Option C) (g : A → B) (test : A → Bool) (xs : List A) →
    filter_map f (map g (filter test xs)) ≡ filter_map (λ x. cond (test x) (f (g x)) None) xs
made_of_passed f g test [] = refl
made_of_passed {A} {B} {C} f g test (x ∷ xs) = by (test x) (made_of_passed f g test xs)
  where
    rest : List C
    rest = filter_map (λ y. cond (test y) (f (g y)) None) xs

    by : (b : Bool) → filter_map f (map g (filter test xs)) ≡ rest →
        filter_map f (map g (cond b (x ∷ filter test xs) (filter test xs))) ≡ cons_option (cond b (f (g x)) None) rest
    by true again = ap (cons_option (f (g x))) again
    by false again = again

made_of_each : {A B C : Type 0} (make : B → Option C) (f : A → B) (xs : List A) →
    filter_map make (map f xs) ≡ filter_map (λ x. make (f x)) xs
made_of_each make f [] = refl
made_of_each make f (x ∷ xs) = ap (cons_option (make (f x))) (made_of_each make f xs)

seen_is : (rows : List Row) (e : ℕ) → seen_of e (map seen rows) ≡ option_map seen (row_of rows e)
seen_is [] e = refl
seen_is (x ∷ xs) e = by (x.entity == e) (seen_is xs e)
  where
    by : (b : Bool) → seen_of e (map seen xs) ≡ option_map seen (row_of xs e) →
        cond b (Some (seen x)) (seen_of e (map seen xs)) ≡ option_map seen (cond b (Some x) (row_of xs e))
    by true again = refl
    by false again = again

module _ (c : ClientReplica) (own : Pos) (others : List Row) where
  leaves_are : (es : List (ℕ × ℕ)) →
      filter_map (shown_for others) (map (λ p. look.Leave p.0) (filter (λ p. is_gone c.others own (seen_of p.0 (map seen others))) es))
      ≡ filter_map (leave_of c own others) es
  leaves_are es =
      made_of_passed (shown_for others) (λ (p : ℕ × ℕ). look.Leave p.0) (λ p. is_gone c.others own (seen_of p.0 (map seen others))) es
      ∙ ap (λ (f : ℕ × ℕ → Option Shown). filter_map f es)
      (λ i p. cond (is_gone c.others own (seen_is others p.0 i)) (Some (Leave p.0)) None)

  sets_are : (es : List (ℕ × ℕ)) →
      filter_map (shown_for others)
      (map (λ p. look.Set p.0) (filter (λ p. has_changed c.others own p.1 (seen_of p.0 (map seen others))) es))
      ≡ filter_map (set_of c own others) es
  sets_are es =
      made_of_passed (shown_for others) (λ (p : ℕ × ℕ). look.Set p.0) (λ p. has_changed c.others own p.1 (seen_of p.0 (map seen others))) es
      ∙ ap (λ (f : ℕ × ℕ → Option Shown). filter_map f es)
      (λ i p. cond (has_changed c.others own p.1 (seen_is others p.0 i)) (option_map (λ r. Set p.0 r.other) (row_of others p.0)) None)

  enters_are : (es : List Row) →
      filter_map (shown_for others) (map (λ s. look.Enter s.entity) (filter (is_new c.others own) (map seen es)))
      ≡ filter_map (enter_of c own others) es
  enters_are es =
      made_of_passed (shown_for others) (λ (s : Seen). look.Enter s.entity) (is_new c.others own) (map seen es)
      ∙ made_of_each (λ (s : Seen). cond (is_new c.others own s) (shown_for others (look.Enter s.entity)) None) seen es

-- a look is the own line, those that leave, those that are set, and those that enter
pub look_is : (c : ClientReplica) (r : Row) (others : List Row) →
    look_at c r others
    ≡ own_shown c r ++ (filter_map (leave_of c r.own.pos others) c.others.entries ++ filter_map (set_of c r.own.pos others) c.others.entries
    ++ filter_map (enter_of c r.own.pos others) others)
look_is c r others =
    let own : Pos = r.own.pos in
    let left : List Look =
    map (λ p. look.Leave p.0) (filter (λ p. is_gone c.others own (seen_of p.0 (map seen others))) c.others.entries) in
    let set : List Look =
    map (λ p. look.Set p.0) (filter (λ p. has_changed c.others own p.1 (seen_of p.0 (map seen others))) c.others.entries) in
    let entered : List Look = map (λ s. look.Enter s.entity) (filter (is_new c.others own) (map seen others)) in
    ap (λ (xs : List Shown). own_shown c r ++ xs)
    (filter_map-append (shown_for others) (left ++ set) entered
    ∙ ap (λ (xs : List Shown). xs ++ filter_map (shown_for others) entered) (filter_map-append (shown_for others) left set)
    ∙ (λ i. leaves_are c own others c.others.entries i ++ sets_are c own others c.others.entries i ++ enters_are c own others others i))

regrouped : (a b c d : List Shown) → ((a ++ b) ++ c) ++ d ≡ a ++ ((b ++ c) ++ d)
regrouped a b c d = simp append_assoc

-- what is put together of these parts is the look
pub assembled : (c : ClientReplica) (r : Row) (others : List Row) (own : Pos) (es fs : List (ℕ × ℕ))
    (first left set entered one two three : List Shown) → own ≡ r.own.pos → es ≡ c.others.entries → fs ≡ c.others.entries →
    first ≡ own_shown c r → left ≡ filter_map (leave_of c own others) es → set ≡ filter_map (set_of c own others) fs →
    entered ≡ filter_map (enter_of c own others) others → one ≡ first ++ left → two ≡ one ++ set → three ≡ two ++ entered →
    three ≡ look_at c r others
assembled c r others own es fs first left set entered one two three at es_are fs_are own_is left_is set_is entered_is one_is two_is three_is
    =
    three_is ∙ ap (λ (xs : List Shown). xs ++ entered) (two_is ∙ ap (λ (xs : List Shown). xs ++ set) one_is)
    ∙ (λ i. ((own_is i ++ (left_is ∙ (λ j. filter_map (leave_of c (at j) others) (es_are j))) i)
    ++ (set_is ∙ (λ j. filter_map (set_of c (at j) others) (fs_are j))) i)
    ++ (entered_is ∙ (λ j. filter_map (enter_of c (at j) others) others)) i)
    ∙ regrouped (own_shown c r) (filter_map (leave_of c r.own.pos others) c.others.entries)
    (filter_map (set_of c r.own.pos others) c.others.entries) (filter_map (enter_of c r.own.pos others) others)
    ∙ sym (look_is c r others)
