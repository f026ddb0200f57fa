-- The round of two chests is legal.
use Rattle.std.proofs.Common.{◌≡◌, ◌⊎◌, ◌&&◌, ◌||◌, ℕ, zero, suc, Bool, true, false, cond, [], ◌∷◌, ◌++◌, map}
use Rattle.std.proofs.Common.{get_or, None, Some, refl, sym, ap, ◌∙◌, subst, arith, inl, inr}
use Rattle.std.specs.Prelude.{◌==◌, Contains, is_some}
use Rattle.std.specs.FinMap as table
use Rattle.std.specs.FinSet as set
use Rattle.std.specs.Ordering.{nat_cmp}
use Rattle.std.specs.List.Sorted.{IsStrictlyIncreasing}
use Rattle.std.proofs.lemmas.List.Elements.{All-cons, All-nil, All-from_recursion}
use Rattle.std.proofs.lemmas.List.Sorted.{IsNonDecreasingBy-from_default}
use Rattle.std.proofs.lemmas.Option.{same_Some, none-some}
use Rattle.std.proofs.lemmas.Bool.{eqb-true}
use Rattle.seam_rule_rounds.specs.Prelude.{Cells, contains_insert_nat, Create, Lists, created_as, is_shown, HasPlace, ghost_cells}
use Rattle.seam_rule_rounds.specs.Prelude.{ClientLine, one_look, rows_of, replica_of, ShowsClient, HasShown, HasLooked, texts_to}
use Rattle.seam_rule_rounds.specs.Prelude.{base_texts, ghost_lines, IsRound, round_text, header, halves, second, begun, ended, round}
use Rattle.seam_rule_rounds.specs.Prelude.{text_of_round}
use Rattle.seam_defs.specs.declared.flags.Part.TheVariants as part
use Rattle.seam_rule_lines.proofs.Lists.{contains_first, contains_later, contains_cases}
use Rattle.seam_rule_lines.proofs.InOrderLemmas.{extends}
use Rattle.seam_call.specs.declared.shown.ClientText.TheVariants as text
use Rattle.seam_value.specs.Values.{decimal_of}
use Rattle.seam_rule_rounds.specs.TwoChests.{first, own_line, other_line, live}
use Rattle.seam_rule_rounds.specs.TwoChests.{place_of}

-- who is found among the two
found : (c : Create) → cond (1 == c.entity) (Some first) (cond (2 == c.entity) (Some second) None) ≡ Some c → (first ≡ c) ⊎ (second ≡ c)
found c is = by (1 == c.entity) (2 == c.entity) is
  where
    by : (x y : Bool) → cond x (Some first) (cond y (Some second) None) ≡ Some c → (first ≡ c) ⊎ (second ≡ c)
    by true y is = inl (same_Some first c is)
    by false true is = inr (same_Some second c is)
    by false false is = absurd (none-some c is)

in_live : (c : Create) → (first ≡ c) ⊎ (second ≡ c) → Contains live c
in_live c (inl is) = subst (Contains live) is (contains_first first (second ∷ []))
in_live c (inr is) = subst (Contains live) is (contains_later first second (second ∷ []) (contains_first second []))

of_live : (c : Create) → Contains live c → (first ≡ c) ⊎ (second ≡ c)
of_live c has = by (contains_cases first c (second ∷ []) has)
  where
    last : (second ≡ c) ⊎ Contains [] c → second ≡ c
    last (inl is) = is
    last (inr (k, within, is)) = absurd (omega (arith, within))

    by : (first ≡ c) ⊎ Contains (second ∷ []) c → (first ≡ c) ⊎ (second ≡ c)
    by (inl is) = inl is
    by (inr has) = inr (last (contains_cases second c [] has))

was_created : (c : Create) → (first ≡ c) ⊎ (second ≡ c) → created_as begun.book c.entity ≡ Some c
was_created c (inl is) = subst (λ (d : Create). created_as begun.book d.entity ≡ Some d) is refl
was_created c (inr is) = subst (λ (d : Create). created_as begun.book d.entity ≡ Some d) is refl

rise : IsStrictlyIncreasing (1 ∷ 2 ∷ [])
rise zero within = omega arith
rise (suc k) within = absurd (omega (arith, within))

listed : Lists (created_as begun.book) live
listed = record {
  rising = rise;
  exact = λ c. ((λ has. was_created c (of_live c has)), (λ is. in_live c (found c is)));
}

-- ---- ghosts

two_cells : (home : ℕ) (g : Cells) (x y : Bool) → set.contains g 0 ≡ x → set.contains g 1 ≡ y →
    ghost_cells halves (record { home = home; ghosts = g }) ≡ cond x (0 ∷ cond y (1 ∷ []) []) (cond y (1 ∷ []) [])
two_cells home g x y first_is second_is = λ i. cond (first_is i) (0 ∷ cond (second_is i) (1 ∷ []) []) (cond (second_is i) (1 ∷ []) [])

abbrev none : Cells
none = set.empty

pub not_in : (k q : ℕ) → (q == k) ≡ false → set.contains (set.insert none k) q ≡ false
not_in k q is = contains_insert_nat none k q ∙ ap (λ (b : Bool). b || set.contains none q) is ∙ set.contains-empty nat_cmp q

pub is_in : (k : ℕ) → (k == k) ≡ true → set.contains (set.insert none k) k ≡ true
is_in k is = contains_insert_nat none k k ∙ ap (λ (b : Bool). b || set.contains none k) is

ghosts_of_first : ghost_cells halves (place_of 1) ≡ 1 ∷ []
ghosts_of_first = two_cells 0 (set.insert set.empty 1) false true (not_in 1 0 refl) (is_in 1 refl)

ghosts_of_second : ghost_cells halves (place_of 2) ≡ 0 ∷ []
ghosts_of_second = two_cells 1 (set.insert set.empty 0) true false (is_in 0 refl) (not_in 0 1 refl)

ghosts : round.ghosts ≡ ghost_lines header halves ended first ++ (ghost_lines header halves ended second ++ [])
ghosts =
    let back_first = sym ghosts_of_first in
    let back_second = sym ghosts_of_second in
    λ i. map (λ (cell : ℕ). record { entity = 1; cell = cell; version = 0 }) (back_first i)
    ++ (map (λ (cell : ℕ). record { entity = 2; cell = cell; version = 1 }) (back_second i) ++ [])

-- ---- the client

is_first : (e : ℕ) → is_shown begun.book e ≡ true → 1 ≡ e
is_first e is = eqb-true 1 e (by (1 == e) (2 == e) is)
  where
    by : (x y : Bool) → (is_some (cond x (Some first) (cond y (Some second) None)) && (x || false) && true) ≡ true → x ≡ true
    by true y is = refl
    by false true is = is
    by false false is = is

shows : ShowsClient header begun round ended first
shows = record {
  types = All-from_recursion (λ (l : ClientLine). l.ty ≡ 1) (own_line ∷ other_line ∷ []) (refl, (refl, tt));
  numbers = refl;
  right = record {
    in_turn = (
      refl,
      (
        record {
          another = λ same. absurd (omega (arith, same));
          away = refl;
          not_older = λ v old. absurd (none-some v (sym (table.get-empty nat_cmp 2) ∙ old));
          near = omega arith;
        },
        tt,
      ),
    );
    true_ = (
      ((omega arith, omega arith), refl),
      (record { made = second; is = refl; lived = refl; version = 1; had = (omega arith, omega arith); same = refl }, tt),
    );
  };
  bases = refl;
}

each_is : (n i : ℕ) → get_or (n ∷ n ∷ []) i n ≡ n
each_is n zero = refl
each_is n (suc zero) = refl
each_is n (suc (suc i)) = refl

shown : HasShown header begun round ended
shown = record {
  rising = IsNonDecreasingBy-from_default (λ (n : ℕ). n) (1 ∷ 1 ∷ []) 1
      (λ i j low high. let x = each_is 1 i in let y = each_is 1 j in omega (arith, x, y));
  only = All-from_recursion (λ (l : ClientLine). is_shown begun.book l.entity ≡ true) (own_line ∷ other_line ∷ []) (refl, (refl, tt));
  each = λ c made is. by c (found c made) is;
  told = λ e. refl;
}
  where
    by : (c : Create) → (first ≡ c) ⊎ (second ≡ c) → is_shown begun.book c.entity ≡ true → ShowsClient header begun round ended c
    by c (inl same) is = subst (λ (d : Create). ShowsClient header begun round ended d) same shows
    by c (inr same) is =
        let number = is_first c.entity is in
        let other = ap (λ (d : Create). d.entity) same in
        absurd (omega (arith, number, other))

looked : HasLooked header begun round ended live
looked = record {
  nothing_left = λ e is. subst (λ (n : ℕ). one_look (replica_of header ended n) n (rows_of header ended.orders live) ≡ [])
      (is_first e is) refl;
  one_each = λ none e is. subst (λ (n : ℕ). texts_to round n
      ≡ base_texts round n ++ map text.Shown (one_look (replica_of header begun n) n (rows_of header ended.orders live)))
      (is_first e is) refl;
}

pub legal : IsRound header begun round ended
legal = record {
  number = refl;
  did = extends begun.book part.Cell live (begun.orders part.Cell) listed (λ e. refl);
  dob = extends begun.book part.Base live (begun.orders part.Base) listed (λ e. refl);
  live = live;
  listed = listed;
  places = All-cons (HasPlace header begun ended) first (second ∷ []) (inl refl)
      (All-cons (HasPlace header begun ended) second [] (inl refl) (All-nil (HasPlace header begun ended)));
  homes = refl;
  bases = refl;
  ghosts = ghosts;
  shown = shown;
  looked = looked;
  bounds = (refl, refl);
  lines = refl;
  rounds = refl;
}

pub written : round_text header.defs round ≡ text_of_round
unfolding decimal_of
written = refl
