-- Two rounds without a tick that begin alike and execute the same tell each client the same.
use Rattle.std.proofs.Common.{◌≡◌, ◌+◌, ℕ, Bool, true, false, cond, List, [], ◌∷◌, ◌++◌, length, map, Option, None, Some, refl}
use Rattle.std.proofs.Common.{sym, ap, ◌∙◌, subst}
use Rattle.std.proofs.Common.{arith, drop, get_or}
use Rattle.std.specs.Prelude.{◌==◌, filter, is_some, ◌&&◌, not}
use Rattle.std.specs.List.{range_with_len, AllByRecursion, list_any}
use Rattle.std.proofs.lemmas.List.{length-map}
use Rattle.std.proofs.lemmas.List.Elements.{recursion_from_All}
use Rattle.seam_rule_rounds.specs.Prelude.{Create, ClientText, Header, Orders, new_client, after_lines, Row, one_look, Book, entries}
use Rattle.seam_rule_rounds.specs.Prelude.{creates_of, created_as, joins, was_dead, is_shown, has_tick, rows_of, Standing, replica_of}
use Rattle.seam_rule_rounds.specs.Prelude.{ClientLine, RoundData, told_in, base_versions, base_shown, texts_to, base_texts, IsRound}
use Rattle.seam_call.specs.declared.shown.Line.{Line}
use Rattle.seam_call.specs.declared.shown.ClientText.TheVariants as text
use Rattle.seam_rule_lines.proofs.InOrderLemmas.{found_entity}
use Rattle.seam_rule_rounds.proofs.Public.{one_table}

-- lines with the same numbers and texts are the same
same_lines : (xs ys : List Line) → map (λ l. l.number) xs ≡ map (λ l. l.number) ys → map (λ l. l.text) xs ≡ map (λ l. l.text) ys → xs ≡ ys
same_lines [] [] numbers texts = refl
same_lines [] (y ∷ ys) numbers texts = cc
same_lines (x ∷ xs) [] numbers texts = cc
same_lines (x ∷ xs) (y ∷ ys) numbers texts =
    let number : x.number ≡ y.number = ap (λ (ns : List ℕ). get_or ns 0 0) numbers in
    let told : x.text ≡ y.text = ap (λ (ts : List ClientText). get_or ts 0 x.text) texts in
    let rest = same_lines xs ys (ap (drop 1) numbers) (ap (drop 1) texts) in
    λ i. record { number = number i; text = told i } ∷ rest i

-- a client that is none of the round is told nothing
none_to : (e : ℕ) (test : ℕ → Bool) (ls : List ClientLine) → test e ≡ false → AllByRecursion (λ (l : ClientLine). test l.entity ≡ true) ls →
    filter (λ (l : ClientLine). l.entity == e) ls ≡ []
none_to e test [] not all = refl
none_to e test (l ∷ ls) not (is, all) = by (l.entity == e) refl (none_to e test ls not all)
  where
    rest : List ClientLine
    rest = filter (λ (x : ClientLine). x.entity == e) ls

    by : (b : Bool) → (l.entity == e) ≡ b → rest ≡ [] → cond b (l ∷ rest) rest ≡ []
    by true at none =
        let same : l.entity ≡ e = grind (arith, at) in
        let no : true ≡ false = sym is ∙ ap test same ∙ not in
        cc
    by false at none = none

nothing_told : (h : Header) (s t : Standing) (r : RoundData) → IsRound h s r t → (e : ℕ) → is_shown s.book e ≡ false → told_in r e ≡ []
nothing_told h s t r round e not =
    ap (map (λ (l : ClientLine). l.line))
    (none_to e (is_shown s.book) r.shown not
    (recursion_from_All (λ (l : ClientLine). is_shown s.book l.entity ≡ true) r.shown round.shown.only))

-- who has a client in the round was made
first_of : (x y : Bool) → (x && y) ≡ true → x ≡ true
first_of true y is = refl
first_of false y is = is

shown_was_made : (b : Book) (e : ℕ) → is_shown b e ≡ true → (c : Create) × (created_as b e ≡ Some c)
shown_was_made b e is =
    by (created_as b e) refl
    (first_of (is_some (created_as b e)) (list_any (joins e) (entries b))
    (first_of (is_some (created_as b e) && list_any (joins e) (entries b)) (not (was_dead b e)) is))
  where
    by : (o : Option Create) → created_as b e ≡ o → is_some (created_as b e) ≡ true → (c : Create) × (created_as b e ≡ Some c)
    by (Some c) at some = (c, at)
    by None at some = let no : false ≡ true = sym (ap is_some at) ∙ some in cc

with_orders : Standing → Orders → Standing
with_orders s o = record s { orders = o }

module _ (h : Header) (s t u : Standing) (r q : RoundData) (none : has_tick s.book ≡ false) (one : IsRound h s r t)
    (other : IsRound h s q u) (same : t.orders ≡ u.orders) where
  rows : rows_of h t.orders one.live ≡ rows_of h u.orders other.live
  rows = one_table h s.book t.orders one.live other.live one.listed other.listed ∙ ap (λ (o : Orders). rows_of h o other.live) same

  module _ (c : Create) (e : ℕ) (entity : c.entity ≡ e) (is : is_shown s.book c.entity ≡ true) (made : created_as s.book c.entity ≡ Some c)
    where
      bases : base_texts r c.entity ≡ base_texts q c.entity
      bases =
          (one.shown.each c made is).bases
          ∙ ap (λ (o : Orders). map (base_shown h (record s { orders = o }) c) (base_versions h s (record s { orders = o }) c)) same
          ∙ sym (other.shown.each c made is).bases

      texts : texts_to r c.entity ≡ texts_to q c.entity
      texts =
          one.looked.one_each none c.entity is
          ∙ ap (λ (bs : List ClientText). bs ++ map text.Shown
          (one_look (replica_of h s c.entity) c.entity (rows_of h t.orders one.live))) bases
          ∙ ap (λ (x : List Row). base_texts q c.entity ++ map text.Shown (one_look (replica_of h s c.entity) c.entity x)) rows
          ∙ sym (other.looked.one_each none c.entity is)

      count : length (told_in r c.entity) ≡ length (told_in q c.entity)
      count =
          sym (length-map (told_in r c.entity) (λ (l : Line). l.text)) ∙ ap length texts
          ∙ length-map (told_in q c.entity) (λ (l : Line). l.text)

      numbers : map (λ (l : Line). l.number) (told_in r c.entity) ≡ map (λ (l : Line). l.number) (told_in q c.entity)
      numbers =
          (one.shown.each c made is).numbers ∙ ap (range_with_len (length (s.told c.entity) + 1)) count
          ∙ sym (other.shown.each c made is).numbers

      told_here : told_in r c.entity ≡ told_in q c.entity
      told_here = same_lines (told_in r c.entity) (told_in q c.entity) numbers texts

      told_to : told_in r e ≡ told_in q e
      told_to = subst (λ (n : ℕ). told_in r n ≡ told_in q n) entity told_here

  told_same : (e : ℕ) (b : Bool) → is_shown s.book e ≡ b → told_in r e ≡ told_in q e
  told_same e false is = nothing_told h s t r one e is ∙ sym (nothing_told h s u q other e is)
  told_same e true is =
      let made = shown_was_made s.book e is in
      let entity : made.0.entity ≡ e = found_entity (creates_of (entries s.book)) e made.0 made.1 in
      told_to made.0 e entity (ap (is_shown s.book) entity ∙ is) (ap (created_as s.book) entity ∙ made.1)

  pub told_is_one : (e : ℕ) → t.told e ≡ u.told e
  told_is_one e =
      one.shown.told e ∙ ap (λ (ls : List Line). s.told e ++ ls) (told_same e (is_shown s.book e) refl) ∙ sym (other.shown.told e)

  pub replica_is_one : (e : ℕ) → replica_of h t e ≡ replica_of h u e
  replica_is_one e = ap (after_lines (new_client h.settings)) (told_is_one e)
