-- What holds of all entries of a book that lines made.
use Rattle.seam_law_book.proofs.Prelude.{◌≡◌, ℕ, Bool, false, cond, List, [], ◌∷◌, ◌++◌, map, Some, None, refl, sym, ap, ◌∙◌, subst, arith}
use Rattle.seam_law_book.proofs.Prelude.{append-nil, eqb, filter, ◌==◌, ◌&&◌, ◌||◌, AllByRecursion, list_any, none-some, Division, IsTree}
use Rattle.seam_law_book.proofs.Prelude.{AreLegal, Part, is_for, is_from, same_part, IsSender, same_sender, rank_of, Sender, Call, Create}
use Rattle.seam_law_book.proofs.Prelude.{Header, Book, one_cell, entries, creates_of, calls_of, created_as, live_as, joins, destroys}
use Rattle.seam_law_book.proofs.Prelude.{with_entry, tree_of, Entry, IsOfLines, empty, accepts, ends, balances, as_begun, entity_of}
use Rattle.seam_law_book.proofs.Prelude.{made_among, IsSenderOf, calls_from, IsUntouched, differ, live_is_created, creates_with_entry}
use Rattle.seam_law_book.proofs.Prelude.{created_with, calls_with_entry, any_with, tree_with}
use Rattle.std.specs.List.{IsDistinct}
use Rattle.seam_call.specs.declared.sender.Sender.TheVariants as sender
use Rattle.seam_rule_lines.specs.declared.verdict.Entry.TheVariants as entry
use Rattle.seam_law_book.proofs.Proper.{IsProper, accepted_is_proper}
use Rattle.seam_law_book.proofs.Adding.{all_join, distinct_more, calls_from_more}
use Rattle.seam_law_book.proofs.Present.{both_none, unmade_apart}

-- ---- senders and their places

pub same_place : (s t : Sender) → IsSender s → IsSender t → same_sender s t ≡ (rank_of s == rank_of t)
same_place (sender.Base m) (sender.Base n) is too = refl
same_place (sender.Client d) (sender.Client e) is too = grind arith
same_place (sender.Base m) (sender.Client e) is too =
    sym (differ m (rank_of (sender.Client e)) (λ same. let most = is.most in omega (arith, same, most)))
same_place (sender.Client d) (sender.Base n) is too =
    sym (differ (rank_of (sender.Client d)) n (λ same. let most = too.most in omega (arith, same, most)))

abbrev pub IsFromSender : Call → Type 0
IsFromSender c = IsSender c.sender

module _ (p : Part) (e : ℕ) (s : Sender) (is : IsSender s) where
  -- the calls of a sender are those of its place
  pub accepted_by_place : (cs : List Call) → AllByRecursion IsFromSender cs → filter (is_from p e s) cs ≡ calls_from p e (rank_of s) cs
  accepted_by_place [] h = refl
  accepted_by_place (c ∷ cs) h =
      ap (λ x. cond (is_for p e c && x) (c ∷ filter (is_from p e s) cs) (filter (is_from p e s) cs)) (same_place c.sender s h.0 is)
      ∙ ap (λ l. cond (is_for p e c && (rank_of c.sender == rank_of s)) (c ∷ l) l) (accepted_by_place cs h.1)

-- a call to another entity is none of these
pub none_from : (p : Part) (e s : ℕ) (c : Call) → (c.entity ≡ e → ⊥) → calls_from p e s (c ∷ []) ≡ []
none_from p e s c other =
    ap (λ (x : Bool). cond ((x && same_part c.part p) && (rank_of c.sender == s)) (c ∷ []) []) (differ c.entity e other)

-- ---- all entries

pub record IsOrderly (h : Header) (b : Book) : Type 0 where
  -- each call is from a sender
  pub senders : AllByRecursion IsFromSender (calls_of (entries b))
  -- nothing is for a number that was not created
  pub untouched : (e : ℕ) → created_as b e ≡ None → IsUntouched b e
  -- each entity is created once
  pub once : IsDistinct eqb (map entity_of (creates_of (entries b)))
  -- its tree is one of the space
  pub tree : IsTree (tree_of b)
  pub space : (tree_of b).size ≡ h.settings.size

pub known_is_sender : (h : Header) (s : Sender) → IsSenderOf h s → IsSender s
known_is_sender h (sender.Base n) k = k.node
known_is_sender h (sender.Client e) k = tt

pub map_more : (xs ys : List Create) → map entity_of (xs ++ ys) ≡ map entity_of xs ++ map entity_of ys
map_more [] ys = refl
map_more (x ∷ xs) ys = ap (λ l. entity_of x ∷ l) (map_more xs ys)

module _ (h : Header) (b : Book) (was : IsOrderly h b) where
  module _ (x : Entry) where
    abbrev next : Book
    next = with_entry b x

    not_before : (e : ℕ) → created_as next e ≡ None → created_as b e ≡ None
    not_before e none =
        (both_none (created_as b e) (made_among (creates_of (x ∷ [])) e) (sym (created_with b x e) ∙ none)).0

    -- what the entry has for a number that was not created
    record Spares (e : ℕ) : Type 0 where
      calls : (p : Part) (s : ℕ) → calls_from p e s (calls_of (x ∷ [])) ≡ []
      client : joins e x ≡ false
      end : destroys e x ≡ false

    untouched_more : ((e : ℕ) → created_as b e ≡ None → Spares e) → (e : ℕ) → created_as next e ≡ None → IsUntouched next e
    untouched_more new e none =
        let old = was.untouched e (not_before e none) in
        let now = new e (not_before e none) in
        record {
          calls = λ p s. ap (calls_from p e s) (calls_with_entry b x)
              ∙ calls_from_more p e s (calls_of (entries b)) (calls_of (x ∷ []))
              ∙ ap (λ l. l ++ calls_from p e s (calls_of (x ∷ []))) (old.calls p s) ∙ now.calls p s;
          client = any_with (joins e) b x ∙ ap (λ y. y || joins e x) old.client ∙ now.client;
          end = any_with (destroys e) b x ∙ ap (λ y. y || destroys e x) old.end ∙ now.end;
        }

    senders_more : AllByRecursion IsFromSender (calls_of (x ∷ [])) → AllByRecursion IsFromSender (calls_of (entries next))
    senders_more new =
        subst (AllByRecursion IsFromSender) (sym (calls_with_entry b x))
        (all_join IsFromSender (calls_of (entries b)) (calls_of (x ∷ [])) was.senders new)

  lives_not : (e d : ℕ) (c : Create) → live_as b d ≡ Some c → created_as b e ≡ None → d ≡ e → ⊥
  lives_not e d c lives none same =
      none-some c (sym (ap (created_as b) same ∙ none) ∙ live_is_created b d c lives)

  spares_by : (x : Entry) → IsProper h b x → (e : ℕ) → created_as b e ≡ None → Spares x e
  spares_by (entry.Called c) k e none = record {
    calls = λ p s. none_from p e s c (lives_not e c.entity k.made k.lives none);
    client = refl;
    end = refl;
  }
  spares_by (entry.Joined d) k e none =
      record { calls = λ p s. refl; client = differ d e (lives_not e d k.made k.lives none); end = refl }
  spares_by (entry.Destroyed d) k e none =
      record { calls = λ p s. refl; client = refl; end = differ d e (lives_not e d k.0 k.1 none) }
  spares_by _ k e none = record { calls = λ p s. refl; client = refl; end = refl }

  from_senders : (x : Entry) → IsProper h b x → AllByRecursion IsFromSender (calls_of (x ∷ []))
  from_senders (entry.Called c) k = (known_is_sender h c.sender k.sender, tt)
  from_senders _ k = tt

  once_by : (x : Entry) → creates_of (x ∷ []) ≡ [] → IsDistinct eqb (map entity_of (creates_of (entries (with_entry b x))))
  once_by x none =
      subst (λ cs. IsDistinct eqb (map entity_of cs)) (sym (creates_with_entry b x
      ∙ ap (λ cs. creates_of (entries b) ++ cs) none ∙ append-nil (creates_of (entries b)))) was.once

  once_more : (x : Entry) → IsProper h b x → IsDistinct eqb (map entity_of (creates_of (entries (with_entry b x))))
  once_more (entry.Created c) k =
      subst (IsDistinct eqb) (sym (ap (map entity_of) (creates_with_entry b (entry.Created c))
      ∙ map_more (creates_of (entries b)) (c ∷ [])))
      (distinct_more (map entity_of (creates_of (entries b))) c.entity (unmade_apart c.entity (creates_of (entries b)) k.new) was.once)
  once_more m k = once_by m refl

  abbrev OfSpace : Division → Type 0
  OfSpace t = IsTree t × (t.size ≡ h.settings.size)

  tree_more : (x : Entry) → IsProper h b x → OfSpace (tree_of (with_entry b x))
  tree_more (entry.Divided t) k =
      let u = k was.tree in
      subst OfSpace (sym (tree_with b (entry.Divided t))) (u.tree, u.space ∙ was.space)
  tree_more m k = subst OfSpace (sym (tree_with b m)) (was.tree, was.space)

  orderly_more : (x : Entry) → IsProper h b x → IsOrderly h (with_entry b x)
  orderly_more x k =
      let tree = tree_more x k in
      record {
        senders = senders_more x (from_senders x k);
        untouched = untouched_more x (spares_by x k);
        once = once_more x k;
        tree = tree.0;
        space = tree.1;
      }

-- the entries of a book whose round ended are the same
orderly_same : (h : Header) (b c : Book) → entries c ≡ entries b → IsTree (tree_of c) → (tree_of c).size ≡ h.settings.size → IsOrderly h b →
    IsOrderly h c
orderly_same h b c same tree space was = record {
  senders = subst (λ xs. AllByRecursion IsFromSender (calls_of xs)) (sym same) was.senders;
  untouched = λ e none.
      let old = was.untouched e (sym (ap (λ xs. made_among (creates_of xs) e) same) ∙ none) in
      record {
        calls = λ p s. ap (λ xs. calls_from p e s (calls_of xs)) same ∙ old.calls p s;
        client = ap (list_any (joins e)) same ∙ old.client;
        end = ap (list_any (destroys e)) same ∙ old.end;
      };
  once = subst (λ xs. IsDistinct eqb (map entity_of (creates_of xs))) (sym same) was.once;
  tree = tree;
  space = space;
}

pub one_cell_tree : (h : Header) → AreLegal h.settings → IsTree (one_cell h.settings.size)
one_cell_tree h legal =
    let range = legal.in_range in
    record {
      size_from = range.some_size;
      size_to = range.size;
      cells_to = omega arith;
      cell_was_there = λ n lt. absurd (omega (arith, lt));
      none_empty = λ c lt. let some = range.some_size in record { wide = omega (arith, some); deep = omega (arith, some) };
    }

pub orderly : (h : Header) (b : Book) → AreLegal h.settings → IsOfLines h b → IsOrderly h b
unfolding IsDistinct
orderly h b legal empty =
    record {
      senders = tt;
      untouched = λ e none. record { calls = λ p s. refl; client = refl; end = refl };
      once = tt;
      tree = one_cell_tree h legal;
      space = refl;
    }
orderly h b legal (accepts was x of_lines line) =
    orderly_more h was (orderly h was legal of_lines) x (accepted_is_proper h was x line)
orderly h b legal (ends was of_lines) =
    let k = orderly h was legal of_lines in
    orderly_same h was b (append-nil (entries was)) k.tree k.space k
orderly h b legal (balances was t of_lines may) =
    let k = orderly h was legal of_lines in
    orderly_same h was b (append-nil (entries was)) may.tree (may.space ∙ k.space) k

-- lines made the book as its open round began
pub begun_of_lines : (h : Header) (b : Book) → IsOfLines h b → IsOfLines h (as_begun b)
begun_of_lines h b empty = empty
begun_of_lines h b (accepts was x of_lines line) = begun_of_lines h was of_lines
begun_of_lines h b (ends was of_lines) = ends was of_lines
begun_of_lines h b (balances was t of_lines may) = balances was t of_lines may
