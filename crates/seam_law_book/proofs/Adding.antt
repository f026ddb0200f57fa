-- What one more entry adds to the open round.
use Rattle.seam_law_book.proofs.Prelude.{◌≡◌, ℕ, ◌+◌, false, List, [], ◌∷◌, ◌++◌, length, sym, ap, ◌∙◌, arith, append-nil, length-append}
use Rattle.seam_law_book.proofs.Prelude.{Option, eqb, AllByRecursion, filter_map, filter-append, filter_map-append, Part, Call, Book}
use Rattle.seam_law_book.proofs.Prelude.{called, calls_of, with_entry, Entry, as_begun, calls_from, last_number, AreNumberedFrom}
use Rattle.std.specs.List.{IsDistinct}

-- ---- lists

pub all_join : {X : Type 0} (P : X → Type 0) (xs ys : List X) → AllByRecursion P xs → AllByRecursion P ys → AllByRecursion P (xs ++ ys)
all_join P [] ys h k = k
all_join P (x ∷ xs) ys h k = (h.0, all_join P xs ys h.1 k)

pub all_turn : {X : Type 0} (P Q : X → Type 0) → ((x : X) → P x → Q x) → (xs : List X) → AllByRecursion P xs → AllByRecursion Q xs
all_turn P Q turn [] h = tt
all_turn P Q turn (x ∷ xs) h = (turn x h.0, all_turn P Q turn xs h.1)

-- one more number that none of them is
pub distinct_more : (xs : List ℕ) (n : ℕ) → AllByRecursion (λ x. eqb x n ≡ false) xs → IsDistinct eqb xs → IsDistinct eqb (xs ++ n ∷ [])
unfolding IsDistinct
distinct_more [] n apart was = (tt, tt)
distinct_more (x ∷ xs) n apart was =
    (all_join (λ y. eqb x y ≡ false) xs (n ∷ []) was.0 (apart.0, tt), distinct_more xs n apart.1 was.1)

pub numbered_more : (n : ℕ) (cs : List Call) (c : Call) → AreNumberedFrom n cs → c.number ≡ n + length cs → AreNumberedFrom n (cs ++ c ∷ [])
numbered_more n [] c h is = (let e = is in omega (arith, e), tt)
numbered_more n (d ∷ cs) c h is = (h.0, numbered_more (n + 1) cs c h.1 (let e = is in omega (arith, e)))

-- ---- the open round

module _ {X : Type 0} (h : Entry → Option X) where
  -- what an entry brings comes last
  pub brought_more : (b : Book) (x : Entry) → filter_map h (with_entry b x).current ≡ filter_map h b.current ++ filter_map h (x ∷ [])
  brought_more b x = filter_map-append h b.current (x ∷ [])

module _ (p : Part) (e s : ℕ) where
  pub calls_from_more : (xs ys : List Call) → calls_from p e s (xs ++ ys) ≡ calls_from p e s xs ++ calls_from p e s ys
  calls_from_more xs ys = filter-append _ xs ys

-- the calls before the open round and in it are those of the book
pub counted : (b : Book) (p : Part) (e s : ℕ) →
    last_number b p e s ≡ last_number (as_begun b) p e s + length (calls_from p e s (calls_of b.current))
counted b p e s =
    ap (λ cs. length (calls_from p e s cs)) (filter_map-append called b.past b.current)
    ∙ ap length (calls_from_more p e s (calls_of b.past) (calls_of b.current))
    ∙ length-append (calls_from p e s (calls_of b.past)) (calls_from p e s (calls_of b.current))
    ∙ ap (λ xs. length (calls_from p e s (calls_of xs)) + length (calls_from p e s (calls_of b.current))) (sym (append-nil b.past))
