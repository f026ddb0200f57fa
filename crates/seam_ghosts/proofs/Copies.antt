-- The copies of a book, as the entries of their table.
use Rattle.std.proofs.Common.{◌≡◌, ℕ, Bool, true, false, cond, ◌&&◌, T, List, [], ◌∷◌, Option, None, Some, refl, sym, ap, ◌∙◌, subst, arith}
use Rattle.std.specs.Prelude.{map as each}
use Rattle.std.specs.Map.{keys_of}
use Rattle.std.specs.Ordering.{nat_cmp, eq_by_cmp, is_lt}
use Rattle.std.specs.Cmp.{nat_cmp_total}
use Rattle.std.specs.FinMap as map
use Rattle.std.specs.FinMap.Entries.{is_sorted, below_all}
use Rattle.std.proofs.lemmas.Bool.Decides.{nat_tests}
use Rattle.seam_ghosts.specs.declared.Ghost.{Ghost}
use Rattle.seam_ghosts.specs.Book.{copy_in, with_copy, copied}
use Rattle.seam_ghosts.specs.declared.Held.{Held}
use Rattle.seam_ghosts.specs.Joined.{joined}
use Rattle.seam_ghosts.proofs.Joins.{copy_held, copy_joined}

both : (a b : Bool) → T a → T b → T (a && b)
both true b p q = q
both false b p q = p

first : (a b : Bool) → T (a && b) → T a
first true b p = tt
first false b p = p

second : (a b : Bool) → T (a && b) → T b
second true b p = p
second false b p = absurd p

not_tied : (q k : ℕ) → T (is_lt (nat_cmp q k)) → eq_by_cmp nat_cmp q k ≡ false
not_tied q k below = grind (arith, nat_tests)

-- the copy that an entry holds
abbrev held_copy : {P : Type 0} → ℕ × Held P → ℕ × P
held_copy h = (h.0, h.1.copy)

module _ {P : Type 0} where
  copied_below : (k : ℕ) (x : ℕ) (c : Option P) (es : List (ℕ × P)) → T (is_lt (nat_cmp k x)) → T (below_all nat_cmp k es) →
      T (below_all nat_cmp k (with_copy x c es))
  copied_below k x None es lt below = below
  copied_below k x (Some p) es lt below = both _ _ lt below

  all_below : (k : ℕ) (gs : List (ℕ × Ghost P)) → T (below_all nat_cmp k gs) → T (below_all nat_cmp k (copied gs))
  all_below k [] h = tt
  all_below k (g ∷ gs) h = copied_below k g.0 g.1.copy (copied gs) (first _ _ h) (all_below k gs (second _ _ h))

  sorted_with : (x : ℕ) (c : Option P) (es : List (ℕ × P)) → T (below_all nat_cmp x es) → T (is_sorted nat_cmp es) →
      T (is_sorted nat_cmp (with_copy x c es))
  sorted_with x None es below sorted = sorted
  sorted_with x (Some p) es below sorted = both _ _ below sorted

  copied_sorted : (gs : List (ℕ × Ghost P)) → T (is_sorted nat_cmp gs) → T (is_sorted nat_cmp (copied gs))
  copied_sorted [] h = tt
  copied_sorted (g ∷ gs) h =
      sorted_with g.0 g.1.copy (copied gs) (all_below g.0 gs (first _ _ h)) (copied_sorted gs (second _ _ h))

  none_below : (q : ℕ) (es : List (ℕ × P)) → T (below_all nat_cmp q es) → map.find nat_cmp q es ≡ None
  none_below q [] h = refl
  none_below q (x ∷ es) h =
      ap (λ b. cond b (Some x.1) (map.find nat_cmp q es)) (not_tied q x.0 (first _ _ h)) ∙ none_below q es (second _ _ h)

  find_with : (q x : ℕ) (c : Option P) (g : Ghost P) (es : List (ℕ × P)) (o : Option (Ghost P)) (t : Bool) → eq_by_cmp nat_cmp q x ≡ t →
      g.copy ≡ c → T (below_all nat_cmp x es) → map.find nat_cmp q es ≡ copy_in o →
      map.find nat_cmp q (with_copy x c es) ≡ copy_in (cond t (Some g) o)
  find_with q x None g es o true tied is below rest = ap (λ k. map.find nat_cmp k es) (same q x tied) ∙ none_below x es below ∙ sym is
    where
      same : (q x : ℕ) → eq_by_cmp nat_cmp q x ≡ true → q ≡ x
      same q x t = grind (arith, nat_tests)
  find_with q x None g es o false tied is below rest = rest
  find_with q x (Some p) g es o true tied is below rest = ap (λ b. cond b (Some p) (map.find nat_cmp q es)) tied ∙ sym is
  find_with q x (Some p) g es o false tied is below rest = ap (λ b. cond b (Some p) (map.find nat_cmp q es)) tied ∙ rest

  find_copied : (q : ℕ) (gs : List (ℕ × Ghost P)) → T (is_sorted nat_cmp gs) →
      map.find nat_cmp q (copied gs) ≡ copy_in (map.find nat_cmp q gs)
  find_copied q [] h = refl
  find_copied q (g ∷ gs) h =
      find_with q g.0 g.1.copy g.1 (copied gs) (map.find nat_cmp q gs) (eq_by_cmp nat_cmp q g.0) refl refl
      (all_below g.0 gs (first _ _ h)) (find_copied q gs (second _ _ h))

  -- a map that has the copies of ghosts, and nothing else, has them as its entries
  entries_copied : (m : map.FinMap nat_cmp (Ghost P)) (c : map.FinMap nat_cmp P) →
      ((q : ℕ) → copy_in (map.get m q) ≡ map.get c q) → copied (map.entries m) ≡ map.entries c
  entries_copied m c has =
      let gs = map.entries m in
      let sorted = copied_sorted gs (map.entries_sorted m) in
      let same : map.from_sorted {R = nat_cmp} (copied gs) ≡ c =
      map.same_map nat_cmp_total map.nat_cmp-IsAntisymmetric _ _ (λ q.
      map.get-from_sorted nat_cmp (copied gs) q sorted
      ∙ find_copied q gs (map.entries_sorted m)
      ∙ ap copy_in (sym (map.get-entries m q))
      ∙ has q) in
      sym (map.entries-from_sorted nat_cmp (copied gs) sorted) ∙ ap map.entries same

  -- ---- the copies of a table

  below_held : (k : ℕ) (hs : List (ℕ × Held P)) → below_all nat_cmp k (each held_copy hs) ≡ below_all nat_cmp k hs
  below_held k [] = refl
  below_held k (h ∷ hs) = ap (λ b. is_lt (nat_cmp k h.0) && b) (below_held k hs)

  sorted_held : (hs : List (ℕ × Held P)) → is_sorted nat_cmp (each held_copy hs) ≡ is_sorted nat_cmp hs
  sorted_held [] = refl
  sorted_held (h ∷ hs) = λ i. below_held h.0 hs i && sorted_held hs i

  find_held : (q : ℕ) (hs : List (ℕ × Held P)) → map.find nat_cmp q (each held_copy hs) ≡ copy_held (map.find nat_cmp q hs)
  find_held q [] = refl
  find_held q (h ∷ hs) = by (eq_by_cmp nat_cmp q h.0) (find_held q hs)
    where
      by : (t : Bool) → map.find nat_cmp q (each held_copy hs) ≡ copy_held (map.find nat_cmp q hs) →
          cond t (Some h.1.copy) (map.find nat_cmp q (each held_copy hs)) ≡ copy_held (cond t (Some h.1) (map.find nat_cmp q hs))
      by true is = refl
      by false is = is

  keys_held : (hs : List (ℕ × Held P)) → keys_of (each held_copy hs) ≡ keys_of hs
  keys_held [] = refl
  keys_held (h ∷ hs) = ap (λ ks. h.0 ∷ ks) (keys_held hs)

  -- the entities of the book that have copies are those of the table
  pub copies_joined : (copies : map.FinMap nat_cmp (Held P)) (dropped : map.FinMap nat_cmp ℕ) →
      keys_of (copied (map.entries (joined copies dropped))) ≡ map.keys copies
  copies_joined copies dropped =
      let hs = map.entries copies in
      let sorted : T (is_sorted nat_cmp (each held_copy hs)) = subst T (sym (sorted_held hs)) (map.entries_sorted copies) in
      let c : map.FinMap nat_cmp P = map.from_sorted (each held_copy hs) in
      ap keys_of (entries_copied (joined copies dropped) c (λ q.
      copy_joined copies dropped q
      ∙ ap copy_held (map.get-entries copies q)
      ∙ sym (find_held q hs)
      ∙ sym (map.get-from_sorted nat_cmp (each held_copy hs) q sorted)))
      ∙ ap keys_of (map.entries-from_sorted nat_cmp (each held_copy hs) sorted)
      ∙ keys_held hs
