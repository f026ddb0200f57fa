-- The ghost lines that are read off a world are those of the rules.
use Rattle.seam_law_book.proofs.Prelude.{◌≡◌, ℕ, zero, suc, ◌+◌, ◌<◌, ◌≤◌, Bool, true, false, cond, List, [], ◌∷◌, ◌++◌, map, length, refl}
use Rattle.seam_law_book.proofs.Prelude.{sym, ap, ◌∙◌, arith, filter, slice_get, flat_map, range_with_len, Division, cells_of, Create}
use Rattle.seam_law_book.proofs.Prelude.{GhostCopy, cell_count, RealView, World, copy_if, Header, public_at, GhostLine, ghost_cells}
use Rattle.seam_law_book.proofs.Prelude.{ghost_lines, Standing, RealFits, place_of, present, AreSettled, frame_of, IsInTable, ghost_read}
use Rattle.seam_law_book.proofs.Prelude.{ghosts_read, copy_here}
use Rattle.std.specs.FinSet as set
use Rattle.seam_defs.specs.declared.flags.Part.TheVariants as part
use Rattle.seam_law_book.proofs.Found.{copy_is}

is_false : (b : Bool) → (b ≡ true → ⊥) → b ≡ false
is_false true not = absurd (not refl)
is_false false not = refl

module _ (test : ℕ → Bool) where
  none_pass : (a n : ℕ) → ((j : ℕ) → a ≤ j → test j ≡ false) → filter test (range_with_len a n) ≡ []
  none_pass a zero none = refl
  none_pass a (suc n) none =
      ap (λ b. cond b (a ∷ filter test (range_with_len (a + 1) n)) (filter test (range_with_len (a + 1) n))) (none a (omega arith))
      ∙ none_pass (a + 1) n (λ j le. none j (omega (arith, le)))

  -- no number past the first ones passes
  first_pass : (a n m : ℕ) → n ≤ m → ((j : ℕ) → a + n ≤ j → test j ≡ false) →
      filter test (range_with_len a m) ≡ filter test (range_with_len a n)
  first_pass a zero m le none = none_pass a m (λ j from. none j (omega (arith, from)))
  first_pass a (suc n) zero le none = absurd (omega (arith, le))
  first_pass a (suc n) (suc m) le none =
      ap (λ l. cond (test a) (a ∷ l) l) (first_pass (a + 1) n m (omega (arith, le)) (λ j from. none j (omega (arith, from))))

  module _ (line : ℕ → GhostLine) (read : ℕ → List GhostLine) where
    joined : (b : Bool) (a : ℕ) (ks : List ℕ) → cond b (line a ∷ []) [] ++ map line ks ≡ map line (cond b (a ∷ ks) ks)
    joined true a ks = refl
    joined false a ks = refl

    -- a line is read for each number that passes
    read_are : (a n : ℕ) → ((j : ℕ) → j < a + n → read j ≡ cond (test j) (line j ∷ []) []) →
        flat_map read (range_with_len a n) ≡ map line (filter test (range_with_len a n))
    read_are a zero each = refl
    read_are a (suc n) each =
        ap (λ l. l ++ flat_map read (range_with_len (a + 1) n)) (each a (omega arith))
        ∙ ap (λ l. cond (test a) (line a ∷ []) [] ++ l) (read_are (a + 1) n (λ j lt. each j (omega (arith, lt))))
        ∙ joined (test a) a (filter test (range_with_len (a + 1) n))

-- the ghost line of an entity at a version, in a cell
abbrev ghost_line : ℕ → ℕ → ℕ → GhostLine
ghost_line e version k = record { entity = e; cell = k; version = version }

read_if : (e k : ℕ) (b : Bool) (c : GhostCopy) → ghost_read e k (copy_if b c) ≡ cond b (ghost_line e c.version k ∷ []) []
read_if e k true c = refl
read_if e k false c = refl

module _ (h : Header) (tree : Division) (v : World) (t : Standing) (c : Create) (k : ℕ) (q : RealView)
    (fits : RealFits (frame_of h tree) c.entity q.ty k q) (few : cells_of tree ≤ cell_count)
    (copies : AreSettled (frame_of h tree) c.entity k q v) (row : IsInTable h c (t.orders part.Cell c.entity) q)
    (there : t.places c.entity ≡ place_of k q) where
  abbrev haunted : ℕ → Bool
  haunted j = set.contains q.haunts j

  each_read : (j : ℕ) → j < cell_count →
      ghost_read c.entity j (copy_here c.entity (slice_get v.nodes j)) ≡ cond (haunted j) (ghost_line c.entity q.public j ∷ []) []
  each_read j lt =
      ap (ghost_read c.entity j) (copy_is c.entity v j ∙ copies.copies j lt) ∙ read_if c.entity j (haunted j) (present (frame_of h tree) q)

  beyond : (j : ℕ) → cells_of tree ≤ j → haunted j ≡ false
  beyond j le = is_false (haunted j) (λ is. let below = fits.haunts j is in omega (arith, below, le))

  pub ghosts_are : ghosts_read c.entity v ≡ ghost_lines h tree t c
  ghosts_are =
      let order = t.orders part.Cell c.entity in
      read_are haunted (ghost_line c.entity q.public) (λ j. ghost_read c.entity j (copy_here c.entity (slice_get v.nodes j))) 0 cell_count
      (λ j lt. each_read j (omega (arith, lt)))
      ∙ ap (map (ghost_line c.entity q.public)) (first_pass haunted 0 (cells_of tree) cell_count few (λ j le. beyond j (omega (arith, le))))
      ∙ ap (λ n. map (ghost_line c.entity n) (ghost_cells tree (place_of k q))) row.public
      ∙ ap (λ p. map (ghost_line c.entity (public_at h c order (length order))) (ghost_cells tree p)) (sym there)
