-- What is read of each entity, gathered over lists of them.
use Rattle.seam_law_transcript.proofs.Prelude.{◌≡◌, ℕ, ◌+◌, ◌<◌, List, [], ◌∷◌, ◌++◌, map, Some, refl, ap, ◌∙◌, arith, Contains, slice_get}
use Rattle.seam_law_transcript.proofs.Prelude.{slice_index_or, All, flat_map, All-nil, All-cons, cell_count, RealView, World, in_first_cell}
use Rattle.seam_law_transcript.proofs.Prelude.{Frame, real_at, IsBetweenRounds, place_of, real_here, home_if, homes_read, place_read}
use Rattle.seam_law_transcript.proofs.Prelude.{contains_first, contains_later, one_in, real_is}
use Rattle.seam_law_book.specs.Prelude.{home_read}
use Rattle.seam_law_transcript.specs.Reading.{place_if}

-- ---- over a list

module _ {A X : Type 0} where
  pub one_of_each : (g : A → List X) (k : A → X) (xs : List A) → ((x : A) → Contains xs x → g x ≡ k x ∷ []) → flat_map g xs ≡ map k xs
  one_of_each g k [] each = refl
  one_of_each g k (x ∷ xs) each =
      (λ i. each x (contains_first x xs) i ++ one_of_each g k xs (λ y has. each y (contains_later x y xs has)) i)

  pub same_of_each : (g k : A → List X) (xs : List A) → ((x : A) → Contains xs x → g x ≡ k x) → flat_map g xs ≡ flat_map k xs
  same_of_each g k [] each = refl
  same_of_each g k (x ∷ xs) each =
      (λ i. each x (contains_first x xs) i ++ same_of_each g k xs (λ y has. each y (contains_later x y xs has)) i)

pub all_of_each : {A : Type 0} (P : A → Type 0) (xs : List A) → ((x : A) → Contains xs x → P x) → All P xs
all_of_each P [] each = All-nil P
all_of_each P (x ∷ xs) each =
    All-cons P x xs (each x (contains_first x xs)) (all_of_each P xs (λ y has. each y (contains_later x y xs has)))

-- ---- of an entity whose real is in a cell

module _ (f : Frame) (v : World) (between : IsBetweenRounds f v) (e k : ℕ) (r : RealView) (at : real_at e v k ≡ Some r) where
  in_cells : k < 0 + cell_count
  in_cells =
      let home = (between.settled e k r at).fits.home in
      let most = between.frame.tree.cells_to in
      omega (arith, home, most)

  pub home_is : homes_read v e ≡ home_read e k r ∷ []
  home_is =
      one_in (λ j. home_if e j (real_here e (slice_get v.nodes j))) k 0 cell_count (omega arith) in_cells
      (λ j n. ap (home_if e j) (real_is e v j ∙ (between.settled e k r at).others j n))
      ∙ ap (home_if e k) (real_is e v k ∙ at)

  pub place_is : place_read v e ≡ place_of k r
  place_is =
      ap (λ l. slice_index_or l 0 in_first_cell)
      (one_in (λ j. place_if j (real_here e (slice_get v.nodes j))) k 0 cell_count (omega arith) in_cells
      (λ j n. ap (place_if j) (real_is e v j ∙ (between.settled e k r at).others j n))
      ∙ ap (place_if k) (real_is e v k ∙ at))
