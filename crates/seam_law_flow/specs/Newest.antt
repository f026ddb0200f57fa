-- A register at each node, written by letters: the entry of greatest key wins, and the newest one is the one that is wanted.
use Rattle.std.specs.Prelude.{◌≡◌, ℕ, ◌<◌, ◌⊎◌, nat_lt, if◌then◌else◌, List, [], ◌∷◌, Option, None, Some}
use Rattle.std.specs.List.{AllByRecursion}
use Rattle.seam_law_flow.specs.Flows.{Flow}

-- the entry has a smaller key, or is this one
abbrev pub NotAbove : {V : Type 0} → ℕ → V → ℕ × V → Type 0
NotAbove key c p = (p.0 < key) ⊎ ((p.0 ≡ key) × (p.1 ≡ c))

-- Q is true of the entry, if there is one
abbrev pub OfEntry : {V : Type 0} → (ℕ × V → Type 0) → Option (ℕ × V) → Type 0
OfEntry Q None = Unit {0}
OfEntry Q (Some p) = Q p

-- Q is true of each entry that the letters bring
abbrev pub AllBring : {L V : Type 0} → (L → Option (ℕ × V)) → (ℕ × V → Type 0) → List L → Type 0
AllBring brings Q ls = AllByRecursion (λ l. OfEntry Q (brings l)) ls

-- one of the letters brings the entry
abbrev pub Has : {L V : Type 0} → (L → Option (ℕ × V)) → ℕ × V → List L → Type 0
Has brings p [] = ⊥
Has brings p (l ∷ ls) = (brings l ≡ Some p) ⊎ Has brings p ls

-- the entry that an input brings
abbrev pub entry_in : {L V : Type 0} → (L → Option (ℕ × V)) → Option L → Option (ℕ × V)
entry_in brings None = None
entry_in brings (Some l) = brings l

-- the register after an entry came: the one of greater key, and the old one where they are equal
abbrev pub greater_entry : {V : Type 0} → ℕ × V → Option (ℕ × V) → ℕ × V
greater_entry e None = e
greater_entry e (Some p) = if nat_lt e.0 p.0 then p else e

-- of the entries in the register of node k and on their way there, the one of greatest key has that key and the value c
pub record Newest {S L V : Type 0} (entry : S → ℕ × V) (brings : L → Option (ℕ × V)) (w : Flow S L) (k key : ℕ) (c : V) : Type 0 where
  pub here : NotAbove key c (entry (w.slot k))
  pub away : (x : ℕ) → AllBring brings (NotAbove key c) (w.mail x k)
  pub found : (entry (w.slot k) ≡ (key, c)) ⊎ ((a : ℕ) × Has brings (key, c) (w.mail a k))
