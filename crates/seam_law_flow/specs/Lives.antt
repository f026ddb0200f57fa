-- A token that begins and ends: nowhere, or at one place.
use Rattle.std.specs.Prelude.{◌≡◌, ℕ, Option, None, Some}
use Rattle.seam_law_flow.specs.Flows.{Flow}
use Rattle.seam_law_flow.specs.Tokens.{TokenPlace, In, On, Sole, Nobody}

-- the one token is r, somewhere
pub record Somewhere {S L R : Type 0} (held : S → Option R) (carried : L → Option R) (w : Flow S L) (r : R) : Type 0 where
  pub place : TokenPlace
  pub sole : Sole held carried w place r

-- the token that there is, if any, is at one place
abbrev pub Lasts : {S L R : Type 0} → (S → Option R) → (L → Option R) → Flow S L → Option R → Type 0
Lasts held carried w None = Nobody held carried w
Lasts held carried w (Some r) = Somewhere held carried w r

-- in the slot of node b, or on its way there
abbrev pub IsToward : ℕ → TokenPlace → Type 0
IsToward b (In k) = k ≡ b
IsToward b (On x y) = y ≡ b

-- the one token is r, and it is at node b or on its way there
pub record Waits {S L R : Type 0} (held : S → Option R) (carried : L → Option R) (w : Flow S L) (b : ℕ) (r : R) : Type 0 where
  pub place : TokenPlace
  pub sole : Sole held carried w place r
  pub toward : IsToward b place

-- the token that there is, if any, is at node b or on its way there
abbrev pub Life : {S L R : Type 0} → (S → Option R) → (L → Option R) → Flow S L → ℕ → Option R → Type 0
Life held carried w b None = Nobody held carried w
Life held carried w b (Some r) = Waits held carried w b r
