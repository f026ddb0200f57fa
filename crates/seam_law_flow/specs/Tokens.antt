-- A token of which there is one: a node's slot holds it, or a letter on its way carries it.
use Rattle.std.specs.Prelude.{◌≡◌, ℕ, ◌⊎◌, List, [], ◌∷◌, Option, None, Some}
use Rattle.seam_machine.specs.Views.{NetView}
use Rattle.seam_net_runs.specs.Weights.{weight}
use Rattle.seam_law_flow.specs.Flows.{Flow, letters_of}

-- the token that the letter carries, if a letter comes
abbrev pub carried_in : {L R : Type 0} → (L → Option R) → Option L → Option R
carried_in carried None = None
carried_in carried (Some l) = carried l

-- in the slot of a node, or on the link from one node to another
pub data TokenPlace : Type 0 where
  In : ℕ → TokenPlace
  On : ℕ → ℕ → TokenPlace

-- the slot of node k holds r, and no other slot and no letter has a token
pub record SoleIn {S L R : Type 0} (held : S → Option R) (carried : L → Option R) (w : Flow S L) (k : ℕ) (r : R) : Type 0 where
  pub here : held (w.slot k) ≡ Some r
  pub others : (j : ℕ) → (j ≡ k → ⊥) → held (w.slot j) ≡ None
  pub mail : (x y : ℕ) → letters_of carried (w.mail x y) ≡ []

-- one letter on the link from a to b carries r, and no slot and no other letter has a token
pub record SoleOn {S L R : Type 0} (held : S → Option R) (carried : L → Option R) (w : Flow S L) (a b : ℕ) (r : R) : Type 0 where
  pub slots : (j : ℕ) → held (w.slot j) ≡ None
  pub here : letters_of carried (w.mail a b) ≡ r ∷ []
  pub others : (x y : ℕ) → (x ≡ a → y ≡ b → ⊥) → letters_of carried (w.mail x y) ≡ []

-- the one token is r, and it is there
abbrev pub Sole : {S L R : Type 0} → (S → Option R) → (L → Option R) → Flow S L → TokenPlace → R → Type 0
Sole held carried w (In k) r = SoleIn held carried w k r
Sole held carried w (On a b) r = SoleOn held carried w a b r

-- no slot holds a token, and no letter carries one
pub record Nobody {S L R : Type 0} (held : S → Option R) (carried : L → Option R) (w : Flow S L) : Type 0 where
  pub slots : (j : ℕ) → held (w.slot j) ≡ None
  pub mail : (x y : ℕ) → letters_of carried (w.mail x y) ≡ []

-- a step sends no token
abbrev pub SendsNone : {L R : Type 0} → (L → Option R) → (ℕ → List L) → Type 0
SendsNone carried out = (j : ℕ) → letters_of carried (out j) ≡ []

-- a step sends one token, q to node `to`
pub record SendsOne {L R : Type 0} (carried : L → Option R) (out : ℕ → List L) (to : ℕ) (q : R) : Type 0 where
  pub here : letters_of carried (out to) ≡ q ∷ []
  pub others : (j : ℕ) → (j ≡ to → ⊥) → letters_of carried (out j) ≡ []

-- the token is the same, or an action made q of r
abbrev pub Turned : {R : Type 0} → (R → R → Type 0) → R → R → Type 0
Turned Acts r q = (q ≡ r) ⊎ Acts r q

-- what a step may do with the token: leave it, act on it in its slot, put into the slot the one that came, send off the one in the slot,
-- or pass on the one that came
pub data Handles {S L R : Type 0} (held : S → Option R) (carried : L → Option R) (Acts : R → R → Type 0) (s : S) (i : Option L) (t : S)
    (out : ℕ → List L) : Type 0 where
  still : held t ≡ held s → carried_in carried i ≡ None → SendsNone carried out → Handles held carried Acts s i t out
  turns : (r q : R) → held s ≡ Some r → held t ≡ Some q → Turned Acts r q → carried_in carried i ≡ None → SendsNone carried out
      → Handles held carried Acts s i t out
  lands : (r q : R) → carried_in carried i ≡ Some r → held t ≡ Some q → Turned Acts r q → SendsNone carried out
      → Handles held carried Acts s i t out
  leaves : (r q : R) (to : ℕ) → held s ≡ Some r → held t ≡ None → Turned Acts r q → carried_in carried i ≡ None
      → SendsOne carried out to q → Handles held carried Acts s i t out
  relays : (r q : R) (to : ℕ) → carried_in carried i ≡ Some r → held t ≡ held s → Turned Acts r q → SendsOne carried out to q
      → Handles held carried Acts s i t out

-- where the token is after a step of node k
abbrev pub place_after : {S L R : Type 0} {held : S → Option R} {carried : L → Option R} {Acts : R → R → Type 0} {s t : S} {i : Option L}
    {out : ℕ → List L} → ℕ → Handles held carried Acts s i t out → TokenPlace → TokenPlace
place_after k (still e n o) p = p
place_after k (turns r q a b c n o) p = p
place_after k (lands r q a b c o) p = In k
place_after k (leaves r q to a b c n o) p = On k to
place_after k (relays r q to a b c o) p = On k to

-- what the token is after the step
abbrev pub token_after : {S L R : Type 0} {held : S → Option R} {carried : L → Option R} {Acts : R → R → Type 0} {s t : S} {i : Option L}
    {out : ℕ → List L} → Handles held carried Acts s i t out → R → R
token_after (still e n o) x = x
token_after (turns r q a b c n o) x = q
token_after (lands r q a b c o) x = q
token_after (leaves r q to a b c n o) x = q
token_after (relays r q to a b c o) x = q

-- there is one token, and P is true of it
pub record HasOne {S L R : Type 0} (held : S → Option R) (carried : L → Option R) (P : R → Type 0) (w : Flow S L) : Type 0 where
  pub place : TokenPlace
  pub token : R
  pub sole : Sole held carried w place token
  pub fact : P token

-- 1 where there is a token
abbrev pub one_if : {R : Type 0} → Option R → ℕ
one_if None = 0
one_if (Some r) = 1

-- how many nodes hold a token and how many messages carry one
abbrev pub holders : {N T S L R : Type 0} → (N → S) → (T → Option L) → (S → Option R) → (L → Option R) → NetView N T → ℕ
holders slot mine held carried w = weight (λ s. one_if (held (slot s))) (λ k m. one_if (carried_in carried (mine m))) w
