-- A net as one entity sees it, and a step of it: what each node has of the entity, and the letters about it in each link.
use Rattle.std.specs.Prelude.{◌≡◌, ℕ, ◌==◌, ◌&&◌, if◌then◌else◌, List, [], ◌∷◌, ◌++◌, Option, None, Some, slice_get}
use Rattle.seam_machine.specs.Views.{NetView}
use Rattle.seam_machine.specs.Nets.{link}
use Rattle.seam_machine.specs.declared.machines.Input.{Input}
use Rattle.seam_machine.specs.declared.machines.Input.TheVariants.{Task, From}

-- slot k is what node k has of the entity; mail a b are the letters about it in the link from a to b
pub record Flow (S L : Type 0) : Type 0 where
  pub slot : ℕ → S
  pub mail : ℕ → ℕ → List L

abbrev pub more_letter : {L : Type 0} → Option L → List L → List L
more_letter None ls = ls
more_letter (Some l) ls = l ∷ ls

-- the letters about the entity among the messages
abbrev pub letters_of : {T L : Type 0} → (T → Option L) → List T → List L
letters_of mine [] = []
letters_of mine (m ∷ ms) = more_letter (mine m) (letters_of mine ms)

-- what a node has of the entity, or the given slot where there is no node
abbrev pub slot_at : {N S : Type 0} → (N → S) → S → Option N → S
slot_at slot none None = none
slot_at slot none (Some s) = slot s

-- the net as the entity sees it
abbrev pub flow_of : {N T S L : Type 0} → (N → S) → S → (T → Option L) → NetView N T → Flow S L
flow_of slot none mine w = record { slot = λ k. slot_at slot none (slice_get w.nodes k); mail = λ a b. letters_of mine (link w.rows a b) }

-- the letter that an input brings
abbrev pub letter_in : {T L : Type 0} → (T → Option L) → Input T → Option L
letter_in mine Task = None
letter_in mine (From a m) = mine m

abbrev pub given_from : {L : Type 0} → ℕ → Option L → Option (ℕ × L)
given_from a None = None
given_from a (Some l) = Some (a, l)

-- the letter that an input brings, with the node that it comes from
abbrev pub letter_from : {T L : Type 0} → (T → Option L) → Input T → Option (ℕ × L)
letter_from mine Task = None
letter_from mine (From a m) = given_from a (mine m)

abbrev pub comes : {L : Type 0} → Option (ℕ × L) → Option L
comes None = None
comes (Some p) = Some p.1

-- the letter is the first of its link to node k, before the rest
abbrev pub IsHead : {L : Type 0} → (ℕ → ℕ → List L) → ℕ → Option (ℕ × L) → List L → Type 0
IsHead mail k None rest = Unit {0}
IsHead mail k (Some p) rest = mail p.0 k ≡ p.1 ∷ rest

-- what is left of the link from x to y after node k was fed its letter
abbrev pub mail_left : {L : Type 0} → (ℕ → ℕ → List L) → ℕ → Option (ℕ × L) → List L → ℕ → ℕ → List L
mail_left mail k None rest x y = mail x y
mail_left mail k (Some p) rest x y = if (x == p.0) && (y == k) then rest else mail x y

-- what node k, which sends out j to node j, adds to the link from x to y
abbrev pub mail_added : {L : Type 0} → (ℕ → List L) → ℕ → ℕ → ℕ → List L
mail_added out k x y = if x == k then out y else []

-- node k makes one of the moves; the other nodes stay, and each link is what was left and what was added
pub record Goes {S L : Type 0} (Moves : ℕ → S → Option L → S → (ℕ → List L) → Type 0) (w v : Flow S L) : Type 0 where
  pub k : ℕ
  pub input : Option (ℕ × L)
  pub rest : List L
  pub out : ℕ → List L
  pub head : IsHead w.mail k input rest
  pub moves : Moves k (w.slot k) (comes input) (v.slot k) out
  pub others : (j : ℕ) → (j ≡ k → ⊥) → v.slot j ≡ w.slot j
  pub mail_is : (x y : ℕ) → v.mail x y ≡ mail_left w.mail k input rest x y ++ mail_added out k x y
