-- Texts of copies that were spelled.
use Rattle.std.specs.Prelude.{◌≡◌, ℕ, List, [], ◌∷◌, ◌++◌, codes, length, Option, Some}
use Rattle.std.specs.List.{AllByRecursion}
use Rattle.seam_rule_rounds.specs.Prelude.{type_of, TypeDef, GhostCopy, Own, Enter, Set, Leave, ClientText, field, state_text}
use Rattle.seam_defs.specs.declared.flags.Group.TheVariants as group
use Rattle.seam_call.specs.declared.shown.ClientText.TheVariants as text
use Rattle.seam_report.specs.declared.spellings.Spelling.{Spelling}

-- the version of a copy, and its state
abbrev pub copy_text : List TypeDef → GhostCopy → List ℕ
copy_text defs k = field k.version ++ state_text (type_of defs k.ty) group.Other k.state

-- an entity enters, of which there is a copy: its number, and the name of its type
abbrev pub enter_text : List TypeDef → ℕ → GhostCopy → List ℕ
enter_text defs e k = codes " enter" ++ field e ++ 32 ∷ (type_of defs k.ty).name

-- what was spelled of a copy of an entity: the end of a line by which it enters, and where in it that begins which also ends one by which
-- it is set
pub record IsSpelling (defs : List TypeDef) (e : ℕ) (k : GhostCopy) (s : Spelling) : Type 0 where
  pub copy : s.copy.now ≡ k
  pub version : s.version ≡ k.version
  pub text : s.text.items ≡ enter_text defs e k ++ copy_text defs k ++ 10 ∷ []
  pub start : s.start ≡ length (enter_text defs e k)

-- each copy has its text
abbrev pub AreSpelled : List TypeDef → List (ℕ × Spelling) → Type 0
AreSpelled defs es = AllByRecursion (λ e. IsSpelling defs e.0 e.1.copy.now e.1) es

-- ---- which copies are told apart

-- the types by which copies are spelled, and the copies that were spelled, each with its entity
pub record SpellingsView : Type 0 where
  pub defs : List TypeDef
  pub kept : List (ℕ × GhostCopy)

-- the copy that there is of each entity at each version
abbrev pub Versions : Type 0
Versions = ℕ → ℕ → Option GhostCopy

abbrev pub IsOf : Versions → ℕ → GhostCopy → Type 0
IsOf vs e k = vs e k.version ≡ Some k

-- those that were spelled are there
abbrev pub GoesBy : Versions → SpellingsView → Type 0
GoesBy vs s = AllByRecursion (λ p. IsOf vs p.0 p.1) s.kept

-- what a client's text shows of other entities is there
abbrev pub ShowsOf : Versions → ClientText → Type 0
ShowsOf vs (text.Shown (Own version state)) = Unit {0}
ShowsOf vs (text.Shown (Enter e k)) = IsOf vs e k
ShowsOf vs (text.Shown (Set e k)) = IsOf vs e k
ShowsOf vs (text.Shown (Leave e)) = Unit {0}
ShowsOf vs (text.Base version props) = Unit {0}
