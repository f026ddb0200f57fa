-- What is asked of the standings round a legal round, so that its text can show its numbers.
use Rattle.std.specs.Prelude.{⊤, ℕ, ◌+◌, length}
use Rattle.std.specs.List.{AllByRecursion}
use Rattle.seam_node_steps.specs.Prelude.{IsWhole, Part}
use Rattle.seam_rule_rounds.specs.Prelude.{entries, ClientText, Enter, Leave, Own, Set, Shown, Standing}
use Rattle.seam_call.specs.declared.shown.Line.{Line as ClientLine}
use Rattle.seam_call.specs.declared.shown.ClientText.TheVariants as text
use Rattle.seam_law_texts.specs.Forms.{IsLong}

-- the numbers of rounds, of accepted lines, of a part's calls and of a client's lines are those that 64 bits hold
pub record AreCounted (s t : Standing) : Type 0 where
  pub rounds : IsLong (s.rounds + 1)
  pub entries : IsLong (length (entries s.book))
  pub orders : (p : Part) (e : ℕ) → IsLong (length (t.orders p e))
  pub told : (e : ℕ) → IsLong (length (t.told e))

-- an entity that is shown has a number of 32 bits
abbrev pub NamesWhole : Shown → Type 0
NamesWhole (Own version state) = ⊤
NamesWhole (Enter e copy) = IsWhole e
NamesWhole (Set e copy) = IsWhole e
NamesWhole (Leave e) = IsWhole e

-- of a line: the base part is one's own
abbrev pub HasWholeNumbers : ClientText → Type 0
HasWholeNumbers (text.Shown x) = NamesWhole x
HasWholeNumbers (text.Base version props) = ⊤

-- so has each that clients were shown up to the standing
abbrev pub WereWhole : Standing → Type 0
WereWhole s = (e : ℕ) → AllByRecursion (λ (l : ClientLine). HasWholeNumbers l.text) (s.told e)
