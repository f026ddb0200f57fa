-- An operation as it is read from its text, before any limit on numbers is known: no clause of a public call cites these.
use Rattle.std.specs.Prelude.{◌≢◌, ◌<◌, ⊤, ℕ, IsTrue, List, codes}
use Rattle.seam_value.specs.declared.types.ValueType.TheVariants as type
use Rattle.seam_defs.specs.declared.flags.Part.{Part}
use Rattle.seam_defs.specs.declared.types.Property.{Property}
use Rattle.seam_defs.specs.Groups.{in_group, held_by}
use Rattle.seam_defs.specs.declared.types.Operand.{Operand}
use Rattle.seam_defs.specs.declared.types.Operand.TheVariants.{Arg, Constant}
use Rattle.seam_defs.specs.declared.types.Operation.{Operation}
use Rattle.seam_defs.specs.declared.types.Operation.TheVariants.{Put, Add, Sub}
use Rattle.seam_toml.specs.declared.operations.Verb.{Verb}
use Rattle.seam_toml.specs.declared.operations.Verb.TheVariants as verb
use Rattle.seam_toml.specs.declared.operations.Given.{Given}
use Rattle.seam_toml.specs.declared.operations.Given.TheVariants as given
use Rattle.seam_toml.specs.declared.operations.Step.{Step}

-- the word of a verb
abbrev pub word_of_verb : Verb → List ℕ
word_of_verb verb.Set = codes "set"
word_of_verb verb.Add = codes "add"
word_of_verb verb.Sub = codes "sub"

abbrev pub operand_of : Given → Operand
operand_of (given.Argument k) = Arg k
operand_of (given.Constant v) = Constant v

abbrev pub made : Verb → ℕ → Operand → Operation
made verb.Set k a = Put k a
made verb.Add k a = Add k a
made verb.Sub k a = Sub k a

-- the operation
abbrev pub operation_of : Step → Operation
operation_of s = made s.verb s.property (operand_of s.given)

-- a method of the part may do this to the property: it is of the part, and holds numbers where one is added or subtracted
abbrev pub MayDo : Verb → Part → Property → Type 0
MayDo verb.Set part p = IsTrue (in_group p.flag (held_by part))
MayDo v part p = IsTrue (in_group p.flag (held_by part)) × (p.ty ≢ type.Text)

-- the numbers are ones that an operation can hold
abbrev pub IsSmallGiven : Given → Type 0
IsSmallGiven (given.Argument k) = k < 256
IsSmallGiven (given.Constant v) = ⊤

pub record IsSmall (s : Step) : Type 0 where
  pub property : s.property < 65536
  pub given : IsSmallGiven s.given
