-- What the text of an operation says.
use Rattle.std.specs.Prelude.{◌≡◌, ℕ, ◌≤◌, false, List, [], ◌∷◌, length, codes, slice_get, Some}
use Rattle.seam_words.specs.SplitWords.{HasWords}
use Rattle.seam_value.specs.Values.{decimal_of, text_of}
use Rattle.seam_value.specs.declared.types.ValueType.{ValueType}
use Rattle.seam_defs.specs.declared.flags.Part.{Part}
use Rattle.seam_defs.specs.declared.types.Property.{Property}
use Rattle.seam_defs.specs.declared.types.Method.{Method}
use Rattle.seam_defs.specs.declared.types.Operand.{Operand}
use Rattle.seam_defs.specs.declared.types.Operand.TheVariants.{Arg, Constant}
use Rattle.seam_defs.specs.declared.types.Operation.{Operation}
use Rattle.seam_defs.specs.declared.types.Operation.TheVariants.{Put, Add, Sub}
use Rattle.seam_defs.specs.Types.{IsOperation}
use Rattle.seam_defs.specs.Deeds.{target, operand}
use Rattle.seam_toml.specs.declared.operations.TheConstants.{LONGEST_OPERATION}

-- the word that names what an operation does
abbrev pub verb_of : Operation → List ℕ
verb_of (Put k a) = codes "set"
verb_of (Add k a) = codes "add"
verb_of (Sub k a) = codes "sub"

-- the word for an operand: `$` and the number of an argument, or the one spelling of a value
abbrev pub word_of : Operand → List ℕ
word_of (Arg k) = 36 ∷ decimal_of k
word_of (Constant v) = text_of v

-- a method of this part that takes these arguments
abbrev pub signature : Part → List ValueType → Method
signature part args = record { name = []; part = part; exposed = false; args = args; body = [] }

-- the words say the operation, which is well typed in such a method: what it does, the name of its property, and its operand
pub record SpellOperation (ps : List Property) (part : Part) (args : List ValueType) (words : List (List ℕ)) (op : Operation) : Type 0 where
  pub property : Property
  pub there : slice_get ps (target op) ≡ Some property
  pub spelled : words ≡ verb_of op ∷ property.name ∷ word_of (operand op) ∷ []
  pub typed : IsOperation ps (signature part args) op

-- the text says the operation by its words
pub record IsOperationText (ps : List Property) (part : Part) (args : List ValueType) (text : List ℕ) (op : Operation) : Type 0 where
  pub short : length text ≤ LONGEST_OPERATION
  pub words : List (List ℕ)
  pub has : HasWords text words
  pub spell : SpellOperation ps part args words op
