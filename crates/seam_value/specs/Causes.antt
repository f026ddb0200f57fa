-- Why bytes are no short text, and no value of a type.
use Rattle.std.specs.Prelude.{◌≡◌, ◌≢◌, ℕ, ℤ, ◌<◌, List, length}
use Rattle.std.specs.Str.{IsUtf8}
use Rattle.seam_value.specs.declared.types.ValueType.{ValueType}
use Rattle.seam_value.specs.declared.types.ValueType.TheVariants as type
use Rattle.seam_value.specs.declared.values.Value.TheVariants.{Number, Text}
use Rattle.seam_value.specs.declared.values.ValueError.{ValueError}
use Rattle.seam_value.specs.declared.values.ValueError.TheVariants.{NotNumber, OutOfRange, BadString, TooLong, NoMemory}
use Rattle.seam_value.specs.Texts.{IsShortText}
use Rattle.seam_value.specs.Values.{Fits, text_of}

-- why the bytes are no short text: want of memory refuses only those that are one
abbrev pub RefusesText : List ℕ → ValueError → Type 0
RefusesText bytes BadString = ¬ IsUtf8 bytes
RefusesText bytes TooLong = IsUtf8 bytes × (255 < length bytes)
RefusesText bytes NoMemory = IsShortText bytes
RefusesText bytes NotNumber = ⊥
RefusesText bytes OutOfRange = ⊥

-- why the bytes are no value of a type: at a number type they spell no number, or one that does not fit; at the text type
-- they spell no text in UTF-8, or one that is too long, or memory was wanting
abbrev pub Refuses : List ℕ → ValueType → ValueError → Type 0
Refuses bytes t NotNumber = (t ≢ type.Text) × ((z : ℤ) → text_of (Number z) ≢ bytes)
Refuses bytes t OutOfRange = (t ≢ type.Text) × (z : ℤ) × (text_of (Number z) ≡ bytes) × ¬ (Fits (Number z) t)
Refuses bytes t BadString = (t ≡ type.Text) × ((content : List ℕ) → IsUtf8 content → text_of (Text content) ≢ bytes)
Refuses bytes t TooLong = (t ≡ type.Text) × (content : List ℕ) × (text_of (Text content) ≡ bytes) × IsUtf8 content × (255 < length content)
Refuses bytes t NoMemory = t ≡ type.Text
