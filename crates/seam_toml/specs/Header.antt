-- What the text of a header stands for, and why a text stands for nothing.
use Rattle.std.specs.Prelude.{◌≡◌, ℕ, ◌<◌, List, length, codes, Option, Some, None}
use Rattle.toml.specs.Data.{Data, table, Members, get_member}
use Rattle.seam_defs.specs.declared.settings.Settings.{Settings}
use Rattle.seam_defs.specs.Settings.{standard, AreLegal}
use Rattle.seam_defs.specs.Types.{AreDefs}
use Rattle.seam_toml.specs.declared.documents.TheConstants.{MOST_HEADER_BYTES}
use Rattle.seam_toml.specs.declared.faults.Fault.{Fault}
use Rattle.seam_toml.specs.declared.faults.Fault.TheVariants as fault
use Rattle.seam_toml.specs.declared.header.Header.{Header}
use Rattle.seam_toml.specs.declared.header.HeaderError.{HeaderError}
use Rattle.seam_toml.specs.declared.header.HeaderError.TheVariants as error
use Rattle.seam_toml.specs.Documents.{IsDocument, IsShort}
use Rattle.seam_toml.specs.Settings.{Sets}
use Rattle.seam_toml.specs.Definitions.{DefinesTypes}
use Rattle.seam_toml.specs.declared.roles.Role.{Role}
use Rattle.seam_toml.specs.Faults.{HasFault, HeaderHas, IsFirstFault}

-- what is under the key `settings` of a header sets the settings: where it is missing, they are the standard ones
abbrev pub SetsUnder : Option Data → Settings → Type 0
SetsUnder None s = s ≡ standard
SetsUnder (Some (table ms)) s = Sets ms s
SetsUnder (Some d) s = ⊥

-- what is under a key, which is for this, has a fault
abbrev pub HasFaultUnder : Role → Option Data → Type 0
HasFaultUnder r None = ⊥
HasFaultUnder r (Some d) = (f : Fault) × HasFault f r d

-- the members of a header's top table set the settings, which are legal, and define the types, which are well formed: beside what
-- each of their tables says, names of types, properties and methods come in strictly rising byte order
pub record DefinesHeader (ms : Members) (h : Header) : Type 0 where
  pub settings : SetsUnder (get_member (codes "settings") ms) h.settings
  pub legal : AreLegal h.settings
  pub types : DefinesTypes (get_member (codes "type") ms) h.defs
  pub sound : AreDefs h.defs

-- the text stands for the header: it is a document without a fault, whose top table defines the header
pub record Reads (text : List ℕ) (h : Header) : Type 0 where
  pub short : IsShort text
  pub ms : Members
  pub document : IsDocument text ms
  pub faultless : (f : Fault) → ¬ (HeaderHas ms f)
  pub defines : DefinesHeader ms h

-- the text is a document, and the fault is its first one
pub record HasFirstFault (text : List ℕ) (f : Fault) : Type 0 where
  pub short : IsShort text
  pub ms : Members
  pub document : IsDocument text ms
  pub first : IsFirstFault ms f

-- why the text stands for no header: the first cause in this order, where it is too long, is no document, or has a fault
abbrev pub Refuses : List ℕ → HeaderError → Type 0
Refuses text error.TooLong = MOST_HEADER_BYTES < length text
Refuses text error.NotToml = IsShort text × ((ms : Members) → ¬ (IsDocument text ms))
Refuses text error.NoSuchKey = HasFirstFault text fault.NoSuchKey
Refuses text error.BadType = HasFirstFault text fault.BadType
Refuses text error.BadFlag = HasFirstFault text fault.BadFlag
Refuses text error.BadDefault = HasFirstFault text fault.BadDefault
Refuses text error.BadBody = HasFirstFault text fault.BadBody
Refuses text error.TooManyNames = HasFirstFault text fault.TooManyNames
Refuses text error.GhostTooNear = HasFirstFault text fault.GhostTooNear
Refuses text error.NoMemory = IsShort text

-- the number of a cause; want of memory has none
abbrev pub number_of : HeaderError → Option ℕ
number_of error.NotToml = Some 1
number_of error.NoSuchKey = Some 2
number_of error.BadType = Some 3
number_of error.BadFlag = Some 4
number_of error.BadDefault = Some 5
number_of error.BadBody = Some 6
number_of error.TooManyNames = Some 7
number_of error.GhostTooNear = Some 8
number_of error.TooLong = Some 9
number_of error.NoMemory = None
