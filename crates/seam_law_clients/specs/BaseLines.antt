-- What a client is shown of its entity's base part.
use Rattle.std.specs.Prelude.{◌≡◌, ℕ, ◌+◌, Bool, if◌then◌else◌, List, [], ◌∷◌, ◌++◌, map, length, fold, Option, None, Some}
use Rattle.std.specs.List.{range_with_len}
use Rattle.seam_defs.specs.declared.flags.Group.TheVariants as group
use Rattle.seam_node_steps.specs.Prelude.{State, properties_of, client_of, after, changes, Call as CallData, ClientText, Line, Here}
use Rattle.seam_node_steps.specs.Prelude.{type_at, properties, has_any, PartView, ProxyView, base_text}
use Rattle.seam_law_flow.specs.Prelude.{letters_of}
use Rattle.seam_call.specs.declared.shown.ClientText.TheVariants as text

-- the base line that a line is, if it is one
abbrev pub base_by : ClientText → Option ClientText
base_by (text.Base version props) = Some (text.Base version props)
base_by (text.Shown s) = None

abbrev pub base_in : Line → Option ClientText
base_in l = base_by l.text

-- of these lines, those that show the base part
abbrev pub base_lines : List Line → List ClientText
base_lines ls = letters_of base_in ls

abbrev pub number_of_line : Line → ℕ
number_of_line l = l.number

abbrev pub line_where : Bool → ClientText → List ClientText
line_where due t = if due then t ∷ [] else []

-- what a client is shown of a part as it is attached: the part, where its type has something for clients
abbrev pub first_lines : Here → PartView → List ClientText
first_lines h p = line_where (has_any (properties_of (properties h p.ty) group.BaseClient)) (base_text h p)

-- the state of a base part of the type after one call more, and after these calls
abbrev pub state_with : Here → ℕ → State → CallData → State
state_with h ty s k = after (type_at h ty) s k.deed

abbrev pub state_after : Here → ℕ → State → List CallData → State
state_after h ty s ks = fold (state_with h ty) s ks

-- what a client is shown as the part, of the type, executes these calls from this state and this version on: after each call that
-- changes what it is shown of the part, that, once
abbrev pub lines_after : Here → ℕ → State → ℕ → List CallData → List ClientText
lines_after h ty s version [] = []
lines_after h ty s version (k ∷ ks) =
    line_where (changes (type_at h ty) s k.deed) (text.Base (version + 1) (client_of (properties h ty) (state_with h ty s k)))
    ++ lines_after h ty (state_with h ty s k) (version + 1) ks

-- A part that was p, with the client x, is o: it executed further calls, and meanwhile its client was shown further lines, numbered one
-- after another, of which those that show the part are just the ones that are due after those calls.
pub record ShowsItsPart (h : Here) (p : PartView) (x : ProxyView) (o : Option PartView) : Type 0 where
  pub part : PartView
  pub is : o ≡ Some part
  -- it executed these calls
  pub calls : List CallData
  pub done : part.done ≡ p.done ++ calls
  pub type : part.ty ≡ p.ty
  pub state : part.state ≡ state_after h p.ty p.state calls
  pub version : part.version ≡ p.version + length calls
  -- its client was shown these lines
  pub proxy : ProxyView
  pub has : part.proxy ≡ Some proxy
  pub lines : List Line
  pub shown : proxy.lines ≡ x.lines ++ lines
  -- under the next numbers
  pub numbers : map number_of_line lines ≡ range_with_len (x.last + 1) (length lines)
  pub last : proxy.last ≡ x.last + length lines
  -- the part was shown just where that was due
  pub bases : base_lines lines ≡ lines_after h p.ty p.state p.version calls
