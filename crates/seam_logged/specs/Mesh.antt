-- The ends of the links of all nodes of a net.
use Rattle.std.specs.Prelude.{◌≡◌, ℕ, ◌+◌, ◌*◌, List, [], ◌∷◌, ◌++◌, length, drop, Some, slice_get, slice_index_or}
use Rattle.seam_machine.specs.Sends.{items_to}
use Rattle.seam_link.specs.Ends.{InView, OutView}
use Rattle.seam_stamp.specs.declared.Letter.{Letter}
use Rattle.seam_stamp.specs.Acts.{items}
use Rattle.seam_logged.specs.Logs.{EndsView}

-- letters that were there at the start have the stamp 0
abbrev pub at_start : {T : Type 0} → List T → List (Letter T)
at_start [] = []
at_start (m ∷ ms) = record { stamp = 0; item = m } ∷ at_start ms

-- the end that puts of the link from a to b, and the end that takes
abbrev pub IsOut : {T H : Type 0} → List (EndsView T H) → ℕ → ℕ → OutView (Letter T) H → Type 0
IsOut {T} {H} ends a b o = (e : EndsView T H) × (slice_get ends a ≡ Some e) × (slice_get e.outs b ≡ Some o)

abbrev pub IsIn : {T H : Type 0} → List (EndsView T H) → ℕ → ℕ → InView (Letter T) H → Type 0
IsIn {T} {H} ends a b i = (e : EndsView T H) × (slice_get ends b ≡ Some e) × (slice_get e.ins a ≡ Some i)

-- n nodes have the ends of n links each, of either kind
pub record AreFull {T H : Type 0} (n : ℕ) (ends : List (EndsView T H)) : Type 0 where
  pub count : length ends ≡ n
  pub ins : (k : ℕ) (e : EndsView T H) → slice_get ends k ≡ Some e → length e.ins ≡ n
  pub outs : (k : ℕ) (e : EndsView T H) → slice_get ends k ≡ Some e → length e.outs ≡ n

-- both ends of a link have one ring
abbrev pub ArePaired : {T H : Type 0} → List (EndsView T H) → Type 0
ArePaired {T} {H} ends =
    (a b : ℕ) (o : OutView (Letter T) H) (i : InView (Letter T) H) → IsOut ends a b o → IsIn ends a b i → o.ring ≡ i.ring

-- both ends of a link that was empty, into which these letters were put
pub record IsFilled {T H : Type 0} (letters : List T) (o : OutView (Letter T) H) (i : InView (Letter T) H) : Type 0 where
  pub ring : o.ring ≡ i.ring
  pub put : o.put ≡ i.taken ++ at_start letters

-- the link from a to b holds the letters at place a * n + b
abbrev pub AreLinked : {T H : Type 0} → ℕ → List (List T) → List (EndsView T H) → Type 0
AreLinked {T} {H} n links ends =
    (a b : ℕ) (o : OutView (Letter T) H) (i : InView (Letter T) H) → IsOut ends a b o → IsIn ends a b i →
    IsFilled (slice_index_or links (a * n + b) []) o i

-- the letters of the link from a to b that no step received: first those in the receiver's hand that came from a, and then what was put
-- into the link and not taken from it
pub record IsCell {T H : Type 0} (ends : List (EndsView T H)) (hands : List (List (ℕ × Letter T))) (a b : ℕ) (link : List T) : Type 0
  where
    pub out : OutView (Letter T) H
    pub end : InView (Letter T) H
    pub is_out : IsOut ends a b out
    pub is_in : IsIn ends a b end
    pub met : end.taken ++ drop (length end.taken) out.put ≡ out.put
    pub link_is : link ≡ items (items_to a (slice_index_or hands b []) ++ drop (length end.taken) out.put)
