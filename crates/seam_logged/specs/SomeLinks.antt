-- Some of the links of a net.
use Rattle.std.specs.Prelude.{◌≡◌, ℕ, ◌+◌, ◌<◌, ◌≤◌, ◌⊎◌, List, [], length, Some, slice_get, slice_index_or}
use Rattle.seam_machine.specs.Sends.{items_to}
use Rattle.seam_link.specs.Ends.{InView, OutView}
use Rattle.seam_stamp.specs.declared.Letter.{Letter}
use Rattle.seam_logged.specs.Logs.{EndsView}
use Rattle.seam_logged.specs.Mesh.{IsOut, IsIn, IsCell}

-- of n nodes, those below a have links to all, node a has links to those below b, and no other link is there
pub record Reached {T H : Type 0} (n a b : ℕ) (ends : List (EndsView T H)) : Type 0 where
  pub count : length ends ≡ n
  pub outs_low : (k : ℕ) (e : EndsView T H) → slice_get ends k ≡ Some e → k < a → length e.outs ≡ n
  pub outs_here : (k : ℕ) (e : EndsView T H) → slice_get ends k ≡ Some e → k ≡ a → length e.outs ≡ b
  pub outs_high : (k : ℕ) (e : EndsView T H) → slice_get ends k ≡ Some e → a < k → length e.outs ≡ 0
  pub ins_low : (k : ℕ) (e : EndsView T H) → slice_get ends k ≡ Some e → k < b → length e.ins ≡ a + 1
  pub ins_high : (k : ℕ) (e : EndsView T H) → slice_get ends k ≡ Some e → b ≤ k → length e.ins ≡ a

-- the ends are among the others, each at its place
pub record AreWithin {T H : Type 0} (ends others : List (EndsView T H)) : Type 0 where
  pub outs : (a b : ℕ) (o : OutView (Letter T) H) → IsOut ends a b o → IsOut others a b o
  pub ins : (a b : ℕ) (i : InView (Letter T) H) → IsIn ends a b i → IsIn others a b i

-- the link from c to d comes before that from a to b
abbrev pub Below : ℕ → ℕ → ℕ → ℕ → Type 0
Below a b c d = (c < a) ⊎ ((c ≡ a) × (d < b))

-- some of the ends and hands remain: all that is there of the links before that from a to b
pub record Remaining {T H : Type 0} (n a b : ℕ) (ends : List (EndsView T H)) (hands : List (List (ℕ × Letter T)))
    (ends' : List (EndsView T H)) (hands' : List (List (ℕ × Letter T))) : Type 0 where
  pub reached : Reached n a b ends'
  pub within : AreWithin ends' ends
  pub many : length hands' ≡ length hands
  pub same : (c d : ℕ) → Below a b c d → items_to c (slice_index_or hands' d []) ≡ items_to c (slice_index_or hands d [])

-- the links from node a, to the nodes from b on
abbrev pub IsRow : {T H : Type 0} → List (EndsView T H) → List (List (ℕ × Letter T)) → ℕ → ℕ → List (List T) → Type 0
IsRow {T} {H} ends hands a b row = (k : ℕ) (link : List T) → slice_get row k ≡ Some link → IsCell ends hands a (b + k) link
