-- A place on its way stays on it where the real settles: at the position where it is, or after a call.
use Rattle.seam_law_ghosts.proofs.Prelude.{◌≡◌, ◌≤◌, List, [], ◌∷◌, ◌++◌, length, refl, sym, ap, ◌∙◌, arith, inl, inr, length-append, Pos}
use Rattle.seam_law_ghosts.proofs.Prelude.{Division, Distances, Place, settled, settled_all, IsPlaceAfter, last_of, after_settled}
use Rattle.seam_law_ghosts.proofs.Prelude.{IsOnItsWay, surveyed, called, waits}

module _ (d : Distances) (t : Division) where
  settled_last : (was : Place) (path : List Pos) (p : Pos) → settled_all d t was (path ++ p ∷ []) ≡ settled d t (settled_all d t was path) p
  settled_last was [] p = refl
  settled_last was (q ∷ path) p = settled_last (settled d t was q) path p

  module _ (was : Place) (start : Pos) where
    abbrev Way : List Pos → Place → Type 0 → Type 0
    Way path place due = IsOnItsWay d t was start path place due

    -- the survey's turn comes later, or is gone
    pub way_due : (path : List Pos) (place : Place) (due then : Type 0) → (due → then) → Way path place due → Way path place then
    way_due path place due then h (surveyed is) = surveyed is
    way_due path place due then h (called some is) = called some is
    way_due path place due then h (waits none is on) = waits none is (h on)

    surveyed_by : (path : List Pos) → path ≡ [] → settled d t was (last_of start path) ≡ settled_all d t was (start ∷ path)
    surveyed_by path none =
        ap (λ ps. settled d t was (last_of start ps)) none ∙ ap (λ ps. settled_all d t was (start ∷ ps)) (sym none)

    -- it settles where it is
    pub way_survey : (path : List Pos) (place : Place) (due then : Type 0) → Way path place due →
        Way path (settled d t place (last_of start path)) then
    way_survey path place due then (surveyed is) = surveyed (after_settled d t was start path place (inl is) ∙ is)
    way_survey path place due then (called some is) = called some (after_settled d t was start path place (inr (some, is)) ∙ is)
    way_survey path place due then (waits none is on) =
        surveyed (ap (λ q. settled d t q (last_of start path)) is ∙ surveyed_by path none)

    some_more : (path : List Pos) (p : Pos) → 1 ≤ length (path ++ p ∷ [])
    some_more path p = let n = length-append path (p ∷ []) in omega (arith, n)

    -- it settles after a call
    pub way_call : (path : List Pos) (place : Place) (p : Pos) (due then : Type 0) → Way path place due →
        Way (path ++ p ∷ []) (settled d t place p) then
    way_call path place p due then (surveyed is) =
        surveyed (ap (λ q. settled d t q p) is ∙ sym (settled_last was (start ∷ path) p))
    way_call path place p due then (called some is) =
        called (some_more path p) (ap (λ q. settled d t q p) is ∙ sym (settled_last was path p))
    way_call path place p due then (waits none is on) =
        called (some_more path p) (ap (λ q. settled d t q p) is
        ∙ ap (λ ps. settled d t (settled_all d t was ps) p) (sym none) ∙ sym (settled_last was path p))

    -- where no survey is to come, it is at an end of the way
    pub way_ends : (path : List Pos) (place : Place) (due : Type 0) → (due → ⊥) → Way path place due → IsPlaceAfter d t was start path place
    way_ends path place due never (surveyed is) = inl is
    way_ends path place due never (called some is) = inr (some, is)
    way_ends path place due never (waits none is on) = absurd (never on)
