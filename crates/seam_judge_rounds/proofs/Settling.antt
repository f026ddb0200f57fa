-- Whether a place is settled along all of a path, or along all but its start.
use Rattle.std.proofs.Common.{◌≡◌, ◌⊎◌, ◌<◌, ◌+◌, ◌-◌, ℕ, Bool, List, ◌∷◌, length, map, drop, inl, inr, sym, ◌∙◌, ap, subst, arith, IsTrue}
use Rattle.std.proofs.Common.{◌↔◌}
use Rattle.std.specs.List.{range_with_len}
use Rattle.seam_rule_rounds.specs.Prelude.{Pos, Division, Distances, Place, settled_all, IsPlaceAfter, Call, Create, Header, position_at}
use Rattle.seam_rule_rounds.specs.Prelude.{positions_past}
use Rattle.seam_judge_rounds.specs.Points.{IsCellAfter}

pub place_after : (d : Distances) (t : Division) (was after first second : Place) (path tail : List Pos) (a b c r : Bool) →
    first ≡ settled_all d t was path → second ≡ settled_all d t was tail → tail ≡ drop 1 path → (IsTrue a ↔ (first ≡ after)) →
    (IsTrue b ↔ (1 < length path)) → (IsTrue c ↔ (second ≡ after)) → (IsTrue r ↔ (IsTrue a ⊎ (IsTrue b × IsTrue c))) →
    (start : Pos) (rest : List Pos) → path ≡ start ∷ rest → (IsTrue r ↔ IsPlaceAfter d t was start rest after)
place_after d t was after first second path tail a b c r first_is second_is tail_is at_a at_b at_c at_r start rest path_is =
    ((λ is. to (at_r.0 is)), (λ place. at_r.1 (back place)))
  where
    rest_is : tail ≡ rest
    rest_is = tail_is ∙ ap (drop 1) path_is

    long : length path ≡ length (start ∷ rest)
    long = ap length path_is

    to : IsTrue a ⊎ (IsTrue b × IsTrue c) → IsPlaceAfter d t was start rest after
    to (inl so) = inl (sym (at_a.0 so) ∙ first_is ∙ ap (settled_all d t was) path_is)
    to (inr (more, so)) =
        let two = at_b.0 more in
        inr (omega (arith, two, long), sym (at_c.0 so) ∙ second_is ∙ ap (settled_all d t was) rest_is)

    back : IsPlaceAfter d t was start rest after → IsTrue a ⊎ (IsTrue b × IsTrue c)
    back (inl all) = inl (at_a.1 (first_is ∙ ap (settled_all d t was) path_is ∙ sym all))
    back (inr (one, some)) =
        inr (at_b.1 (omega (arith, one, long)), at_c.1 (second_is ∙ ap (settled_all d t was) rest_is ∙ sym some))

-- an entity's place, where the code's values are those of the standings
module _ (h : Header) (c : Create) (d : Distances) (r : Bool) where
  abbrev pub Decided : Division → Place → List Call → ℕ → ℕ → Place → Type 0
  Decided t was order n v held =
      IsTrue r ↔ IsPlaceAfter d t was (position_at h c order v) (map (position_at h c order) (range_with_len (v + 1) (n - v))) held

  pub place_decided : (t t' : Division) (was was' held held' : Place) (order order' : List Call) (n v v' : ℕ) → t ≡ t' → was ≡ was' →
      held ≡ held' → order ≡ order' → n ≡ length order' → v ≡ v' → Decided t was order n v held →
      (IsTrue r ↔ IsPlaceAfter d t' was' (position_at h c order' v') (positions_past h c order' v') held')
  place_decided t t' was was' held held' order order' n v v' tree place left calls long began decided =
      subst (λ (m : ℕ). Decided t' was' order' (length order') m held') began
      (subst (λ (m : ℕ). Decided t' was' order' m v held') long
      (subst (λ (os : List Call). Decided t' was' os n v held') calls
      (subst (λ (p : Place). Decided t' was' order n v p) left
      (subst (λ (p : Place). Decided t' p order n v held) place
      (subst (λ (x : Division). Decided x was order n v held) tree decided)))))

  abbrev pub CellDecided : Division → Place → List Call → ℕ → ℕ → ℕ → Type 0
  CellDecided t was order n v home =
      IsTrue r ↔ IsCellAfter d t was (position_at h c order v) (map (position_at h c order) (range_with_len (v + 1) (n - v))) home

  pub cell_decided : (t t' : Division) (was was' held held' : Place) (order order' : List Call) (n v v' : ℕ) → t ≡ t' → was ≡ was' →
      held ≡ held' → order ≡ order' → n ≡ length order' → v ≡ v' → CellDecided t was order n v held.home →
      (IsTrue r ↔ IsCellAfter d t' was' (position_at h c order' v') (positions_past h c order' v') held'.home)
  cell_decided t t' was was' held held' order order' n v v' tree place left calls long began decided =
      subst (λ (m : ℕ). CellDecided t' was' order' (length order') m held'.home) began
      (subst (λ (m : ℕ). CellDecided t' was' order' m v held'.home) long
      (subst (λ (os : List Call). CellDecided t' was' os n v held'.home) calls
      (subst (λ (p : Place). CellDecided t' was' order n v p.home) left
      (subst (λ (p : Place). CellDecided t' p order n v held.home) place
      (subst (λ (x : Division). CellDecided x was order n v held.home) tree decided)))))
