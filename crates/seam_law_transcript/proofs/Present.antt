-- Each entity that is there in a round is among those that were created.
use Rattle.seam_law_transcript.proofs.Prelude.{◌≡◌, ℕ, Bool, true, false, cond, List, [], ◌∷◌, ◌++◌, map, length, Some, refl, sym, ap, ◌∙◌}
use Rattle.seam_law_transcript.proofs.Prelude.{inl, inr, eqb, arith, append-nil, length-append, ◌||◌, nat_eq, ◌==◌, eqb-true, eq-eqb}
use Rattle.seam_law_transcript.proofs.Prelude.{none-some, length-map, filter_map-append, Create, Book, entries, created, creates_of}
use Rattle.seam_law_transcript.proofs.Prelude.{as_begun, IsPresent, entity_of, made_among, live_is_created}
use Rattle.std.proofs.lemmas.List.Folds.{list_any-append}
use Rattle.seam_law_bounds.specs.Prelude.{is_among}
use Rattle.seam_law_calls.proofs.Holds.{or_left, or_right}

-- the numbers of those that were created
abbrev pub names : Book → List ℕ
names b = map entity_of (creates_of b.past) ++ map entity_of (creates_of b.current)

pub names_many : (b : Book) → length (names b) ≡ length (creates_of (entries b))
names_many b =
    let all = length-append (map entity_of (creates_of b.past)) (map entity_of (creates_of b.current)) in
    let past = length-map (creates_of b.past) entity_of in
    let now = length-map (creates_of b.current) entity_of in
    let is = ap length (filter_map-append created b.past b.current) in
    let both = length-append (creates_of b.past) (creates_of b.current) in
    omega (arith, all, past, now, is, both)

among : (e : ℕ) (made : Create) (cs : List Create) → made_among cs e ≡ Some made → is_among (map entity_of cs) e ≡ true
among e made [] is = absurd (none-some made is)
among e made (c ∷ cs) is = by (c.entity == e) refl is (among e made cs)
  where
    by : (d : Bool) → (c.entity == e) ≡ d → cond d (Some c) (made_among cs e) ≡ Some made →
        (made_among cs e ≡ Some made → is_among (map entity_of cs) e ≡ true) → is_among (map entity_of (c ∷ cs)) e ≡ true
    by true at is more =
        or_left (eqb e c.entity) (is_among (map entity_of cs) e) (eq-eqb e c.entity (sym (eqb-true c.entity e at)))
    by false at is more = or_right (eqb e c.entity) (is_among (map entity_of cs) e) (more is)

module _ (b : Book) (e : ℕ) (made : Create) where
  among_both : (is_among (map entity_of (creates_of b.past)) e || is_among (map entity_of (creates_of b.current)) e) ≡ true →
      is_among (names b) e ≡ true
  among_both h = list_any-append (nat_eq e) (map entity_of (creates_of b.past)) (map entity_of (creates_of b.current)) ∙ h

  pub is_named : IsPresent b e made → is_among (names b) e ≡ true
  is_named (inl lives) =
      among_both (or_left (is_among (map entity_of (creates_of b.past)) e) (is_among (map entity_of (creates_of b.current)) e)
      (among e made (creates_of b.past)
      (ap (λ xs. made_among (creates_of xs) e) (sym (append-nil b.past)) ∙ live_is_created (as_begun b) e made lives)))
  is_named (inr now) =
      among_both (or_right (is_among (map entity_of (creates_of b.past)) e) (is_among (map entity_of (creates_of b.current)) e)
      (among e made (creates_of b.current) now))
