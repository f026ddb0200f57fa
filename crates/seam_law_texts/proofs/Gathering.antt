-- A round is what its lines say, one after the other.
use Rattle.std.proofs.Common.{◌≡◌, ℕ, ◌+◌, List, [], ◌∷◌, ◌++◌, map, refl, sym, ◌∙◌, ap, length, zip, append_assoc, append-nil}
use Rattle.std.proofs.Common.{Option, Some, None, option_map}
use Rattle.std.specs.List.{range_with_len}
use Rattle.seam_tree.specs.declared.cut.Cut.{Cut}
use Rattle.seam_tree.specs.Division.{Division}
use Rattle.seam_rule_lines.specs.Round.{DoneLine, HomeLine, BaseLine}
use Rattle.seam_rule_rounds.specs.Lines.{GhostLine, ClientLine, RoundData}
use Rattle.seam_law_texts.specs.declared.kinds.Kind.{Kind}
use Rattle.seam_law_texts.specs.declared.kinds.Kind.TheVariants.{Did, Dob, Home, Base, Ghost, To, Bound, End}
use Rattle.seam_law_texts.specs.TextLines.{LineData, TextLine, line, bounds_of, lines_of}
use Rattle.seam_law_texts.specs.TextLines.{with_data, no_lines, data_by}

-- lines of one kind add to the list of their kind
module _ {X : Type 0} (k : Kind) (of : X → LineData k) (set : RoundData → List X → RoundData) (get : RoundData → List X)
    (adds : (r : RoundData) (x : X) → with_data r k (of x) ≡ set r (get r ++ x ∷ []))
    (kept : (r : RoundData) (xs : List X) → get (set r xs) ≡ xs)
    (again : (r : RoundData) (xs ys : List X) → set (set r xs) ys ≡ set r ys)
    (same : (r : RoundData) → set r (get r) ≡ r)
  where
    gathered : (xs : List X) (r : RoundData) (rest : List TextLine) →
        data_by r (map (λ x. line k (of x)) xs ++ rest) ≡ data_by (set r (get r ++ xs)) rest
    gathered [] r rest =
        ap (λ (s : RoundData). data_by s rest) (sym (same r) ∙ ap (set r) (sym (append-nil (get r))))
    gathered (x ∷ xs) r rest =
        let next = set r (get r ++ x ∷ []) in
        let lists = ap (λ (l : List X). l ++ xs) (kept r (get r ++ x ∷ [])) ∙ append_assoc (get r) (x ∷ []) xs in
        ap (λ (s : RoundData). data_by s (map (λ y. line k (of y)) xs ++ rest)) (adds r x)
        ∙ gathered xs next rest
        ∙ ap (λ (s : RoundData). data_by s rest)
        (again r (get r ++ x ∷ []) (get next ++ xs) ∙ ap (set r) lists)

gather_did : (xs : List DoneLine) (r : RoundData) (rest : List TextLine) →
    data_by r (map (line Did) xs ++ rest) ≡ data_by (record r { did = r.did ++ xs }) rest
gather_did =
    gathered Did (λ x. x) (λ r xs. record r { did = xs }) (λ r. r.did) (λ r x. refl) (λ r xs. refl) (λ r xs ys. refl) (λ r. refl)

gather_dob : (xs : List DoneLine) (r : RoundData) (rest : List TextLine) →
    data_by r (map (line Dob) xs ++ rest) ≡ data_by (record r { dob = r.dob ++ xs }) rest
gather_dob =
    gathered Dob (λ x. x) (λ r xs. record r { dob = xs }) (λ r. r.dob) (λ r x. refl) (λ r xs. refl) (λ r xs ys. refl) (λ r. refl)

gather_homes : (xs : List HomeLine) (r : RoundData) (rest : List TextLine) →
    data_by r (map (line Home) xs ++ rest) ≡ data_by (record r { homes = r.homes ++ xs }) rest
gather_homes =
    gathered Home (λ x. x) (λ r xs. record r { homes = xs }) (λ r. r.homes) (λ r x. refl) (λ r xs. refl) (λ r xs ys. refl) (λ r. refl)

gather_bases : (xs : List BaseLine) (r : RoundData) (rest : List TextLine) →
    data_by r (map (line Base) xs ++ rest) ≡ data_by (record r { bases = r.bases ++ xs }) rest
gather_bases =
    gathered Base (λ x. x) (λ r xs. record r { bases = xs }) (λ r. r.bases) (λ r x. refl) (λ r xs. refl) (λ r xs ys. refl) (λ r. refl)

gather_ghosts : (xs : List GhostLine) (r : RoundData) (rest : List TextLine) →
    data_by r (map (line Ghost) xs ++ rest) ≡ data_by (record r { ghosts = r.ghosts ++ xs }) rest
gather_ghosts =
    gathered Ghost (λ x. x) (λ r xs. record r { ghosts = xs }) (λ r. r.ghosts) (λ r x. refl) (λ r xs. refl) (λ r xs ys. refl) (λ r. refl)

gather_shown : (xs : List ClientLine) (r : RoundData) (rest : List TextLine) →
    data_by r (map (line To) xs ++ rest) ≡ data_by (record r { shown = r.shown ++ xs }) rest
gather_shown =
    gathered To (λ x. x) (λ r xs. record r { shown = xs }) (λ r. r.shown) (λ r x. refl) (λ r xs. refl) (λ r xs ys. refl) (λ r. refl)

-- a round with these cuts in its tree
abbrev with_cuts : RoundData → ℕ → List Cut → RoundData
with_cuts r size cuts = record r { bounds = Some (record { size = size; cuts = cuts }) }

gather_bounds : (size n : ℕ) (cuts former : List Cut) (r : RoundData) (rest : List TextLine) →
    data_by (with_cuts r size former) (map (line Bound) (zip (range_with_len n (length cuts)) cuts) ++ rest)
    ≡ data_by (with_cuts r size (former ++ cuts)) rest
gather_bounds size n [] former r rest = ap (λ (cs : List Cut). data_by (with_cuts r size cs) rest) (sym (append-nil former))
gather_bounds size n (c ∷ cuts) former r rest =
    gather_bounds size (n + 1) cuts (former ++ c ∷ []) r rest
    ∙ ap (λ (cs : List Cut). data_by (with_cuts r size cs) rest) (append_assoc former (c ∷ []) cuts)

-- all lists of a round but for its tree
abbrev full : RoundData → Option Division → RoundData
full r tree = record r { bounds = tree }

-- the lines of boundaries, and the last line
bounds_said : (r : RoundData) (tree : Option Division) →
    data_by (full r (option_map (λ t. record { size = t.size; cuts = [] }) tree))
    (map (line Bound) (bounds_of tree) ++ line End r.number ∷ [])
    ≡ full r tree
bounds_said r None = refl
bounds_said r (Some tree) = gather_bounds tree.size 1 tree.cuts [] r (line End r.number ∷ [])

-- a round is what its lines say
pub round_is_said : (r : RoundData) → data_by (no_lines r.bounds) (lines_of r) ≡ r
round_is_said r =
    let r0 : RoundData = record (no_lines r.bounds) { number = r.number } in
    let r1 : RoundData = record r0 { did = r.did } in
    let r2 : RoundData = record r1 { dob = r.dob } in
    let r3 : RoundData = record r2 { homes = r.homes } in
    let r4 : RoundData = record r3 { bases = r.bases } in
    let r5 : RoundData = record r4 { ghosts = r.ghosts } in
    let l7 : List TextLine = map (line Bound) (bounds_of r.bounds) ++ line End r.number ∷ [] in
    let l6 : List TextLine = map (line To) r.shown ++ l7 in
    let l5 : List TextLine = map (line Ghost) r.ghosts ++ l6 in
    let l4 : List TextLine = map (line Base) r.bases ++ l5 in
    let l3 : List TextLine = map (line Home) r.homes ++ l4 in
    let l2 : List TextLine = map (line Dob) r.dob ++ l3 in
    gather_did r.did r0 l2 ∙ gather_dob r.dob r1 l3 ∙ gather_homes r.homes r2 l4 ∙ gather_bases r.bases r3 l5
    ∙ gather_ghosts r.ghosts r4 l6 ∙ gather_shown r.shown r5 l7 ∙ bounds_said r r.bounds
