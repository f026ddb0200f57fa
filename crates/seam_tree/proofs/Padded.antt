-- Writes into the table of a tree's cuts.
use Rattle.std.proofs.Common.{◌≡◌, ◌<◌, ◌≤◌, ℕ, zero, suc, ◌+◌, ◌-◌, List, [], ◌∷◌, ◌++◌, length, take, set, get_or, replicate, refl, sym}
use Rattle.std.proofs.Common.{◌∙◌, ap, subst, arith, length-append, append_assoc, add-one}
use Rattle.std.proofs.Math.Seq.{take-append_seam, set-append_seam}
use Rattle.seam_tree.specs.declared.cut.Cut.{Cut}
use Rattle.seam_tree.specs.Change.{cut_moved, cuts_moved, with_cut, with_place}
use Rattle.seam_tree.specs.Division.{Division, HasBoundary, cells_of, no_cut}
use Rattle.seam_tree.specs.Table.{padded}
use Rattle.seam_tree.specs.Inverse.{take_padded}

pub take_of_padded : (cuts : List Cut) (n : ℕ) → n ≡ length cuts → take n (padded cuts) ≡ cuts
take_of_padded cuts n is = ap (λ (k : ℕ). take k (padded cuts)) is ∙ take-append_seam cuts (replicate (15 - length cuts) no_cut)

replicate_more : (n m : ℕ) → n ≡ m + 1 → replicate n no_cut ≡ no_cut ∷ replicate m no_cut
replicate_more n m is = ap (λ (k : ℕ). replicate k no_cut) (is ∙ add-one m)

pub set_padded : (cuts : List Cut) (n : ℕ) (c : Cut) → n ≡ length cuts → length cuts < 15 → set (padded cuts) n c ≡ padded (cuts ++ c ∷ [])
set_padded cuts n c is room =
    let free : replicate (15 - length cuts) no_cut ≡ no_cut ∷ replicate (15 - length (cuts ++ c ∷ [])) no_cut =
    replicate_more (15 - length cuts) (15 - length (cuts ++ c ∷ [])) (omega (arith, length-append cuts (c ∷ []))) in
    ap (λ (k : ℕ). set (padded cuts) k c) is
    ∙ ap (λ (rest : List Cut). set (cuts ++ rest) (length cuts) c) free
    ∙ set-append_seam cuts no_cut (replicate (15 - length (cuts ++ c ∷ [])) no_cut) c
    ∙ sym (append_assoc cuts (c ∷ []) (replicate (15 - length (cuts ++ c ∷ [])) no_cut))

pub length_cuts_moved : (cuts : List Cut) (n at : ℕ) → length (cuts_moved cuts n at) ≡ length cuts
length_cuts_moved [] n at = refl
length_cuts_moved (c ∷ cuts) zero at = refl
length_cuts_moved (c ∷ cuts) (suc n) at = ap suc (length_cuts_moved cuts n at)

set_moved : (cuts rest : List Cut) (n at : ℕ) → n < length cuts →
    set (cuts ++ rest) n (cut_moved (get_or (cuts ++ rest) n no_cut) at) ≡ cuts_moved cuts n at ++ rest
set_moved [] rest n at within = absurd (omega arith)
set_moved (c ∷ cuts) rest zero at within = refl
set_moved (c ∷ cuts) rest (suc n) at within = ap (λ (xs : List Cut). c ∷ xs) (set_moved cuts rest n at (omega arith))

pub set_padded_moved : (cuts : List Cut) (n at : ℕ) → n < length cuts →
    set (padded cuts) n (cut_moved (get_or (padded cuts) n no_cut) at) ≡ padded (cuts_moved cuts n at)
set_padded_moved cuts n at within =
    set_moved cuts (replicate (15 - length cuts) no_cut) n at within
    ∙ ap (λ (k : ℕ). cuts_moved cuts n at ++ replicate (15 - k) no_cut) (sym (length_cuts_moved cuts n at))

-- what the fields of a tree say of its cuts
pub record HoldsCuts (size count : ℕ) (cuts : List Cut) (t : Division) : Type 0 where
  pub most : count ≤ 15
  pub table : cuts ≡ padded (take count cuts)
  pub view : record { size = size; cuts = take count cuts } ≡ t

abbrev view_of : ℕ → ℕ → List Cut → Division
view_of size count cuts = record { size = size; cuts = take count cuts }

pub cuts_length : (size count : ℕ) (cuts : List Cut) (t : Division) → HoldsCuts size count cuts t → length t.cuts ≡ count
cuts_length size count cuts t h = ap (λ (u : Division). length u.cuts) (sym h.view) ∙ take_padded count cuts h.most h.table

table_is : (size count : ℕ) (cuts : List Cut) (t : Division) → HoldsCuts size count cuts t → cuts ≡ padded t.cuts
table_is size count cuts t h = h.table ∙ ap (λ (u : Division). padded u.cuts) h.view

pub holds_push : (size count : ℕ) (cuts : List Cut) (t : Division) (n : ℕ) (c : Cut) → HoldsCuts size count cuts t → n ≡ count →
    cells_of t < 16 → HoldsCuts size (count + 1) (set cuts n c) (with_cut t c.cell c.boundary)
holds_push size count cuts t n c h is room =
    let len : length t.cuts ≡ count = cuts_length size count cuts t h in
    let after : set cuts n c ≡ padded (t.cuts ++ c ∷ []) =
    ap (λ (xs : List Cut). set xs n c) (table_is size count cuts t h) ∙ set_padded t.cuts n c (omega arith) (omega arith) in
    let taken : take (count + 1) (set cuts n c) ≡ t.cuts ++ c ∷ [] =
    ap (take (count + 1)) after ∙ take_of_padded (t.cuts ++ c ∷ []) (count + 1) (omega (arith, length-append t.cuts (c ∷ []))) in
    record {
      most = omega arith;
      table = after ∙ ap padded (sym taken);
      view = λ i. record { size = (h.view i).size; cuts = taken i };
    }

pub holds_place : (size count : ℕ) (cuts : List Cut) (t : Division) (n at : ℕ) → HoldsCuts size count cuts t → n < length t.cuts →
    HoldsCuts size count (set cuts n (cut_moved (get_or cuts n no_cut) at)) (record { size = t.size; cuts = cuts_moved t.cuts n at })
holds_place size count cuts t n at h within =
    let len : length t.cuts ≡ count = cuts_length size count cuts t h in
    let after : set cuts n (cut_moved (get_or cuts n no_cut) at) ≡ padded (cuts_moved t.cuts n at) =
    ap (λ (xs : List Cut). set xs n (cut_moved (get_or xs n no_cut) at)) (table_is size count cuts t h)
    ∙ set_padded_moved t.cuts n at within in
    let taken : take count (set cuts n (cut_moved (get_or cuts n no_cut) at)) ≡ cuts_moved t.cuts n at =
    ap (take count) after ∙ take_of_padded (cuts_moved t.cuts n at) count (omega (arith, length_cuts_moved t.cuts n at)) in
    record {
      most = h.most;
      table = after ∙ ap padded (sym taken);
      view = λ i. record { size = (h.view i).size; cuts = taken i };
    }

-- the table after a write to the place of boundary b, which is the cut after n others
pub holds_with_place : (size count : ℕ) (cuts : List Cut) (t : Division) (n b at : ℕ) → HoldsCuts size count cuts t → n ≡ b - 1 →
    HasBoundary t b → HoldsCuts size count (set cuts n (cut_moved (get_or cuts n no_cut) at)) (with_place t b at)
holds_with_place size count cuts t n b at h is there =
    let to : b < cells_of t = there.to_last in
    let from : 1 ≤ b = there.from_one in
    subst (λ (k : ℕ). HoldsCuts size count (set cuts n (cut_moved (get_or cuts n no_cut) at))
    (record { size = t.size; cuts = cuts_moved t.cuts k at })) is (holds_place size count cuts t n at h (omega arith))
