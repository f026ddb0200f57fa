-- Lines that may be shown in parts.
use Rattle.seam_law_clients.proofs.Prelude.{ℕ, List, [], ◌∷◌, ◌++◌, AllByRecursion, all_append, Shown, ClientReplica, after_shown}
use Rattle.seam_law_clients.proofs.Prelude.{after_all_shown, MayShowAll, Truth, ShowsTruth, ShowsRightly}

may_append : (me : ℕ) (c : ClientReplica) (xs ys : List Shown) → MayShowAll me c xs → MayShowAll me (after_all_shown c xs) ys →
    MayShowAll me c (xs ++ ys)
may_append me c [] ys a b = b
may_append me c (x ∷ xs) ys a b = (a.0, may_append me (after_shown c x) xs ys a.1 b)

may_first : (me : ℕ) (c : ClientReplica) (xs ys : List Shown) → MayShowAll me c (xs ++ ys) → MayShowAll me c xs
may_first me c [] ys h = tt
may_first me c (x ∷ xs) ys h = (h.0, may_first me (after_shown c x) xs ys h.1)

first_all : (P : Shown → Type 0) (xs ys : List Shown) → AllByRecursion P (xs ++ ys) → AllByRecursion P xs
first_all P [] ys h = tt
first_all P (x ∷ xs) ys h = (h.0, first_all P xs ys h.1)

pub rightly_append : (t : Truth) (me : ℕ) (c : ClientReplica) (xs ys : List Shown) → ShowsRightly t me c xs →
    ShowsRightly t me (after_all_shown c xs) ys → ShowsRightly t me c (xs ++ ys)
rightly_append t me c xs ys a b = record {
  in_turn = may_append me c xs ys a.in_turn b.in_turn;
  true_ = all_append (ShowsTruth t) xs ys a.true_ b.true_;
}

-- a first part of them may be shown, too
pub rightly_first : (t : Truth) (me : ℕ) (c : ClientReplica) (xs ys : List Shown) → ShowsRightly t me c (xs ++ ys) → ShowsRightly t me c xs
rightly_first t me c xs ys h =
    record { in_turn = may_first me c xs ys h.in_turn; true_ = first_all (ShowsTruth t) xs ys h.true_ }
