-- What is right by one truth is right by another that follows from it.
use Rattle.seam_law_transcript.proofs.Prelude.{ℕ, List, [], ◌∷◌, AllByRecursion, State, GhostCopy, Shown, Own, Enter, Set, Leave}
use Rattle.seam_law_transcript.proofs.Prelude.{ClientReplica, Truth, ShowsTruth, ShowsRightly}

module _ (a b : Truth) (own : (version : ℕ) (state : State) → a.own version state → b.own version state)
    (other : (e : ℕ) (copy : GhostCopy) → a.other e copy → b.other e copy) where
  one : (x : Shown) → ShowsTruth a x → ShowsTruth b x
  one (Own version state) h = own version state h
  one (Enter e copy) h = other e copy h
  one (Set e copy) h = other e copy h
  one (Leave e) h = tt

  all : (xs : List Shown) → AllByRecursion (ShowsTruth a) xs → AllByRecursion (ShowsTruth b) xs
  all [] h = tt
  all (x ∷ xs) h = (one x h.0, all xs h.1)

  pub rightly_by : (me : ℕ) (c : ClientReplica) (xs : List Shown) → ShowsRightly a me c xs → ShowsRightly b me c xs
  rightly_by me c xs h = record { in_turn = h.in_turn; true_ = all xs h.true_ }
