-- What a client is shown rightly, by what the code decides of it.
use Rattle.std.proofs.Common.{◌≡◌, ℕ, Bool, List, map, Bor, sym, subst, IsTrue, ◌↔◌}
use Rattle.std.specs.List.{All}
use Rattle.std.proofs.lemmas.List.Elements.{All-from_recursion, recursion_from_All}
use Rattle.seam_rule_rounds.specs.Prelude.{Shown, ClientReplica, MayShowAll, Truth, ShowsTruth, ShowsRightly}
use Rattle.seam_judge_rounds.proofs.Told.{all_now}

pub rightly : (t : Truth) (me : ℕ) (c d : ClientReplica) (shown again : List (Bor Shown)) (xs : List Shown) (a b r : Bool) → c ≡ d →
    map (λ x. x.now) shown ≡ xs → map (λ x. x.now) again ≡ xs → (IsTrue a ↔ MayShowAll me c (map (λ x. x.now) shown)) →
    (IsTrue b ↔ All (λ (x : Bor Shown). ShowsTruth t x.now) again) → (IsTrue r ↔ (IsTrue a × IsTrue b)) →
    (IsTrue r ↔ ShowsRightly t me d xs)
rightly t me c d shown again xs a b r same are are_again may so decides = (
  (λ all.
      let two = decides.0 all in record {
        in_turn = subst (λ (q : ClientReplica). MayShowAll me q xs) same (subst (MayShowAll me c) are (may.0 two.0));
        true_ = recursion_from_All (ShowsTruth t) xs (subst (All (ShowsTruth t)) are_again ((all_now (ShowsTruth t) again).0 (so.0 two.1)));
      }),
  (λ right. decides.1 (
    may.1 (subst (MayShowAll me c) (sym are) (subst (λ (q : ClientReplica). MayShowAll me q xs) (sym same) right.in_turn)),
    so.1 ((all_now (ShowsTruth t) again).1 (subst (All (ShowsTruth t)) (sym are_again) (All-from_recursion (ShowsTruth t) xs right.true_))),
  )),
)
