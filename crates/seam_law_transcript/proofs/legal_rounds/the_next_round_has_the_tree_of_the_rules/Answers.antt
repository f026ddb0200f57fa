use Rattle.seam_law_transcript.proofs.Prelude.{◌≡◌, Bool, true, false, refl, MatchBool, has_balance}
use Rattle.seam_law_transcript.proofs.legal_rounds.the_next_round_has_the_tree_of_the_rules.Goals as goal

where_true : (b : Bool) (A B : Type 0) → b ≡ true → A → MatchBool b A B
where_true true A B is x = x
where_true false A B is x = absurd (let z = is in cc)

where_false : (b : Bool) (A B : Type 0) → b ≡ false → B → MatchBool b A B
where_false true A B is y = absurd (let z = is in cc)
where_false false A B is y = y

pub returns-clause-kept : goal.returns-clause-kept
returns-clause-kept c h s tree w v p none = where_false (has_balance s.book) _ _ none (refl, refl)

pub returns-clause-balanced : goal.returns-clause-balanced
returns-clause-balanced c h s tree w v p u some balanced = where_true (has_balance s.book) _ _ some (u, balanced, refl, refl)

pub returns-clause-replaces : goal.returns-clause-replaces
returns-clause-replaces c t u tree same = record { tree = tree; space = same.size; cells = same.cells }
