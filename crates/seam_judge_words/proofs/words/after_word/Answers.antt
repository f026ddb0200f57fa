use Rattle.std.proofs.Common.{◌≡◌, true, false, subst}
use Rattle.std.specs.Prelude.{◌≢◌, ◌∷◌, List, ℕ, MatchBool}
use Rattle.seam_judge_words.proofs.WordSteps.{word_quoted, word_plain}
use Rattle.seam_judge_words.proofs.words.after_word.Goals as goal

pub returns-then-begins_with_quote-clause-told : goal.returns-then-begins_with_quote-clause-told
returns-then-begins_with_quote-clause-told c =
    let begins =
    subst (λ b. MatchBool b ((rest : List ℕ) × (c.after_plain-rest.result.now ≡ 34 ∷ rest))
    ((rest : List ℕ) → c.after_plain-rest.result.now ≢ 34 ∷ rest)) c.if-begins_with_quote.true c.begins_with_quote.ensures in
    word_quoted c.args.line.now c.after_plain-rest.result.now c.after_plain-rest.ensures.told c.after_quoted.result.now
    c.after_quoted.ensures.told begins.0 begins.1

pub returns-else-begins_with_quote-clause-told : goal.returns-else-begins_with_quote-clause-told
returns-else-begins_with_quote-clause-told c =
    let other =
    subst (λ b. MatchBool b ((rest : List ℕ) × (c.after_plain-rest.result.now ≡ 34 ∷ rest))
    ((rest : List ℕ) → c.after_plain-rest.result.now ≢ 34 ∷ rest)) c.if-begins_with_quote.false c.begins_with_quote.ensures in
    word_plain c.args.line.now c.after_plain-rest.result.now c.after_plain-rest.ensures.told other
