use Rattle.std.proofs.Common.{◌≡◌, ◌≢◌, ℕ, List, ◌++◌, refl, sym, ◌∙◌, ap, subst, MatchOption}
use Rattle.std.proofs.lemmas.Bool.Decides.{Decides-eqb}
use Rattle.std.proofs.lemmas.Slice.Eq.{strip_prefix_is}
use Rattle.seam_rule_rounds.specs.Prelude.{refusal}
use Rattle.seam_check.proofs.judging.take_refusal.Goals as goal

pub returns-in-Some : goal.returns-in-Some
returns-in-Some c =
    let text = c.args.text.now in
    let p = c.as_slice.result.now in
    let expected =
    c.as_slice.ensures.value ∙ c.in_ok-push_refusal.ensures
    ∙ ap (λ (xs : List ℕ). xs ++ refusal c.args.line c.args.cause) c.new-expected.ensures.items in
    let begins =
    subst (λ r. MatchOption r ((rest : List ℕ) → text ≢ p ++ rest) (λ x. text ≡ p ++ x.now)) c.in-Some.is
    (strip_prefix_is Decides-eqb text p c.strip_prefix.result c.strip_prefix.ensures.cases) in
    begins ∙ ap (λ (xs : List ℕ). xs ++ c.in-Some.rest.now) expected

pub returns : goal.returns
returns c =
    let text = c.args.text.now in
    let p = c.as_slice.result.now in
    let expected =
    c.as_slice.ensures.value ∙ c.in_ok-push_refusal.ensures
    ∙ ap (λ (xs : List ℕ). xs ++ refusal c.args.line c.args.cause) c.new-expected.ensures.items in
    let other =
    subst (λ r. MatchOption r ((rest : List ℕ) → text ≢ p ++ rest) (λ x. text ≡ p ++ x.now)) c.in-None.is
    (strip_prefix_is Decides-eqb text p c.strip_prefix.result c.strip_prefix.ensures.cases) in
    (refl, (λ (after, is). other after (is ∙ ap (λ (xs : List ℕ). xs ++ after) (sym expected))))
