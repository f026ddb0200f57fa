use Rattle.std.proofs.Common.{◌≡◌, ◌∙◌, List, ℕ, Some, None, map, refl, sym, ap}
use Rattle.std.proofs.lemmas.Result.{IfOk-weaker}
use Rattle.seam_judge_reader.proofs.Deeds.{deed_some, deed_none}
use Rattle.seam_judge_reader.proofs.context.deed.Goals as goal

pub returns-in-Some-clause-told : goal.returns-in-Some-clause-told
returns-in-Some-clause-told c =
    let ws = map (λ w. w.now) c.args.words.now in
    let name_is = ap (λ (name : List ℕ). Some name) c.word_at.ensures in
    IfOk-weaker c.called.result _ _
    (λ d told.
    deed_some c.args.t.now c.requires ws c.in-Some.number d (Some c.in-Some.number) refl (c.in-Some.ensures.found ∙ name_is)
    (λ j at. c.in-Some.ensures.all j (at ∙ sym name_is)) (λ vs below are e. told vs below are (c.words_from.ensures ∙ e)))
    c.called.ensures.told

pub returns-in-None-clause-told : goal.returns-in-None-clause-told
returns-in-None-clause-told c =
    let ws = map (λ w. w.now) c.args.words.now in
    let name_is = ap (λ (name : List ℕ). Some name) c.word_at.ensures in
    deed_none c.args.t.now c.requires ws c.position.result None refl (λ j at. c.in-None.ensures.all j (at ∙ sym name_is))
    (λ q is_position x z.
    c.position.ensures.told q is_position (c.word_at-in-None.ensures ∙ x) (c.word_at-in-None-2.ensures ∙ z))
