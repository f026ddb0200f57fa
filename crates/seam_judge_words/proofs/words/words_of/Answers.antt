use Rattle.std.proofs.Common.{◌≡◌, ℕ, List, ◌∷◌, map, sym, ◌∙◌, subst}
use Rattle.seam_law_texts.specs.Words.{spaced}
use Rattle.seam_judge_words.proofs.WordSteps.{ToCome, one_more, spaced_stops, to_end, to_go_on, word_before}
use Rattle.seam_judge_words.proofs.words.words_of.Goals as goal

pub loop-words-preserved : goal.loop-words-preserved
loop-words-preserved c = λ first others is are e.
    let come = c.loop-words.invariant first others is are e in
    let after : c.after_word-after.result.now ≡ spaced come.words =
    c.after_word-after.ensures.told come.word (spaced come.words) come.is_word (spaced_stops come.words) come.is in
    let got = word_before c.loop-words.rest.now c.after_word-after.result.now come.word (spaced come.words) come.is after in
    subst (λ (read : List (List ℕ)). ToCome c.in-Some.others.now read (first ∷ others))
    (sym (one_more (λ w. w.now) c.loop-words.words.items c.push.new.self.items _ c.in_ok-push.ensures.items))
    (to_go_on c.loop-words.rest.now c.after_word-after.result.now c.in-Some.others.now (map (λ w. w.now) c.loop-words.words.items)
    (first ∷ others) come _ got after c.in-Some.ensures.space)

pub returns-in-None : goal.returns-in-None
returns-in-None c = λ first others is are e.
    let come = c.loop-words.invariant first others is are e in
    let after : c.after_word-after.result.now ≡ spaced come.words =
    c.after_word-after.ensures.told come.word (spaced come.words) come.is_word (spaced_stops come.words) come.is in
    let got = word_before c.loop-words.rest.now c.after_word-after.result.now come.word (spaced come.words) come.is after in
    one_more (λ w. w.now) c.loop-words.words.items c.push.new.self.items _ c.in_ok-push.ensures.items
    ∙ to_end c.loop-words.rest.now c.after_word-after.result.now (map (λ w. w.now) c.loop-words.words.items) (first ∷ others) come _ got
    after c.in-None.ensures.space
