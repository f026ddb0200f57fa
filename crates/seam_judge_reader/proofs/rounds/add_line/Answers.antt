use Rattle.std.proofs.Common.{◌≡◌, List, ℕ, [], get_or, map, refl, ◌∙◌, ap}
use Rattle.std.proofs.lemmas.Result.{on_ok_weaker}
use Rattle.seam_judge_data.specs.Standings.{standing_of}
use Rattle.seam_judge_reader.proofs.Adding.{line_tells}
use Rattle.seam_judge_reader.proofs.rounds.add_line.Goals as goal

pub returns-in-Some-clause-told : goal.returns-in-Some-clause-told
returns-in-Some-clause-told c =
    let defs = c.args.known.now.header.now.defs in
    let book = (standing_of c.args.known.now.standing.now).book in
    let ws = map (λ w. w.now) c.args.words.now in
    on_ok_weaker c.add_data.result (λ told k x form can words.
    line_tells defs book c.args.round.now c.args.round.now refl c.add_data.new.round ws k c.in-Some.kind
    (c.in-Some.ensures k (c.word_at.ensures ∙ ap (λ (xs : List (List ℕ)). get_or xs 0 []) words))
    (λ y of_y can_y more. told y of_y can_y (c.words_from.ensures ∙ more)) x form can words)
    c.add_data.ensures.told
