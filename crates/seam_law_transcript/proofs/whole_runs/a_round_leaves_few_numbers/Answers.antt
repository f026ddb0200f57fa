use Rattle.seam_law_transcript.proofs.Prelude.{◌+◌, ◌*◌, length, sym, subst, arith, loaded, entries, replica_of, sent_by, numbers_of}
use Rattle.seam_law_transcript.proofs.Prelude.{MayBeLoaded, AreAtMost, AreAmong, frame_of, may_play, most_lines_of_look, batch_of, may_load}
use Rattle.seam_law_transcript.proofs.Created.{few_created}
use Rattle.seam_law_transcript.proofs.Present.{names, names_many, is_named}
use Rattle.seam_law_transcript.proofs.Ends.{reals_after, told_after}
use Rattle.seam_law_transcript.proofs.whole_runs.a_round_leaves_few_numbers.Goals as goal

pub returns-clause-bounded : goal.returns-clause-bounded
returns-clause-bounded c h s tree w g end v round ended =
    (c.a_round_keeps_the_records.ensures.round (frame_of h tree) (replica_of h s) w (batch_of h s.book) g.between.keeps g.bounded
    (c.a_round_may_be_run.ensures.given h s tree w g end) v round ended.quiet).1

pub returns-clause-few : goal.returns-clause-few
returns-clause-few c h s tree w g end v round ended t past rounds =
    let b = batch_of h s.book in
    let f = frame_of h tree in
    let keeps = g.between.keeps in
    let given = c.a_round_may_be_run.ensures.given h s tree w g end in
    let loads : MayBeLoaded f w b = may_load keeps given in
    let play = may_play h s tree w (c.a_round_may_be_run.ensures.stands h s tree w g end) in
    let named : AreAmong (names s.book) (loaded w b) = λ e k r at.
    let made = c.what_lines_bring_fits.ensures.comes h s.book tree (replica_of h s) w play e k r at in
    is_named s.book e made.0 made.1 in
    let many = names_many s.book in
    let most = few_created h s.book g.of_lines in
    let low = c.a_round_raises_numbers_little.ensures.reals f w b loads keeps.copies v round (3 * length s.book.past + 2 * s.rounds)
    g.few.reals in
    let told = c.a_round_raises_numbers_little.ensures.told f w b loads keeps.copies g.bounded.nothing g.bounded.sees (names s.book) named v
    round ended.quiet (most_lines_of_look * (16 * length s.book.past + s.rounds)) g.few.told in
    record {
      reals = subst (λ xs. AreAtMost numbers_of (3 * length xs + 2 * t.rounds) v) (sym past)
          (subst (λ n. AreAtMost numbers_of (3 * length (entries s.book) + 2 * n) v) (sym rounds) (reals_after h s v low));
      told = subst (λ xs. AreAtMost sent_by (most_lines_of_look * (16 * length xs + t.rounds)) v) (sym past)
          (subst (λ n. AreAtMost sent_by (most_lines_of_look * (16 * length (entries s.book) + n)) v) (sym rounds)
          (told_after h s v (1 + length (names s.book)) (omega (arith, many, most)) told));
    }
