use Rattle.seam_law_transcript.proofs.Prelude.{length, ap, arith, length-append, append-nil, entries, called, calls_of, replica_of}
use Rattle.seam_law_transcript.proofs.Prelude.{as_begun, may_play, mapped_few}
use Rattle.seam_defs.specs.declared.flags.Part.TheVariants as part
use Rattle.seam_law_transcript.proofs.Fewer.{no_more}
use Rattle.seam_law_transcript.proofs.whole_runs.a_round_may_be_run.Goals as goal

pub returns-clause-some : goal.returns-clause-some
returns-clause-some c h s tree w g some few all =
    let rounds = g.counted.rounds in
    record { counted = omega (arith, rounds, some); lines = few; all = all }

pub returns-clause-synced : goal.returns-clause-synced
returns-clause-synced c h s tree w g few all =
    let rounds = g.counted.rounds in
    record { counted = omega (arith, rounds); lines = few; all = all }

pub returns-clause-stands : goal.returns-clause-stands
returns-clause-stands c h s tree w g end =
    let b = s.book in
    let all = end.all in
    let rounds = g.counted.rounds in
    let entries_ = g.counted.entries_ in
    let both = length-append b.past b.current in
    record {
      between = g.between;
      legal = g.legal;
      of_lines = g.of_lines;
      few = record { lines = end.lines; entries_ = omega (arith, entries_, all) };
      room = record {
        reals = λ e k r at. let few = g.few.reals e k r at in omega (arith, few, both, entries_, rounds, all);
        clients = λ e k r at p there.
            let told = g.few.told e k r at in
            let lives = g.between.goes.reals e k r at in
            let version = (g.between.before.parts e p lives.0 there lives.1).version in
            let few = no_more part.Base e (s.orders part.Base e) (calls_of (entries (as_begun b))) (g.between.before.full part.Base e) in
            let calls = mapped_few called (entries (as_begun b)) in
            let past = ap length (append-nil b.past) in
            omega (arith, told, version, few, calls, past, both, entries_, rounds, all);
      };
    }

pub returns-clause-given : goal.returns-clause-given
returns-clause-given c h s tree w g end =
    c.what_lines_bring_fits.ensures.given h s.book tree (replica_of h s) w (may_play h s tree w (returns-clause-stands c h s tree w g end))
