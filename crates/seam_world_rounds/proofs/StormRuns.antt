-- How the run of a generated input ends.
use Rattle.std.proofs.Common.{◌≡◌, ◌≢◌, ◌≤◌, inl, inr, ℕ, false, List, [], ◌∷◌, ◌++◌, Some, None, refl, sym, ap, ◌∙◌, subst, arith}
use Rattle.std.proofs.Common.{append-nil}
use Rattle.std.proofs.KnownBytes.{Appends-trans, Appends-nil}
use Rattle.std.specs.Io.KnownBytes.{Appends}
use Rattle.std.specs.Prelude.{◌⊎◌}
use Rattle.seam_node_steps.specs.Prelude.{TypeDef}
use Rattle.seam_rule_rounds.specs.Prelude.{Rose, SourceState, SinkState, Line, lines_of, text_of_storm, Told, Journal, Piece, PrintAll}
use Rattle.seam_rule_rounds.specs.Prelude.{totals_text}
use Rattle.seam_rule_rounds.specs.declared.totals.Totals.{Totals}
use Rattle.seam_rule_lines.proofs.HeaderLemmas.{await_at_first}
use Rattle.seam_watch.proofs.Told.{told_nothing}
use Rattle.seam_rule_rounds.specs.Transcript.{text_of}
use Rattle.seam_rule_rounds.proofs.Beginning.{storm_begins, storm_is_short}
use Rattle.seam_world_ends.specs.Ends.{IsPrefix, IsProperPrefix, IsSoFar, MayComplete, the_space}
use Rattle.seam_world_rounds.specs.Output.{output_of}
use Rattle.seam_world_rounds.specs.Storm.{IsSummary, ArePlayed, StormStopped}
use Rattle.seam_world_rounds.specs.Histories.{OpenAs, EndedAs, Stopped}
use Rattle.seam_world_ends.specs.Printing.{StopsBy}
use Rattle.seam_world_ends.specs.declared.status.Status.{Status}
use Rattle.seam_world_ends.specs.declared.status.Status.TheVariants as status
use Rattle.seam_world_rounds.specs.declared.round.Output.TheVariants as output
use Rattle.seam_world_ends.proofs.Completing.{is_complete, all_lines, first_lines}

-- no text is given of it
nothing_given : (defs : List TypeDef) (pieces : List Piece) → output_of output.Sums defs pieces ≡ []
nothing_given defs [] = refl
nothing_given defs (p ∷ ps) = nothing_given defs ps

none_while_open : (lines : List Line) (text : List ℕ) (steps : List Journal) → OpenAs output.Sums lines text steps → text ≡ []
none_while_open lines text steps (inl (none, none', awaits)) = none
none_while_open lines text steps (inr (h, pieces, t, prints, played, is, are)) = is ∙ nothing_given h.defs pieces

none_at_the_end : (totals : Totals) (lines : List Line) (text : List ℕ) (steps : List Journal) →
    EndedAs output.Sums totals lines text steps →
    text ≡ []
none_at_the_end totals lines text steps (h, pieces, prints, played, is, are, counted) = is ∙ nothing_given h.defs pieces

no_proper_prefix : (text : List ℕ) → IsProperPrefix text [] → ⊥
no_proper_prefix [] (next, more, is) = cc
no_proper_prefix (b ∷ text) (next, more, is) = cc

-- so the sink does not fail
no_failure : (totals : Totals) (old new : SourceState) (given text whole : List ℕ) (steps : List Journal) → IsProperPrefix text whole →
    IsSoFar (OpenAs output.Sums) (EndedAs output.Sums totals) old new given whole steps → ⊥
no_failure totals old new given text whole steps proper (read, inl (first, so_far)) =
    no_proper_prefix text (subst (IsProperPrefix text) (none_while_open read whole steps so_far) proper)
no_failure totals old new given text whole steps proper (read, inr (all, ended)) =
    no_proper_prefix text (subst (IsProperPrefix text) (none_at_the_end totals read whole steps ended) proper)

-- the steps of what was played, where an allocation failed
played_so_far : (lines : ℕ) (read : List Line) (text : List ℕ) (steps : List Journal) → IsPrefix read (lines_of (text_of_storm lines)) →
    OpenAs output.Sums read text steps → ArePlayed lines steps
played_so_far lines read text steps first (inl (none, none', awaits)) = ([], inr (read, first, inl (refl, none', awaits)))
played_so_far lines read text steps first (inr (h, pieces, t, prints, played, is, are)) =
    (text_of false h.defs pieces, inr (read, first, inr (h, pieces, t, prints, played, refl, are)))

-- a sink of which nothing is asked
nowhere : SinkState
nowhere = record { written = None; faults = 0 }

module _ (lines : ℕ) (few : lines ≤ 1000000) (old new : SourceState) (begins : old.left ≡ Some (text_of_storm lines))
    (reads : ¬ (Rose old.faults new.faults)) where
  may_complete : MayComplete old new nowhere nowhere
  unfolding nowhere
  may_complete =
      let first = storm_begins lines in
      record {
        bytes = text_of_storm lines;
        left = begins;
        few = storm_is_short lines few;
        header = first.0;
        count = 1;
        rest = first.1;
        begins = first.2;
        reads = reads;
        writes = λ rose. omega (arith, rose);
      }

  module _ (totals : Totals) (st : Status) (sink mid : SinkState) (told told' : Told)
      (s : Stopped output.Sums totals st old new sink mid told told') where
    -- it is run to its end, unless an allocation fails
    runs_through : (st ≡ status.Done) ⊎ (st ≡ status.NoMemory)
    runs_through =
        is_complete (OpenAs output.Sums) (EndedAs output.Sums totals) st old new nowhere nowhere s.given s.text s.steps s.took s.means
        may_complete
        no_usage (λ is. absurd (no_fault is))
      where
        no_usage : st ≡ status.Usage → ⊥
        no_usage is = usage_is_none (subst (λ (x : Status). Stopped output.Sums totals x old new sink mid told told') is s)
          where
            usage_is_none : Stopped output.Sums totals status.Usage old new sink mid told told' → ⊥
            usage_is_none u = u.allowed

        no_fault : st ≡ status.WriteFault → ⊥
        no_fault is = fault_is_none (subst (λ (x : Status). Stopped output.Sums totals x old new sink mid told told') is s)
          where
            fault_is_none : Stopped output.Sums totals status.WriteFault old new sink mid told told' → ⊥
            fault_is_none f = let means = f.means in no_failure totals old new f.given f.text means.0 f.steps means.1 means.2

  module _ (totals : Totals) (sink mid : SinkState) (told told' : Told) where
    storm_out_of_memory : Stopped output.Sums totals status.NoMemory old new sink mid told told' →
        StormStopped lines status.NoMemory sink mid told told'
    storm_out_of_memory s =
        let (read, first, so_far) = s.means in
        record {
          text = [];
          steps = s.steps;
          writing = subst (Appends sink.written mid.written) (none_while_open read s.text s.steps so_far) s.writing;
          later = s.later;
          failed = λ e. cc;
          allowed = tt;
          means = (
            refl,
            played_so_far lines read s.text s.steps
                (first_lines old new (text_of_storm lines) s.given read begins s.took first) so_far,
          );
          watched = s.watched;
        }

    -- it did not end
    pub not_done : (st : Status) → Stopped output.Sums totals st old new sink mid told told' → st ≢ status.Done →
        StormStopped lines st sink mid told told'
    not_done st s other = by (runs_through totals st sink mid told told' s)
      where
        by : (st ≡ status.Done) ⊎ (st ≡ status.NoMemory) → StormStopped lines st sink mid told told'
        by (inl done) = absurd (other done)
        by (inr is) =
            subst (λ (x : Status). StormStopped lines x sink mid told told') (sym is)
            (storm_out_of_memory (subst (λ (x : Status). Stopped output.Sums totals x old new sink mid told told') is s))

    module _ (s : Stopped output.Sums totals status.Done old new sink mid told told') where
      abbrev summary : List ℕ
      summary = totals_text lines totals

      is_summary : IsSummary lines summary s.steps
      is_summary =
          let (low, read, all, (h, pieces, prints, played, is, are, counted)) = s.means in
          let input = sym (all_lines old new (text_of_storm lines) s.given read begins s.took all) in (
            h,
            pieces,
            subst (λ (ls : List Line). PrintAll ls h pieces) input prints,
            played,
            ap (totals_text lines) counted,
            are,
          )

      nothing_written : Appends sink.written mid.written []
      nothing_written =
          let (low, read, all, ended) = s.means in
          subst (Appends sink.written mid.written) (none_at_the_end totals read s.text s.steps ended) s.writing

      then : (now : SinkState) (text : List ℕ) → Appends mid.written now.written text → Appends sink.written now.written text
      then now text more = Appends-trans sink.written mid.written now.written [] text nothing_written more

      -- what came of writing the summary
      pub storm_written : (now : SinkState) (result : Status) →
          ((result ≡ status.NoMemory) × (now ≡ mid)) ⊎ StopsBy status.Done mid now summary result →
          StormStopped lines result sink now told told'
      storm_written now result (inl (is, same)) =
          subst (λ (x : Status). StormStopped lines x sink now told told') (sym is)
          (subst (λ (x : SinkState). StormStopped lines status.NoMemory sink x told told') (sym same) (record {
            text = [];
            steps = s.steps;
            writing = nothing_written;
            later = s.later;
            failed = λ e. cc;
            allowed = tt;
            means = (refl, (summary, inl is_summary));
            watched = s.watched;
          }))
      storm_written now result (inr (inl (is, p))) =
          subst (λ (x : Status). StormStopped lines x sink now told told') (sym is) (record {
            text = summary;
            steps = s.steps;
            writing = then now summary (subst (Appends mid.written now.written) (sym (p.whole ∙ append-nil p.wrote)) p.writing);
            later = let first = s.later in let more = p.later in omega (arith, first, more);
            failed = λ e. cc;
            allowed = tt;
            means = is_summary;
            watched = s.watched;
          })
      storm_written now result (inr (inr (is, f))) =
          subst (λ (x : Status). StormStopped lines x sink now told told') (sym is) (record {
            text = f.prefix;
            steps = s.steps;
            writing = then now f.prefix f.writing;
            later = let first = s.later in let more = f.later in omega (arith, first, more);
            failed = λ e. let first = s.later in let rose = f.rose in omega (arith, first, rose);
            allowed = tt;
            means = (summary, f.proper, is_summary);
            watched = s.watched;
          })

-- an allocation failed before the input was read
pub nothing_run : (lines : ℕ) (sink : SinkState) (told : Told) → StormStopped lines status.NoMemory sink sink told told
nothing_run lines sink told = record {
  text = [];
  steps = [];
  writing = Appends-nil sink.written;
  later = omega arith;
  failed = λ e. cc;
  allowed = tt;
  means = (refl, ([], inr ([], (lines_of (text_of_storm lines), refl), inl (refl, refl, await_at_first))));
  watched = told_nothing the_space told;
}
