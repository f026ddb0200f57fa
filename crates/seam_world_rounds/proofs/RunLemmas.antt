-- How a run goes on, and how it stops.
use Rattle.std.proofs.Common.{◌≡◌, inl, inr, ℕ, List, [], ◌∷◌, ◌++◌, Option, None, Some, refl, sym}
use Rattle.std.proofs.Common.{ap, ◌∙◌, subst, arith, append-nil}
use Rattle.std.proofs.lemmas.List.Concat.{flat_map-append}
use Rattle.std.proofs.lemmas.List.Elements.{filter_map-append}
use Rattle.std.specs.Prelude.{MatchOption}
use Rattle.std.specs.Io.KnownBytes.{Appends}
use Rattle.std.proofs.lemmas.Option.{same_Some}
use Rattle.seam_node_steps.specs.Prelude.{Division, World, opened}
use Rattle.seam_rule_rounds.specs.Prelude.{Rose, SourceState, SinkState, Line, whole_lines_of, Reader, Reading, IsExact, Header}
use Rattle.seam_rule_rounds.specs.Prelude.{after_header, Standing, Piece, Step, PrintLines, journals_of, totals_of, Told, after_all}
use Rattle.seam_rule_rounds.specs.Prelude.{Journal}
use Rattle.seam_rule_rounds.specs.declared.totals.Totals.{Totals}
use Rattle.seam_io.specs.declared.lines.Next.TheVariants as next
use Rattle.seam_rule_rounds.specs.Transcript.{journal_of}
use Rattle.seam_rule_lines.proofs.RunLemmas.{run_with_line}
use Rattle.seam_rule_lines.proofs.HeaderLemmas.{header_of_append}
use Rattle.seam_law_transcript.specs.Prelude.{GoesOn, MayBreakOff}
use Rattle.seam_world_rounds.specs.Transcripts.{PlayRounds}
use Rattle.seam_world_rounds.specs.Following.{LineRead, InputEnded}
use Rattle.seam_world_rounds.specs.Output.{Counts, output_of, piece_output, sums_for}
use Rattle.seam_world_rounds.specs.declared.round.Output.{Output}
use Rattle.seam_world_rounds.specs.declared.round.Output.TheVariants as output
use Rattle.seam_world_rounds.specs.Script.{ScriptRefines, Refines, PlaysOn}
use Rattle.seam_world_ends.specs.Status.{IsRunEnd}
use Rattle.seam_watch.proofs.Told.{told_nothing, told_more}
use Rattle.seam_world_ends.specs.Ends.{AreAll, IsSoFar, Means, most_bytes, the_space}
use Rattle.seam_world_ends.specs.Headers.{HasHeader}
use Rattle.seam_world_rounds.specs.Histories.{Going, OpenAs, EndedAs, Stopped}
use Rattle.seam_world_ends.specs.Printing.{Printed, FailedWithin, StopsBy, Prints}
use Rattle.seam_world_rounds.specs.declared.script.Script.{Script}
use Rattle.seam_world_ends.specs.declared.status.Status.{Status}
use Rattle.seam_world_ends.specs.declared.status.Status.TheVariants as status
use Rattle.seam_world_rounds.proofs.Counting.{counted_after}
use Rattle.seam_world_rounds.proofs.Worlds.{played_then}
use Rattle.seam_world_ends.proofs.Prefixes.{are_first, within_limit}
use Rattle.seam_world_ends.proofs.PrintLemmas.{nothing_printed}

-- all of a text was written
all_written : (o : Output) (totals : Totals) (began later : SourceState) (after : Reader) (sink is : SinkState) (told told' : Told)
    (st : Status)
    (given : List ℕ) (read : List Line) (text : List ℕ) (steps : List Journal) → Reading began later after given read →
    after.limit ≡ most_bytes → Printed sink is [] text → told' ≡ after_all the_space steps told → (st ≡ status.WriteFault → ⊥) →
    IsRunEnd st → Means (OpenAs o) (EndedAs o totals) st began later given text steps →
    Stopped o totals st began later sink is told told'
all_written o totals began later after sink is told told' st given read text steps r most p watched other allowed means = record {
  given = given;
  text = text;
  steps = steps;
  took = r.took;
  most = within_limit r most;
  writing = subst (Appends sink.written is.written) (sym (p.whole ∙ append-nil p.wrote)) p.writing;
  later = p.later;
  failed = λ e. absurd (other e);
  allowed = allowed;
  means = means;
  watched = watched;
}

-- the sink failed within a text
sink_failed : (o : Output) (totals : Totals) (began later : SourceState) (after : Reader) (sink is : SinkState) (told told' : Told)
    (given : List ℕ)
    (read : List Line) (text : List ℕ) (steps : List Journal) → Reading began later after given read → after.limit ≡ most_bytes →
    FailedWithin sink is text → told' ≡ after_all the_space steps told →
    IsSoFar (OpenAs o) (EndedAs o totals) began later given text steps → Stopped o totals status.WriteFault began later sink is told told'
sink_failed o totals began later after sink is told told' given read text steps r most f watched transcript = record {
  given = given;
  text = f.prefix;
  steps = steps;
  took = r.took;
  most = within_limit r most;
  writing = f.writing;
  later = f.later;
  failed = λ e. f.rose;
  allowed = tt;
  means = (text, f.proper, transcript);
  watched = watched;
}

-- the source and the sink after a call, and what is pending then
module _ (o : Output) (began : SourceState) (sink : SinkState) (told : Told) (now : SourceState) (reader : Reader) (was is : SinkState)
    (had : Told) (pending : List ℕ) (script : Script) (g : Going o began now reader sink was told had pending script)
    (law : (h : Header) (t : Standing) (tree : Division) (w : World) → GoesOn h t tree w → MayBreakOff h t w) where
  abbrev text : List ℕ
  text = output_of o g.header.defs g.pieces

  abbrev steps : List Journal
  steps = journals_of g.pieces

  -- what was printed until then was written as far as may be
  pub with_printed : (pending' : List ℕ) → Printed sink is pending' text → Going o began now reader sink is told had pending' script
  with_printed pending' p = record {
    header = g.header;
    count = g.count;
    given = g.given;
    read = g.read;
    rest = g.rest;
    pieces = g.pieces;
    standing = g.standing;
    begins = g.begins;
    reading = g.reading;
    limit = g.limit;
    printed = p;
    watched = g.watched;
    run = g.run;
    refines = g.refines;
    played = g.played;
    counted = g.counted;
  }

  -- the round that is open in the world of a script may break off
  breaks_off : (t : Standing) (new : Script) (refines : ScriptRefines g.header t new) → MayBreakOff g.header t refines.has.world
  breaks_off t new refines = law g.header t refines.has.tree refines.has.world refines.has.goes_on

  so_far : PrintLines g.read g.header g.pieces g.standing
  so_far = record { count = g.count; rest = g.rest; header = g.begins; run = g.run }

  open_so_far : OpenAs o g.read text steps
  open_so_far = inr (
    g.header,
    g.pieces,
    g.standing,
    so_far,
    (g.refines.has.world, g.played, breaks_off g.standing script g.refines),
    refl,
    refl,
  )

  -- the sink failed before the next line was read
  pub failed_before : (totals : Totals) → FailedWithin sink is (output_of o g.header.defs g.pieces) →
      Stopped o totals status.WriteFault began now sink is told had
  failed_before totals f = sink_failed o totals began now reader sink is told had g.given g.read text steps g.reading g.limit f g.watched (
    g.read,
    inl (
      are_first began now reader g.given g.read []
          (subst (λ (x : List Line). Reading began now reader g.given x) (sym (append-nil g.read)) g.reading),
      open_so_far,
    ),
  )

  module _ (later : SourceState) (after : Reader) (limit : after.limit ≡ reader.limit) (has : Told) (totals : Totals) where
    most : after.limit ≡ most_bytes
    most = limit ∙ g.limit

    text_with : (pieces : List Piece) → output_of o g.header.defs (g.pieces ++ pieces) ≡ text ++ output_of o g.header.defs pieces
    text_with pieces = flat_map-append (piece_output o g.header.defs) g.pieces pieces

    steps_with : (pieces : List Piece) → journals_of (g.pieces ++ pieces) ≡ steps ++ journals_of pieces
    steps_with pieces = filter_map-append journal_of g.pieces pieces

    -- the watch was told the steps of further pieces
    told_so_far : (more : List Journal) → has ≡ after_all the_space more had → has ≡ after_all the_space (steps ++ more) told
    told_so_far more given = given ∙ ap (after_all the_space more) g.watched ∙ told_more the_space steps more told

    told_no_more : has ≡ had → has ≡ after_all the_space steps told
    told_no_more same = same ∙ g.watched

    -- the world of the script played these rounds too
    played_more : (pieces : List Piece) (left : Option World) (v : World) → left ≡ Some v → PlaysOn g.header script.world left pieces →
        PlayRounds g.header (opened g.header.defs g.header.settings) (g.pieces ++ pieces) v
    played_more pieces left v is on =
        let (next, left_is, played) = on g.refines.has.world g.refines.has.is in
        played_then g.header (opened g.header.defs g.header.settings) g.refines.has.world v g.pieces pieces g.played
        (subst (λ (u : World). PlayRounds g.header g.refines.has.world pieces u) (same_Some next v (sym left_is ∙ is)) played)

    going_on : (line : Line) (got piece pending' : List ℕ) (more : List Journal) (new : Script) →
        Reading began later after (g.given ++ got) (g.read ++ line ∷ []) →
        LineRead o g.header g.standing line (Refines o g.header script new) piece more → Printed sink is pending' (text ++ piece)
        → has ≡ after_all the_space more had → Going o began later after sink is told has pending' new
    going_on line got piece pending' more new r taken p given = record {
      header = g.header;
      count = g.count;
      given = g.given ++ got;
      read = g.read ++ line ∷ [];
      rest = g.rest ++ line ∷ [];
      pieces = g.pieces ++ taken.pieces;
      standing = taken.next;
      begins = header_of_append g.read g.header g.count g.rest (line ∷ []) g.begins;
      reading = r;
      limit = most;
      printed = subst (Printed sink is pending')
          (ap (λ (x : List ℕ). text ++ x) taken.whole ∙ sym (text_with taken.pieces)) p;
      watched = told_so_far more given
          ∙ ap (λ (js : List Journal). after_all the_space js told)
          (ap (λ (js : List Journal). steps ++ js) taken.stepped ∙ sym (steps_with taken.pieces));
      run = run_with_line (Step g.header) (after_header g.header g.count) g.rest g.pieces g.standing line taken.pieces taken.next g.run
          taken.step;
      refines = taken.after.0;
      played = played_more taken.pieces new.world taken.after.0.has.world taken.after.0.has.is taken.after.2;
      counted = counted_after o g.pieces taken.pieces script.totals new.totals g.counted taken.after.1;
    }

    open_more : (line : Line) (piece : List ℕ) (more : List Journal) (new : Script) →
        LineRead o g.header g.standing line (Refines o g.header script new) piece more →
        OpenAs o (g.read ++ line ∷ []) (text ++ piece) (steps ++ more)
    open_more line piece more new taken = inr (
      g.header,
      g.pieces ++ taken.pieces,
      taken.next,
      record {
        count = g.count;
        rest = g.rest ++ line ∷ [];
        header = header_of_append g.read g.header g.count g.rest (line ∷ []) g.begins;
        run = run_with_line (Step g.header) (after_header g.header g.count) g.rest g.pieces g.standing line taken.pieces taken.next g.run
            taken.step;
      },
      (
        taken.after.0.has.world,
        played_more taken.pieces new.world taken.after.0.has.world taken.after.0.has.is taken.after.2,
        breaks_off taken.next new taken.after.0,
      ),
      ap (λ (x : List ℕ). text ++ x) taken.whole ∙ sym (text_with taken.pieces),
      ap (λ (js : List Journal). steps ++ js) taken.stepped ∙ sym (steps_with taken.pieces),
    )

    -- what is given of the end, and the world that the script is left with
    abbrev Left : Option World → List Piece → Type 0
    Left left pieces = Counts o script.totals totals pieces × PlaysOn g.header script.world left pieces

    ended : (left : Option World) (piece : List ℕ) (more : List Journal) → InputEnded o g.header g.standing (Left left) piece more →
        EndedAs o totals g.read (text ++ piece) (steps ++ more)
    ended left piece more l = (
      g.header,
      g.pieces ++ l.pieces,
      (g.pieces, l.pieces, g.standing, so_far, l.ends, refl),
      let (v, is, played) = l.counted.1 g.refines.has.world g.refines.has.is in (v, played_more l.pieces left v is l.counted.1),
      ap (λ (x : List ℕ). text ++ x) l.whole ∙ sym (text_with l.pieces),
      ap (λ (js : List Journal). steps ++ js) l.stepped ∙ sym (steps_with l.pieces),
      counted_after o g.pieces l.pieces script.totals totals g.counted l.counted.0,
    )

    first_so_far : (got : List ℕ) (more : List Line) → Reading began later after (g.given ++ got) (g.read ++ more) →
        IsSoFar (OpenAs o) (EndedAs o totals) began later (g.given ++ got) text steps
    first_so_far got more r = (g.read, inl (are_first began later after _ g.read more r, open_so_far))

    -- an allocation failed: nothing of this line was printed
    no_memory : (got : List ℕ) (more : List Line) → Reading began later after (g.given ++ got) (g.read ++ more) → Printed sink is [] text
        → has ≡ had → Stopped o totals status.NoMemory began later sink is told has
    no_memory got more r p same =
        all_written o totals began later after sink is told has status.NoMemory (g.given ++ got) (g.read ++ more) text steps r most p
        (told_no_more same) (λ e. cc) tt (g.read, are_first began later after _ g.read more r, open_so_far)

    -- one more line, whatever the call that printed it answered
    pub line_printed : (line : Line) (got pending' : List ℕ) (new : Script) (result : Option Status) →
        Reading began later after (g.given ++ got) (g.read ++ line ∷ [])
        → Prints (LineRead o g.header g.standing line (Refines o g.header script new)) sink is pending'
        (output_of o g.header.defs g.pieces) had has result
        → MatchOption result (Going o began later after sink is told has pending' new)
        (λ st. Stopped o totals st began later sink is told has)
    line_printed line got pending' new None r (piece, more, read, p, given) = going_on line got piece pending' more new r read p given
    line_printed line got pending' new (Some status.NoMemory) r p = no_memory got (line ∷ []) r p.0 p.1
    line_printed line got pending' new (Some status.WriteFault) r (inl f) =
        sink_failed o totals began later after sink is told has (g.given ++ got) _ text steps r most f.0 (told_no_more f.1)
        (first_so_far got (line ∷ []) r)
    line_printed line got pending' new (Some status.WriteFault) r (inr (piece, more, read, f, given)) =
        sink_failed o totals began later after sink is told has (g.given ++ got) _ (text ++ piece) (steps ++ more) r most f
        (told_so_far more given) (
          g.read ++ line ∷ [],
          inl (
            are_first began later after _ (g.read ++ line ∷ []) []
                (subst (λ (x : List Line). Reading began later after (g.given ++ got) x) (sym (append-nil (g.read ++ line ∷ []))) r),
            open_more line piece more new read,
          ),
        )
    line_printed line got pending' new (Some status.Done) r p = absurd p
    line_printed line got pending' new (Some status.Usage) r p = absurd p
    line_printed line got pending' new (Some (status.BadHeader k)) r p = absurd p
    line_printed line got pending' new (Some status.ReadFault) r p = absurd p
    line_printed line got pending' new (Some status.Limit) r p = absurd p

    -- the end of the input
    all_of : (got : List ℕ) → Reading began later after (g.given ++ got) (g.read ++ []) → IsExact next.End after (g.given ++ got) g.read
        → AreAll began later (g.given ++ got) g.read
    all_of got r exact =
        let end = exact.ended.0 refl in
        let at = r.ended end.0 in
        (at.1, at.0, end.1)

    pub done : (left : Option World) (got : List ℕ) → Reading began later after (g.given ++ got) (g.read ++ []) →
        IsExact next.End after (g.given ++ got) g.read
        → Prints (InputEnded o g.header g.standing (Left left)) sink is [] (output_of o g.header.defs g.pieces) had has None →
        Stopped o totals status.Done began later sink is told has
    done left got r exact (piece, more, ends, p, given) =
        let at = r.ended (exact.ended.0 refl).0 in
        let count = r.count in
        let low = at.2 in
        let bound = most in
        all_written o totals began later after sink is told has status.Done (g.given ++ got) _ (text ++ piece) (steps ++ more) r most p
        (told_so_far more given) (λ e. cc) tt (omega arith, g.read, all_of got r exact, ended left piece more ends)

    pub last_printed : (left : Option World) (got : List ℕ) (st : Status) → Reading began later after (g.given ++ got) (g.read ++ []) →
        IsExact next.End after (g.given ++ got) g.read
        → Prints (InputEnded o g.header g.standing (Left left)) sink is [] (output_of o g.header.defs g.pieces) had has (Some st) →
        Stopped o totals st began later sink is told has
    last_printed left got status.NoMemory r exact p = no_memory got [] r p.0 p.1
    last_printed left got status.WriteFault r exact (inl f) =
        sink_failed o totals began later after sink is told has (g.given ++ got) _ text steps r most f.0 (told_no_more f.1)
        (first_so_far got [] r)
    last_printed left got status.WriteFault r exact (inr (piece, more, ends, f, given)) =
        sink_failed o totals began later after sink is told has (g.given ++ got) _ (text ++ piece) (steps ++ more) r most f
        (told_so_far more given) (g.read, inr (all_of got r exact, ended left piece more ends))
    last_printed left got status.Done r exact p = absurd p
    last_printed left got status.Usage r exact p = absurd p
    last_printed left got (status.BadHeader k) r exact p = absurd p
    last_printed left got status.ReadFault r exact p = absurd p
    last_printed left got status.Limit r exact p = absurd p

    whole_open : (got : List ℕ) → whole_lines_of (g.given ++ got) ≡ g.read → OpenAs o (whole_lines_of (g.given ++ got)) text steps
    whole_open got e = subst (λ (x : List Line). OpenAs o x text steps) (sym e) open_so_far

    stopped_by : (wanted result : Status) (got : List ℕ) → has ≡ had → Reading began later after (g.given ++ got) (g.read ++ []) →
        (Printed sink is [] text → Stopped o totals wanted began later sink is told has) → StopsBy wanted sink is text result
        → Stopped o totals result began later sink is told has
    stopped_by wanted result got same r stopped (inl s) =
        subst (λ (st : Status). Stopped o totals st began later sink is told has) (sym s.0) (stopped s.1)
    stopped_by wanted result got same r stopped (inr s) =
        subst (λ (st : Status). Stopped o totals st began later sink is told has) (sym s.0)
        (sink_failed o totals began later after sink is told has (g.given ++ got) _ text steps r most s.1 (told_no_more same)
        (first_so_far got [] r))

    -- a fault of the source, or the limit
    pub read_fault : (got : List ℕ) (result : Status) → has ≡ had → Reading began later after (g.given ++ got) (g.read ++ []) →
        IsExact next.ReadFault after (g.given ++ got) g.read
        → Rose now.faults later.faults → StopsBy status.ReadFault sink is (output_of o g.header.defs g.pieces) result
        → Stopped o totals result began later sink is told has
    read_fault got result same r exact rose s =
        let here = exact.fault refl in
        let count = r.count in
        let bound = most in
        let low = here.1 in
        let earlier = g.reading.faults in
        stopped_by status.ReadFault result got same r (λ p.
        all_written o totals began later after sink is told has status.ReadFault (g.given ++ got) _ text steps r most p (told_no_more same)
        (λ e. cc) tt (omega arith, omega arith, whole_open got here.2)) s

    pub limit_reached : (got : List ℕ) (result : Status) → has ≡ had → Reading began later after (g.given ++ got) (g.read ++ []) →
        IsExact next.Limit after (g.given ++ got) g.read
        → StopsBy status.Limit sink is (output_of o g.header.defs g.pieces) result → Stopped o totals result began later sink is told has
    limit_reached got result same r exact s =
        let here = exact.full.0 refl in
        stopped_by status.Limit result got same r (λ p.
        all_written o totals began later after sink is told has status.Limit (g.given ++ got) _ text steps r most p (told_no_more same)
        (λ e. cc) tt (sym r.count ∙ here.0 ∙ most, whole_open got here.1)) s

-- the run goes on after the header
pub after_a_header : (o : Output) (began now : SourceState) (reader : Reader) (sink : SinkState) (told : Told) (h : Header) (count : ℕ)
    (pending : List ℕ) (script : Script) → HasHeader began now reader h count → pending ≡ [] →
    ScriptRefines h (after_header h count) script → script.totals ≡ totals_of [] → script.world ≡ Some (opened h.defs h.settings) →
    Going o began now reader sink sink told told pending script
after_a_header o began now reader sink told h count pending script has none refines totals world = record {
  header = h;
  count = count;
  given = has.given;
  read = has.read;
  rest = [];
  pieces = [];
  standing = after_header h count;
  begins = has.begins;
  reading = has.reading;
  limit = has.limit;
  printed = nothing_printed sink pending none;
  watched = told_nothing the_space told;
  run = (refl, refl);
  refines = refines;
  played = same_Some refines.has.world (opened h.defs h.settings) (sym refines.has.is ∙ world);
  counted = totals ∙ sym (ap totals_of (nothing_for o));
}
  where
    nothing_for : (o : Output) → sums_for o [] ≡ []
    nothing_for output.Rounds = refl
    nothing_for output.TracedRounds = refl
    nothing_for output.Sums = refl
