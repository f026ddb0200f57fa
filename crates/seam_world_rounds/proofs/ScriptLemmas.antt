-- What a script does to its standing.
use Rattle.std.proofs.Common.{◌≡◌, ◌≢◌, ℕ, ◌+◌, ◌≤◌, List, [], ◌∷◌, Some, sym, ap, ◌∙◌, subst, arith, length-append}
use Rattle.std.proofs.lemmas.Option.{same_Some}
use Rattle.seam_node_steps.specs.Prelude.{Division, Batch, World, opened}
use Rattle.seam_rule_rounds.specs.Prelude.{Line, Header, open_lines, one_cell, with_entry, empty_book, Judges, Cause, Entry, MOST_LINES}
use Rattle.seam_rule_rounds.specs.Prelude.{Standing, after_header, with_line, with_book, replica_of}
use Rattle.seam_law_all.specs.Prelude.{MayBeGiven}
use Rattle.seam_law_book.specs.Prelude.{IsAccepted, as_begun, frame_of}
use Rattle.seam_law_transcript.specs.Prelude.{HasPlayableRound, MayEnd, most_lines, GoesOn}
use Rattle.seam_rule_lines.specs.declared.verdict.Verdict.TheVariants as verdict
use Rattle.seam_accept.specs.Refines.{Refines as HoldsBook, LineAccepted}
use Rattle.seam_accept.specs.declared.answers.Accepted.{Accepted}
use Rattle.seam_accept.specs.declared.answers.Accepted.TheVariants as answer
use Rattle.seam_accept.specs.Batches.{batch_of}
use Rattle.seam_quiet.specs.RoundRuns.{MayRun}
use Rattle.seam_world_text.specs.Residents.{AreResidents}
use Rattle.seam_world_text.specs.declared.residents.Resident.{Resident}
use Rattle.seam_world_rounds.specs.PlayedRound.{HasPlayed}
use Rattle.seam_world_rounds.specs.declared.round.Played.{Played}
use Rattle.seam_world_rounds.specs.Output.{refusal_output}
use Rattle.seam_world_rounds.specs.declared.round.Output.{Output}
use Rattle.seam_world_rounds.specs.Script.{HasWorld, ScriptRefines, Refines, IsReady, HasAccepted}
use Rattle.seam_world_rounds.specs.Following.{LineRead}
use Rattle.seam_world_rounds.specs.declared.script.Script.{Script}
use Rattle.seam_world_rounds.proofs.Counting.{refusal_counted}
use Rattle.seam_world_rounds.proofs.Following.{refused}
use Rattle.seam_world_rounds.proofs.Worlds.{refusal_played}

-- where a script begins
pub script_begins : (h : Header) (count : ℕ) (s : Script) → count ≤ most_lines → s.header ≡ h → s.line ≡ count → s.round ≡ 0 →
    HoldsBook h (empty_book h.settings.size) s.book → (w : World) → s.world ≡ Some w → w ≡ opened h.defs h.settings →
    GoesOn h (after_header h count) (one_cell h.settings.size) (opened h.defs h.settings) →
    AreResidents (empty_book h.settings.size) s.residents → ScriptRefines h (after_header h count) s
script_begins h count s few header line round book w is made goes_on residents = record {
  has = record {
    header = header;
    world = opened h.defs h.settings;
    is = is ∙ ap (λ u. Some u) made;
    tree = one_cell h.settings.size;
    goes_on = goes_on;
    residents = residents;
    round = round;
  };
  book = book;
  line = line;
  most = few;
  below_most = omega arith;
}

-- whatever changed in the script, its world did not
pub same_world : (h : Header) (t : Standing) (old new : Script) → HasWorld h t old → new.header ≡ old.header → new.world ≡ old.world →
    new.residents ≡ old.residents → new.round ≡ old.round → HasWorld h t new
same_world h t old new was header world residents round = record {
  header = header ∙ was.header;
  world = was.world;
  is = world ∙ was.is;
  tree = was.tree;
  goes_on = was.goes_on;
  residents = subst (AreResidents (as_begun t.book)) (sym residents) was.residents;
  round = round ∙ was.round;
}

module _ (h : Header) (t : Standing) where
  -- the course of a standing goes on with each line
  abbrev GoesOnWithLine : Type 0
  GoesOnWithLine = (tree : Division) (w : World) → GoesOn h t tree w → GoesOn h (with_line t) tree w

  abbrev GoesOnWithEntry : Type 0
  GoesOnWithEntry = (tree : Division) (w : World) (x : Entry) → GoesOn h t tree w → IsAccepted h t.book x →
      GoesOn h (with_book (with_line t) (with_entry t.book x)) tree w

  -- a line that adds nothing
  with_line_read : GoesOnWithLine → (s : Script) → HasWorld h t s → HasWorld h (with_line t) s
  with_line_read goes s was = record {
    header = was.header;
    world = was.world;
    is = was.is;
    tree = was.tree;
    goes_on = goes was.tree was.world was.goes_on;
    residents = was.residents;
    round = was.round;
  }

  -- a line was refused
  pub refused_line : GoesOnWithLine → (line : Line) (c : Cause) (old new : Script) → ScriptRefines h t old → new.header ≡ old.header →
      new.world ≡ old.world → new.residents ≡ old.residents → new.round ≡ old.round → new.line ≡ old.line + 1 → new.line ≤ most_lines →
      new.book ≡ old.book → new.totals ≡ old.totals → Judges h t.book line (verdict.Refused c) → (o : Output) →
      LineRead o h t line (Refines o h old new) (refusal_output o new.line c) []
  refused_line goes line c old new was header world residents round counted most book totals judges o =
      let number : new.line ≡ t.lines + 1 = counted ∙ ap (λ (n : ℕ). n + 1) was.line in
      subst (λ (n : ℕ). LineRead o h t line (Refines o h old new) (refusal_output o n c) []) (sym number)
      (refused o h t line c (Refines o h old new) judges (
        record {
          has = with_line_read goes new (same_world h t old new was.has header world residents round);
          book = subst (HoldsBook h t.book) (sym book) was.book;
          line = number;
          most = omega (arith, number, most);
          below_most = was.below_most;
        },
        refusal_counted o (t.lines + 1) c old.totals new.totals totals,
        refusal_played h old.world new.world (t.lines + 1) c world,
      ))

  -- the book answered a line that the script has counted
  pub has_accepted : (line : Line) (a : Accepted) (old new : Script) → ScriptRefines h t old → new.header ≡ old.header →
      new.world ≡ old.world → new.residents ≡ old.residents → new.round ≡ old.round → new.line ≡ old.line + 1 → new.line ≤ most_lines →
      LineAccepted h t.book line a new.book → HasAccepted h t line a new
  has_accepted line a old new was header world residents round counted most answered =
      let number : new.line ≡ t.lines + 1 = counted ∙ ap (λ (n : ℕ). n + 1) was.line in
      record {
        has = same_world h t old new was.has header world residents round;
        answered = answered;
        line_ = number;
        most = omega (arith, number, most);
        below_most = was.below_most;
      }

  -- after a line that is skipped
  pub skipped_refines : GoesOnWithLine → (line : Line) (s : Script) → HasAccepted h t line answer.Skipped s →
      ScriptRefines h (with_line t) s
  skipped_refines goes line s was = record {
    has = with_line_read goes s was.has;
    book = was.answered.1;
    line = was.line_;
    most = was.most;
    below_most = was.below_most;
  }

  -- where a line ends the round
  pub sync_ready : GoesOnWithLine → (line : Line) (s : Script) → HasAccepted h t line answer.Synced s → MayEnd (with_line t) →
      IsReady h (with_line t) s
  sync_ready goes line s was may = record {
    has = with_line_read goes s was.has;
    book = was.answered.1;
    line = was.line_;
    may = may;
  }

  -- it may end
  pub sync_may_end : (line : Line) (s : Script) → HasAccepted h t line answer.Synced s →
      ((tree : Division) (w : World) → GoesOn h t tree w → open_lines t.book ≤ MOST_LINES → t.lines + 1 ≤ most_lines →
      MayEnd (with_line t)) → MayEnd (with_line t)
  sync_may_end line s was synced =
      let below = was.below_most in synced was.has.tree was.has.world was.has.goes_on (omega (arith, below)) was.most

  -- at the end of the input a round with a line may end
  pub open_ready : (s : Script) → ScriptRefines h t s →
      ((tree : Division) (w : World) → GoesOn h t tree w → 1 ≤ open_lines t.book → open_lines t.book ≤ MOST_LINES →
      t.lines ≤ most_lines → MayEnd t) → open_lines t.book ≢ 0 → IsReady h t s
  open_ready s was may some =
      let below = was.below_most in record {
        has = was.has;
        book = was.book;
        line = was.line;
        may = may was.has.tree was.has.world was.has.goes_on (omega (arith, some)) (omega (arith, below)) was.most;
      }

  -- after a line that is kept: the round is full, or has room
  module _ (goes : GoesOnWithEntry) (line : Line) (s : Script) (was : HasAccepted h t line answer.Kept s) where
    abbrev x : Entry
    x = was.answered.0

    abbrev next : Standing
    next = with_book (with_line t) (with_entry t.book x)

    pub one_more : open_lines (with_entry t.book x) ≡ open_lines t.book + 1
    one_more = length-append t.book.current (x ∷ [])

    pub kept_world : HasWorld h next s
    kept_world = record {
      header = was.has.header;
      world = was.has.world;
      is = was.has.is;
      tree = was.has.tree;
      goes_on = goes was.has.tree was.has.world x was.has.goes_on (line, was.answered.1);
      residents = was.has.residents;
      round = was.has.round;
    }

    -- a full round may end
    pub full_may_end : ((s : Standing) (tree : Division) (w : World) → GoesOn h s tree w → 1 ≤ open_lines s.book →
        open_lines s.book ≤ MOST_LINES → s.lines ≤ most_lines → MayEnd s) → open_lines (with_entry t.book x) ≡ MOST_LINES → MayEnd next
    unfolding kept_world
    full_may_end some full =
        some next was.has.tree was.has.world kept_world.goes_on (omega (arith, full)) (omega (arith, full)) was.most

    pub kept_ready : MayEnd next → IsReady h next s
    kept_ready may = record { has = kept_world; book = was.answered.2; line = was.line_; may = may }

    pub kept_refines : open_lines (with_entry t.book x) ≢ MOST_LINES → ScriptRefines h next s
    kept_refines open_ =
        let below = was.below_most in
        let lines = one_more in
        record {
          has = kept_world;
          book = was.answered.2;
          line = was.line_;
          most = was.most;
          below_most = omega (arith, open_, below, lines);
        }

-- ---- where the open round is to end

module _ (h : Header) (t : Standing) (s : Script) (ready : IsReady h t s) (world : World) (is : s.world ≡ Some world) (batch : Batch)
    (brings : batch ≡ batch_of h t.book) where
  pub same : ready.has.world ≡ world
  same = same_Some ready.has.world world (sym ready.has.is ∙ is)

  -- its batch may be run in the script's world
  pub may_run : MayBeGiven (frame_of h ready.has.tree) ready.has.world (batch_of h t.book) →
      MayRun (frame_of h ready.has.tree) (replica_of h t) world batch
  may_run given =
      subst (λ w. MayRun (frame_of h ready.has.tree) (replica_of h t) w batch) same
      (subst (MayRun (frame_of h ready.has.tree) (replica_of h t) ready.has.world) (sym brings)
      (record { keeps = ready.has.goes_on.between.keeps; bounded = ready.has.goes_on.bounded; given = given }))

  -- what was played in that world was played in the standing's
  pub played_in : (o : Output) (left : Played) (residents : List Resident) (before text : List ℕ) →
      HasPlayed o h t ready.has.tree world left residents before text →
      HasPlayed o h t ready.has.tree ready.has.world left residents before text
  played_in o left residents before text has =
      subst (λ w. HasPlayed o h t ready.has.tree w left residents before text) (sym same) has

  pub beside_in : HasPlayableRound h t ready.has.tree ready.has.world → HasPlayableRound h t ready.has.tree world
  beside_in stands = subst (HasPlayableRound h t ready.has.tree) same stands
