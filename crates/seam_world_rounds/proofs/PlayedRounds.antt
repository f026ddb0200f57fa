-- What a played round leaves.
use Rattle.std.proofs.lemmas.Option.{same_Some}
use Rattle.std.proofs.Common.{◌≡◌, ℕ, ◌+◌, ◌<◌, Bool, true, false, List, [], ◌∷◌, Option, None, Some, map, refl, sym, ap, ◌∙◌, subst, arith}
use Rattle.std.specs.Prelude.{IsTrue, IsFalse}
use Rattle.seam_node_steps.specs.Prelude.{Pos, Division, IsTree, LeadsTo, loaded, reaps_loaded, look_loaded, World, node_steps}
use Rattle.seam_node_steps.specs.Prelude.{node_has_work}
use Rattle.seam_rule_rounds.specs.Prelude.{Journal, IsBalanced, HasSameCuts, Header, Book, open_lines, has_balance, tree_of}
use Rattle.seam_rule_rounds.specs.Prelude.{with_round_ended, with_tree, MOST_LINES, RoundData, IsRound, with_bounds, Standing, Ended}
use Rattle.seam_rule_rounds.specs.declared.totals.Sums.{Sums}
use Rattle.seam_rule_rounds.specs.declared.totals.Totals.{Totals}
use Rattle.seam_law_book.specs.Prelude.{as_begun}
use Rattle.seam_law_transcript.specs.Prelude.{IsPlayed, data_of, standing_of, GoesOn, HasOneReal, ExecutesInTurn, ClientsSeeAll}
use Rattle.seam_accept.specs.Refines.{Refines as HoldsBook}
use Rattle.seam_accept.specs.Batches.{batch_of}
use Rattle.seam_quiet.specs.RoundRuns.{IsWithinTable}
use Rattle.seam_world_text.specs.Residents.{AreResidents}
use Rattle.seam_world_text.specs.declared.residents.Resident.{Resident}
use Rattle.seam_world_rounds.specs.Transcripts.{Plays}
use Rattle.seam_world_rounds.specs.PlayedRound.{IsBalancedBy, HasPlayed, HasSteps}
use Rattle.seam_world_rounds.specs.Output.{AddsSums, Counts, round_output, sums_if}
use Rattle.seam_world_rounds.specs.Script.{IsReady, Refines}
use Rattle.seam_world_rounds.specs.declared.round.Output.{Output}
use Rattle.seam_world_rounds.specs.declared.round.Output.TheVariants as output
use Rattle.seam_world_rounds.proofs.Counting.{added_none}
use Rattle.seam_world_rounds.specs.Following.{RoundEnds}
use Rattle.seam_world_rounds.specs.declared.round.Played.{Played}
use Rattle.seam_world_rounds.specs.declared.script.Script.{Script}

-- what is so of the next book with whatever tree, and without one, is so of it
next_book : (P : Book → Type 0) (b : Book) → P b → ((u : Division) → P (with_tree b u)) → (bounds : Option Division) →
    P (with_bounds b bounds)
next_book P b kept changed None = kept
next_book P b kept changed (Some u) = changed u

-- ---- a round, played from the world w to v

module _ (h : Header) (t : Standing) (tree : Division) (w v : World) (p : IsPlayed h t tree w v) where
  abbrev printed : Option Division → RoundData
  printed bounds = data_of h t tree w v p bounds

  abbrev next : Option Division → Standing
  next bounds = standing_of h t tree w v p bounds (with_bounds (with_round_ended t.book) bounds)

  abbrev places : List Pos
  places = map (λ l. l.state.pos) (printed None).homes

  -- it is legal, and the standing that it leaves goes on with the world
  abbrev IsRight : Option Division → Type 0
  IsRight bounds = IsRound h t (printed bounds) (next bounds) × GoesOn h (next bounds) (tree_of t.book) v

  right_by : (asked : Bool) → has_balance t.book ≡ asked → (IsFalse (has_balance t.book) → IsRight None) →
      (IsTrue (has_balance t.book) → (u : Division) → IsTree u → HasSameCuts (tree_of t.book) u →
      IsBalanced places h.settings.balance_shift (tree_of t.book) u → IsRight (Some u)) → (bounds : Option Division) →
      IsBalancedBy asked (tree_of t.book) places h.settings.balance_shift bounds → IsRight bounds
  right_by true is kept balanced bounds by = subst IsRight (sym by.1) (balanced is by.0 by.3 by.4 by.2)
  right_by false is kept balanced bounds by = subst IsRight (sym by) (kept is)

  pub plays_so : (j : Journal) → HasSteps p.round j → IsWithinTable w (batch_of h t.book) j p.round.reaped → HasOneReal h t w →
      ExecutesInTurn h t w → (bounds : Option Division) → ClientsSeeAll h t (printed bounds) (next bounds) →
      Plays h t w (printed bounds) j (next bounds) v
  plays_so j steps within one_real in_turn bounds sees_all = record {
    settled = p.round.called;
    calls = record {
      leads =
          subst (λ es. LeadsTo node_has_work node_steps (loaded w (batch_of h t.book)) es p.round.called) (sym steps.calls)
          p.round.calls;
      quiet = p.round.calls_done;
    };
    reaped = p.round.reaped;
    reaps = record {
      leads =
          subst (λ ds. LeadsTo node_has_work node_steps (reaps_loaded p.round.called ds) j.reaps p.round.reaped) p.ended.gone
          (subst (λ es. LeadsTo node_has_work node_steps (reaps_loaded p.round.called p.round.gone) es p.round.reaped) (sym steps.reaps)
          p.round.reaps);
      quiet = p.round.reaps_done;
    };
    looks = record {
      leads = subst (λ es. LeadsTo node_has_work node_steps (look_loaded p.round.reaped) es v) (sym steps.looks) p.round.looks;
      quiet = p.ended.quiet;
    };
    within = within;
    made = p.made;
    made_listed = p.made_listed;
    live = p.live;
    live_listed = p.live_listed;
    prints = refl;
    leaves = refl;
    one_real = one_real;
    in_turn = in_turn;
    sees_all = sees_all;
  }

-- ---- what is summed up of it

counted : (o : Output) (s : Standing) (r : RoundData) (j : Journal) (t : Standing) (old new : Totals) (sums : Option Sums) →
    AddsSums old sums new →
    sums ≡ sums_if o r → Counts o old new (Ended s r j t ∷ [])
counted output.Rounds s r j t old new sums adds is = added_none old new (subst (λ x. AddsSums old x new) is adds)
counted output.TracedRounds s r j t old new sums adds is = added_none old new (subst (λ x. AddsSums old x new) is adds)
counted output.Sums s r j t old new sums adds is = subst (λ x. AddsSums old x new) is adds

-- ---- the script after it

module _ (o : Output) (h : Header) (t : Standing) (old new : Script) (ready : IsReady h t old) (left : Played)
    (residents : List Resident) (before text : List ℕ) (has : HasPlayed o h t ready.has.tree ready.has.world left residents before text)
  where
    abbrev p : IsPlayed h t ready.has.tree ready.has.world left.world
    p = has.played

    abbrev after : Standing
    after = next h t ready.has.tree ready.has.world left.world p left.bounds

    pub round_ended :
        (IsFalse (has_balance t.book) → IsRight h t ready.has.tree ready.has.world left.world p None) →
        (IsTrue (has_balance t.book) → (u : Division) → IsTree u → HasSameCuts (tree_of t.book) u →
        IsBalanced (places h t ready.has.tree ready.has.world left.world p) h.settings.balance_shift (tree_of t.book) u →
        IsRight h t ready.has.tree ready.has.world left.world p (Some u)) →
        HasOneReal h t ready.has.world → ExecutesInTurn h t ready.has.world →
        ((r : RoundData) (u : Standing) → ClientsSeeAll h t r u) →
        new.header ≡ old.header → new.world ≡ Some left.world → new.residents ≡ residents → new.line ≡ old.line →
        new.round ≡ old.round + 1 → HoldsBook h after.book new.book → AddsSums old.totals left.sums new.totals →
        RoundEnds o h t (Refines o h old new)
        (round_output o h.defs (printed h t ready.has.tree ready.has.world left.world p left.bounds) left.journal) left.journal
    round_ended kept balanced one_real in_turn sees_all header world live line round book adds =
        let right =
        right_by h t ready.has.tree ready.has.world left.world p (has_balance t.book) refl kept balanced left.bounds has.bounds in
        let so =
        plays_so h t ready.has.tree ready.has.world left.world p left.journal has.steps has.within one_real in_turn left.bounds
        (sees_all _ after) in
        record {
          round = printed h t ready.has.tree ready.has.world left.world p left.bounds;
          next = after;
          legal = right.0;
          whole = refl;
          after = (
            record {
              has = record {
                header = header ∙ ready.has.header;
                world = left.world;
                is = world;
                tree = tree_of t.book;
                goes_on = right.1;
                residents =
                    subst (AreResidents (as_begun after.book)) (sym live)
                    (next_book (λ b. AreResidents (as_begun b) residents) (with_round_ended t.book) has.residents_ (λ u. has.residents_)
                    left.bounds);
                round = round ∙ ap (λ (n : ℕ). n + 1) ready.has.round;
              };
              book = book;
              line = line ∙ ready.line;
              most = ready.may.all;
              below_most =
                  next_book (λ b. open_lines b < MOST_LINES) (with_round_ended t.book) (omega arith) (λ u. omega arith) left.bounds;
            },
            counted o t _ left.journal after old.totals new.totals left.sums adds has.sums,
            λ w of_old. (
              left.world,
              world,
              (
                left.world,
                subst (λ u. Plays h t u (printed h t ready.has.tree ready.has.world left.world p left.bounds) left.journal after left.world)
                    (same_Some ready.has.world w (sym ready.has.is ∙ of_old)) so,
                refl,
              ),
            ),
          );
        }
