-- A round that was played.
use Rattle.std.specs.Prelude.{◌≡◌, ◌≢◌, ◌++◌, ℕ, Bool, true, false, List, Option, None, Some, codes, length, map, MatchBool}
use Rattle.seam_node_steps.specs.Prelude.{Pos, Division, IsTree, Batch, World, TypeDef}
use Rattle.seam_rule_rounds.specs.Prelude.{IsBalanced, HasSameCuts, Header, has_balance, tree_of, with_round_ended, Standing, number_text}
use Rattle.seam_rule_rounds.specs.Prelude.{journal_text, RoundData, Journal}
use Rattle.seam_law_ghosts.specs.Prelude.{GoesThroughRound}
use Rattle.seam_law_transcript.specs.Prelude.{IsPlayed, data_of}
use Rattle.seam_accept.specs.Batches.{batch_of}
use Rattle.seam_quiet.specs.RoundRuns.{IsWithinTable}
use Rattle.seam_world_text.specs.Residents.{AreResidents}
use Rattle.seam_world_text.specs.RoundParts.{calls_text}
use Rattle.seam_world_text.specs.declared.residents.Resident.{Resident}
use Rattle.seam_world_rounds.specs.Output.{round_output, sums_if}
use Rattle.seam_world_rounds.specs.declared.round.Output.{Output}
use Rattle.seam_world_rounds.specs.declared.round.Output.TheVariants as output
use Rattle.seam_world_rounds.specs.declared.round.Played.{Played}
use Rattle.seam_world_rounds.specs.declared.round.Taken.{Taken}

-- the journal has the steps of a round, phase by phase
pub record HasSteps {w v : World} {b : Batch} (round : GoesThroughRound w b v) (j : Journal) : Type 0 where
  pub calls : j.calls ≡ round.call_events
  pub reaps : j.reaps ≡ round.reap_events
  pub looks : j.looks ≡ round.look_events

-- a tree balanced by these positions, where that was asked for
abbrev pub IsBalancedBy : Bool → Division → List Pos → ℕ → Option Division → Type 0
IsBalancedBy asked tree positions shift bounds =
    MatchBool asked
    ((new : Division) × (bounds ≡ Some new) × IsBalanced positions shift tree new × IsTree new × HasSameCuts tree new)
    (bounds ≡ None)

-- the beginning of a round's text: its number, and its steps where they are traced
abbrev pub start_text : (traced : Bool) → ℕ → Journal → List ℕ
start_text true number j = number_text (codes "round ") number ++ journal_text j
start_text false number j = number_text (codes "round ") number

-- what was taken where the calls of a round had ended is what is needed of them: their text, or how many of them cell parts executed
abbrev pub HasTaken : Output → List TypeDef → RoundData → Taken → Type 0
HasTaken o defs r taken = (o ≢ output.Sums → taken.text.items ≡ calls_text defs r) × (o ≡ output.Sums → taken.did ≡ length r.did)

-- The round of the standing s was played from the world w, and what is given of it was appended to what was there, or summed up; the tree
-- of the next round is balanced where that was asked for, and the entities that live on are the residents.
pub record HasPlayed (output : Output) (h : Header) (s : Standing) (tree : Division) (w : World) (left : Played)
    (residents : List Resident) (before text : List ℕ) : Type 0 where
  pub played : IsPlayed h s tree w left.world
  pub steps : HasSteps played.round left.journal
  pub within : IsWithinTable w (batch_of h s.book) left.journal played.round.reaped
  pub whole : text ≡ before ++ round_output output h.defs (data_of h s tree w left.world played left.bounds) left.journal
  pub sums : left.sums ≡ sums_if output (data_of h s tree w left.world played left.bounds)
  pub bounds : IsBalancedBy (has_balance s.book) (tree_of s.book)
      (map (λ l. l.state.pos) (data_of h s tree w left.world played left.bounds).homes) h.settings.balance_shift left.bounds
  pub residents_ : AreResidents (with_round_ended s.book) residents
