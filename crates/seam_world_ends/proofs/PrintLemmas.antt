-- What was printed, as pieces are gathered and written.
use Rattle.std.proofs.Common.{◌≡◌, ℕ, ◌<◌, ◌≤◌, inl, inr, List, [], ◌∷◌, ◌++◌, Option, None, Some, length, take, refl, sym, ap, ◌∙◌, subst}
use Rattle.std.proofs.Common.{arith, append_assoc, append-nil}
use Rattle.std.specs.Prelude.{Result, Ok, Err, OnOk, MatchResult}
use Rattle.std.proofs.KnownBytes.{Appends-trans, Appends-nil}
use Rattle.std.specs.Io.KnownBytes.{Appends}
use Rattle.seam_io.specs.Causes.{Rose}
use Rattle.seam_io.specs.States.{SinkState}
use Rattle.seam_io.specs.declared.source.Failed.{Failed}
use Rattle.seam_watch.specs.Watching.{Told, after_all}
use Rattle.seam_watch.specs.declared.journal.Journal.{Journal}
use Rattle.seam_world_ends.specs.Ends.{the_space}
use Rattle.seam_world_ends.specs.Printing.{Printed, FailedWithin, StopsBy, Prints, IsPrinted}
use Rattle.seam_world_ends.specs.declared.status.Status.{Status}
use Rattle.seam_world_ends.specs.declared.status.Status.TheVariants as status
use Rattle.seam_world_ends.proofs.Prefixes.{taken_is_proper}

-- all of a text is pending
pub all_pending : (sink : SinkState) (text : List ℕ) → Printed sink sink text text
all_pending sink text = record { wrote = []; whole = refl; writing = Appends-nil sink.written; later = omega arith }

pub nothing_printed : (sink : SinkState) (pending : List ℕ) → pending ≡ [] → Printed sink sink pending []
nothing_printed sink pending none = subst (Printed sink sink pending) none (all_pending sink pending)

module _ (sink was is : SinkState) (pending text : List ℕ) (p : Printed sink was pending text) where
  -- what was pending was written
  pub pending_written : Appends was.written is.written pending → was.faults ≤ is.faults → Printed sink is [] text
  pending_written a later = record {
    wrote = p.wrote ++ pending;
    whole = p.whole ∙ sym (append-nil (p.wrote ++ pending));
    writing = Appends-trans sink.written was.written is.written p.wrote pending p.writing a;
    later = let earlier = p.later in omega arith;
  }

  -- the sink failed after so many bytes of what was pending
  pub failed_in_pending : (n : ℕ) → n < length pending → Appends was.written is.written (take n pending) → was.faults ≤ is.faults
      → Rose was.faults is.faults → FailedWithin sink is text
  failed_in_pending n low a later rose =
      let rest = taken_is_proper pending n low in
      record {
        prefix = p.wrote ++ take n pending;
        proper = (
          rest.0,
          rest.1,
          p.whole ∙ ap (λ (x : List ℕ). p.wrote ++ x) rest.2 ∙ sym (append_assoc p.wrote (take n pending) (rest.0 ∷ rest.1)),
        );
        writing = Appends-trans sink.written was.written is.written p.wrote (take n pending) p.writing a;
        later = let earlier = p.later in omega arith;
        rose = let earlier = p.later in omega arith;
      }

-- what was pending was written, so that nothing is
pub nothing_pending : (sink now : SinkState) (pending text : List ℕ) (result : Result (Unit {0}) Failed) → OnOk result (pending ≡ []) →
    MatchResult result (λ _. Printed sink now [] text) (λ _. FailedWithin sink now text)
    → MatchResult result (λ _. Printed sink now pending text) (λ _. FailedWithin sink now text)
nothing_pending sink now pending text (Ok done) none p = subst (λ (x : List ℕ). Printed sink now x text) (sym none) p
nothing_pending sink now pending text (Err e) none f = f

-- a piece was gathered
pub piece_gathered : (sink now : SinkState) (pending text piece : List ℕ) → Printed sink now pending text →
    Printed sink now (pending ++ piece) (text ++ piece)
piece_gathered sink now pending text piece p = record {
  wrote = p.wrote;
  whole = ap (λ (x : List ℕ). x ++ piece) p.whole ∙ append_assoc p.wrote pending piece;
  writing = p.writing;
  later = p.later;
}

-- the sink failed before a piece
pub failed_before_piece : (sink now : SinkState) (text piece : List ℕ) → FailedWithin sink now text → FailedWithin sink now (text ++ piece)
failed_before_piece sink now text piece f = record {
  prefix = f.prefix;
  proper = (
    f.proper.0,
    f.proper.1 ++ piece,
    ap (λ (x : List ℕ). x ++ piece) f.proper.2 ∙ append_assoc f.prefix (f.proper.0 ∷ f.proper.1) piece,
  );
  writing = f.writing;
  later = f.later;
  rose = f.rose;
}

-- ---- what a call prints

-- a text that was appended to none
pub cleared_first : (items grown cleared text : List ℕ) → items ≡ grown → grown ≡ cleared ++ text → cleared ≡ [] → items ≡ text
cleared_first items grown cleared text same appended none = same ∙ appended ∙ ap (λ (xs : List ℕ). xs ++ text) none

-- a piece and steps with the property were printed and told
pub gathered_prints : (P : List ℕ → List Journal → Type 0) (piece : List ℕ) (steps : List Journal) (sink now : SinkState)
    (pending text : List ℕ) (told told' : Told) (result : Option Status) → P piece steps →
    Prints (λ printed given. (printed ≡ piece) × (given ≡ steps)) sink now pending text told told' result →
    Prints P sink now pending text told told' result
gathered_prints P piece steps sink now pending text told told' None p (printed, given, is, shown, tells) =
    (printed, given, subst (λ xs. P xs given) (sym is.0) (subst (P piece) (sym is.1) p), shown, tells)
gathered_prints P piece steps sink now pending text told told' (Some status.NoMemory) p printed = printed
gathered_prints P piece steps sink now pending text told told' (Some status.WriteFault) p (inl failed) = inl failed
gathered_prints P piece steps sink now pending text told told' (Some status.WriteFault) p (inr (printed, given, is, failed, tells)) =
    inr (printed, given, subst (λ xs. P xs given) (sym is.0) (subst (P piece) (sym is.1) p), failed, tells)
gathered_prints P piece steps sink now pending text told told' (Some status.Done) p printed = absurd printed
gathered_prints P piece steps sink now pending text told told' (Some status.Usage) p printed = absurd printed
gathered_prints P piece steps sink now pending text told told' (Some (status.BadHeader k)) p printed = absurd printed
gathered_prints P piece steps sink now pending text told told' (Some status.ReadFault) p printed = absurd printed
gathered_prints P piece steps sink now pending text told told' (Some status.Limit) p printed = absurd printed

-- a piece was printed after the watch was told steps
pub told_prints : (piece : List ℕ) (steps : List Journal) (sink now : SinkState) (pending text : List ℕ) (told told' : Told)
    (result : Option Status) → told' ≡ after_all the_space steps told → IsPrinted piece sink now pending text result →
    Prints (λ printed given. (printed ≡ piece) × (given ≡ steps)) sink now pending text told told' result
told_prints piece steps sink now pending text told told' None is printed = (piece, steps, (refl, refl), printed, is)
told_prints piece steps sink now pending text told told' (Some st) is (failed, within) =
    subst (λ (s : Status). Prints (λ printed given. (printed ≡ piece) × (given ≡ steps)) sink now pending text told told' (Some s))
    (sym failed) (inr (piece, steps, (refl, refl), within, is))

-- nothing was printed, since an allocation failed
pub nothing_prints : (P : List ℕ → List Journal → Type 0) (sink now : SinkState) (pending text : List ℕ) (told told' : Told)
    (result : Status) → told' ≡ told → StopsBy status.NoMemory sink now text result →
    Prints P sink now pending text told told' (Some result)
nothing_prints P sink now pending text told told' result same (inl s) =
    subst (λ (st : Status). Prints P sink now pending text told told' (Some st)) (sym s.0) (s.1, same)
nothing_prints P sink now pending text told told' result same (inr s) =
    subst (λ (st : Status). Prints P sink now pending text told told' (Some st)) (sym s.0) (inl (s.1, same))
