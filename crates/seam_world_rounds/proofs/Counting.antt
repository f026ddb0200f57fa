-- What is counted of pieces.
use Rattle.std.proofs.Common.{◌≡◌, ℕ, List, [], ◌∷◌, ◌++◌, refl, sym, ap, ◌∙◌, append-nil}
use Rattle.seam_rule_rounds.specs.Prelude.{Cause, Piece, Refusal, totals_of}
use Rattle.seam_rule_rounds.specs.declared.totals.Sums.{Sums}
use Rattle.seam_rule_rounds.specs.declared.totals.Totals.{Totals}
use Rattle.seam_rule_rounds.proofs.Pieces.{sums_of_append}
use Rattle.seam_world_rounds.specs.Output.{Counts, sums_for}
use Rattle.seam_world_rounds.specs.declared.round.Output.{Output}
use Rattle.seam_world_rounds.specs.declared.round.Output.TheVariants as output

-- nothing more is counted
pub added_none : (old new : Totals) → new ≡ old → (before : List Sums) → old ≡ totals_of before → new ≡ totals_of (before ++ [])
added_none old new same before is = same ∙ is ∙ ap totals_of (sym (append-nil before))

pub no_pieces_counted : (o : Output) (old new : Totals) → new ≡ old → Counts o old new []
no_pieces_counted output.Rounds old new same = added_none old new same
no_pieces_counted output.TracedRounds old new same = added_none old new same
no_pieces_counted output.Sums old new same = added_none old new same

-- a refusal is not
pub refusal_counted : (o : Output) (line : ℕ) (c : Cause) (old new : Totals) → new ≡ old → Counts o old new (Refusal line c ∷ [])
refusal_counted output.Rounds line c old new same = added_none old new same
refusal_counted output.TracedRounds line c old new same = added_none old new same
refusal_counted output.Sums line c old new same = added_none old new same

sums_for_append : (o : Output) (ps qs : List Piece) → sums_for o (ps ++ qs) ≡ sums_for o ps ++ sums_for o qs
sums_for_append output.Rounds ps qs = refl
sums_for_append output.TracedRounds ps qs = refl
sums_for_append output.Sums ps qs = sums_of_append ps qs

-- pieces are counted after others
pub counted_after : (o : Output) (ps qs : List Piece) (old new : Totals) → old ≡ totals_of (sums_for o ps) → Counts o old new qs →
    new ≡ totals_of (sums_for o (ps ++ qs))
counted_after o ps qs old new is counts = counts (sums_for o ps) is ∙ ap totals_of (sym (sums_for_append o ps qs))
