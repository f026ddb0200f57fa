-- One world that plays rounds.
use Rattle.std.proofs.Common.{◌≡◌, ℕ, List, [], ◌∷◌, ◌++◌, Option, Some, refl, ◌∙◌, subst}
use Rattle.seam_node_steps.specs.Prelude.{World}
use Rattle.seam_rule_rounds.specs.Prelude.{Header, Cause, Piece, Refusal, Ended}
use Rattle.seam_world_rounds.specs.Transcripts.{PlayRounds}
use Rattle.seam_world_rounds.specs.Script.{PlaysOn}

-- rounds and others after them
pub played_then : (h : Header) (w mid v : World) (ps qs : List Piece) → PlayRounds h w ps mid → PlayRounds h mid qs v →
    PlayRounds h w (ps ++ qs) v
played_then h w mid v [] qs same more = subst (λ (u : World). PlayRounds h u qs v) same more
played_then h w mid v (Refusal line c ∷ ps) qs played more = played_then h w mid v ps qs played more
played_then h w mid v (Ended s r j t ∷ ps) qs (next, plays, played) more = (next, plays, played_then h next mid v ps qs played more)

-- no round is played where the world stays
pub none_played : (h : Header) (old new : Option World) → new ≡ old → PlaysOn h old new []
none_played h old new same = λ w is. (w, same ∙ is, refl)

pub refusal_played : (h : Header) (old new : Option World) (line : ℕ) (c : Cause) → new ≡ old → PlaysOn h old new (Refusal line c ∷ [])
refusal_played h old new line c same = λ w is. (w, same ∙ is, refl)
