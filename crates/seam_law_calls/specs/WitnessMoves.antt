-- What a step does with an entity's witness and what it tells its client: the moves of a node with all else left out.
use Rattle.std.specs.Prelude.{◌≡◌, ℕ, ◌+◌, ◌<◌, List, [], ◌∷◌, ◌++◌, length, Option, None, Some}
use Rattle.seam_node_steps.specs.Prelude.{Shown, RealView, WitnessView, Msg, Hand, limit, Here, base_of, numbered}
use Rattle.seam_law_flow.specs.Prelude.{IsSilent}
use Rattle.seam_law_calls.specs.Sights.{AtCell}
use Rattle.seam_law_calls.specs.Ones.{real_of}
use Rattle.seam_law_calls.specs.PartMoves.{update_in}
use Rattle.seam_node_steps.specs.Prelude.{Boundaries}

-- how many updates a witness sent
abbrev pub sent_of : Option WitnessView → ℕ
sent_of None = 0
sent_of (Some w) = w.sent

abbrev pub sent_by : RealView → ℕ
sent_by r = sent_of r.witness

-- a cell that has s of entity e is fed i, has the real t of it afterwards, if it has it, and sends this about e
pub data WitnessMoves (h : Here) (e : ℕ) (s : AtCell) (i : Option Msg) (t : Option RealView) (sent : List (ℕ × Msg)) : Type 0 where
  -- there is no real afterwards that was not there before, with this witness
  rests : ((q : RealView) → t ≡ Some q → (r : RealView) × (s.slot.real ≡ Some r) × (q.witness ≡ r.witness)) → IsSilent update_in sent
      → IsSilent real_of sent → WitnessMoves h e s i t sent
  -- the real comes with its witness
  lands : (r : RealView) (bs : Option Boundaries) → i ≡ Some (Hand r bs) → t ≡ Some r → IsSilent update_in sent → IsSilent real_of sent →
      WitnessMoves h e s i t sent
  -- it goes with it
  leaves : (r q : RealView) (to : ℕ) (told : List (ℕ × Msg)) → s.slot.real ≡ Some r → t ≡ None → q.witness ≡ r.witness
      → sent ≡ told ++ (to, Hand q None) ∷ [] → IsSilent update_in told → IsSilent real_of told → WitnessMoves h e s i t sent
  -- its entry in the look list is taken, and the witness tells these
  looks : (n : ℕ) (r q : RealView) (w v : WitnessView) (shown : List Shown) → s.looks ≡ n + 1 → s.slot.real ≡ Some r
      → r.witness ≡ Some w → t ≡ Some q → q.witness ≡ Some v
      → v.sent ≡ w.sent + length shown → v.sent < limit → sent ≡ numbered (base_of h e) e w.sent shown → WitnessMoves h e s i t sent
