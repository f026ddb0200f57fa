-- The phase of looks: what a real is after its witness looked.
use Rattle.std.specs.Prelude.{◌≡◌, ℕ, ◌+◌, true, length, slice_get, Option, None, Some}
use Rattle.seam_node_steps.specs.Prelude.{is_small, RealView, WitnessView, looks_of, shown_of, after_looking, CellView, known_to, World}
use Rattle.seam_node_steps.specs.Prelude.{Cell}
use Rattle.seam_law_calls.specs.Prelude.{real_at}

-- the witness of entity e's real r after one look at what the cell knows of others
abbrev pub witness_looked : CellView → ℕ → RealView → WitnessView → WitnessView
witness_looked c e r v =
    after_looking (known_to c e) (looks_of r v (known_to c e)) (shown_of c.here r v (known_to c e)) r v

abbrev pub looked_by : CellView → ℕ → RealView → Option WitnessView → RealView
looked_by c e r None = r
looked_by c e r (Some v) = record r { witness = Some (witness_looked c e r v) }

-- the real after that look, if it has a witness
abbrev pub having_looked : CellView → ℕ → RealView → RealView
having_looked c e r = looked_by c e r r.witness

-- each witness has room to look: the updates of its look have numbers
abbrev pub HaveRoomToLook : World → Type 0
HaveRoomToLook u =
    (e k : ℕ) (r : RealView) → real_at e u k ≡ Some r → (v : WitnessView) → r.witness ≡ Some v → (cell : CellView) →
    slice_get u.nodes k ≡ Some (Cell cell) → is_small (v.sent + length (shown_of cell.here r v (known_to cell e))) ≡ true
