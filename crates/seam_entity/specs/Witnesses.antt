-- What contracts see of a witness.
use Rattle.std.specs.Prelude.{box_value}
use Rattle.std.specs.declared.boxed.Box.{Box}
use Rattle.seam_entity.specs.Reals.{WitnessView}
use Rattle.seam_entity.specs.declared.witness.Witness.{Witness}

-- the witness without the room that was made in its view
abbrev pub witness_of : Witness → WitnessView
witness_of w = record { view = w.view.core; told = w.told; sent = w.sent }

abbrev pub witness_in : {Z : Type 0} → Box Witness Z → WitnessView
witness_in b = witness_of (box_value b)
