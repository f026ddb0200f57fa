-- What a real has become of another by calls.
use Rattle.std.specs.Prelude.{◌≡◌, ℕ, ◌+◌, List, [], ◌∷◌, ◌++◌}
use Rattle.seam_node_steps.specs.Prelude.{TypeDef, State, after, changes, type_of, Call, RealView, public_after}
use Rattle.seam_law_calls.specs.Frames.{Frame}

-- what calls change of a real: its state, its version, its public version, and the list of the calls that it executed
pub record Account : Type 0 where
  pub state : State
  pub version : ℕ
  pub public : ℕ
  pub done : List Call

abbrev pub account_of : RealView → Account
account_of r = record { state = r.state; version = r.version; public = r.public; done = r.done }

-- after one more call: the deed is done, the version rises by one, it is the public version where others may see a change, and the
-- call is the last of the list
abbrev pub after_call : TypeDef → Account → Call → Account
after_call t a k = record {
  state = after t a.state k.deed;
  version = a.version + 1;
  public = public_after (changes t a.state k.deed) (a.version + 1) a.public;
  done = a.done ++ k ∷ [];
}

-- after these calls, one after the other
abbrev pub after_calls : TypeDef → Account → List Call → Account
after_calls t a [] = a
after_calls t a (k ∷ ks) = after_calls t (after_call t a k) ks

-- r is what `start` became by further calls
pub record Replays (f : Frame) (start r : RealView) : Type 0 where
  pub further : List Call
  pub entity : r.entity ≡ start.entity
  pub type : r.ty ≡ start.ty
  pub account : account_of r ≡ after_calls (type_of f.defs start.ty) (account_of start) further
