-- What is told of a result.
use Rattle.std.proofs.Common.{Result, Ok, Err, Option, None, Some}
use Rattle.std.specs.Prelude.{OnOk, IfOk, IfNone}

-- a fact of a success, by another one
pub on_ok : {A E : Type 0} {P Q : Type 0} → (r : Result A E) → (P → Q) → OnOk r P → OnOk r Q
on_ok (Ok x) f h = f h
on_ok (Err e) f h = h

-- what holds of the value of a success, by something else that does
pub if_ok : {A E : Type 0} {P Q : A → Type 0} → (r : Result A E) → ((x : A) → P x → Q x) → IfOk r P → IfOk r Q
if_ok (Ok x) f h = f x h
if_ok (Err e) f h = h

-- what is so whatever the answer
pub if_none : {A : Type 0} (answer : Option A) (P : Type 0) → P → IfNone answer P
if_none None P so = so
if_none (Some a) P so = tt
