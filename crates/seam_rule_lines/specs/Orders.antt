-- In which orders a part may execute what was accepted for it.
use Rattle.std.specs.Prelude.{◌≡◌, ℕ, List, [], ◌++◌, filter}
use Rattle.seam_defs.specs.declared.flags.Part.{Part}
use Rattle.seam_call.specs.Senders.{same_sender}
use Rattle.seam_call.specs.declared.sender.Sender.{Sender}
use Rattle.seam_call.specs.declared.call.Call.{Call}

-- the calls of one sender in an order
abbrev pub of_sender : Sender → List Call → List Call
of_sender s order = filter (λ c. same_sender c.sender s) order

-- of what was accepted from each sender the order has the first calls, in their order and once
abbrev pub IsLegal : (Sender → List Call) → List Call → Type 0
IsLegal from order = (s : Sender) → (rest : List Call) × (from s ≡ of_sender s order ++ rest)

-- of what was accepted from each sender the order has all calls, in their order and once
abbrev pub IsFull : (Sender → List Call) → List Call → Type 0
IsFull from order = (s : Sender) → of_sender s order ≡ from s

-- for each part of each entity the calls that it executed, in their order
abbrev pub Orders : Type 0
Orders = Part → ℕ → List Call
