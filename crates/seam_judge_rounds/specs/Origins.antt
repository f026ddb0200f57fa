-- Calls by whom they are for and from whom they are.
use Rattle.std.specs.Prelude.{◌≡◌, ⊤, ℕ, Bool, true, false, List, [], ◌∷◌, filter}
use Rattle.std.specs.List.{All}
use Rattle.std.specs.Ordering.{is_lt, ordering_then, bool_cmp, nat_cmp}
use Rattle.std.specs.declared.cmp.Ordering.{Ordering}
use Rattle.seam_rule_rounds.specs.Prelude.{Part, is_from, same_part, Sender, Base, Client, Call}
use Rattle.seam_judge_rounds.specs.declared.origins.Origin.{Origin}

-- whether a sender is a client, and its number among those of its kind
abbrev pub is_client : Sender → Bool
is_client (Base n) = false
is_client (Client e) = true

abbrev pub number_of : Sender → ℕ
number_of (Base n) = n
number_of (Client e) = e

-- the entity of a call, and its sender
abbrev pub origin_of : Call → Origin
origin_of x = record { entity = x.entity; is_client = is_client x.sender; number = number_of x.sender }

-- by entities, and then by senders
abbrev pub origin_cmp : Origin → Origin → Ordering
origin_cmp a b = ordering_then (nat_cmp a.entity b.entity) (ordering_then (bool_cmp a.is_client b.is_client) (nat_cmp a.number b.number))

-- whether a call comes before another one, by their origins
abbrev pub comes_before : Call → Call → Bool
comes_before x y = is_lt (origin_cmp (origin_of x) (origin_of y))

-- no element of the list comes before this one
abbrev pub IsLow : {X : Type 0} → (X → X → Bool) → X → List X → Type 0
IsLow lt x [] = ⊤
IsLow lt x (y ∷ ys) = (lt y x ≡ false) × IsLow lt x ys

-- none comes before an earlier one
abbrev pub Rises : {X : Type 0} → (X → X → Bool) → List X → Type 0
Rises lt [] = ⊤
Rises lt (x ∷ xs) = IsLow lt x xs × Rises lt xs

-- The calls for parts of this kind, by their origins: of each sender to each entity the same calls, in the same order.
pub record AreGrouped (p : Part) (calls groups : List Call) : Type 0 where
  pub rise : Rises comes_before groups
  pub own : All (λ x. same_part x.part p ≡ true) groups
  pub same : (e : ℕ) (s : Sender) → filter (is_from p e s) groups ≡ filter (is_from p e s) calls
