-- The boundaries that a round prints.
use Rattle.std.specs.Prelude.{◌≡◌, List, map, Option, None, Some, MatchBool}
use Rattle.seam_rule_rounds.specs.Prelude.{Division, IsBalanced, Header, has_balance, tree_of, HomeLine, Standing}

-- What a round prints of boundaries, by what it prints of homes: where a `balance` was accepted, its tree balanced by where the homes
-- are, and else nothing. It is *HasBounds* of `seam_rule_rounds` without the book that the round leaves.
abbrev pub PrintsBounds : Header → Standing → List HomeLine → Option Division → Type 0
PrintsBounds h s homes bounds =
    MatchBool (has_balance s.book)
    ((next : Division) × IsBalanced (map (λ l. l.state.pos) homes) h.settings.balance_shift (tree_of s.book) next × (bounds ≡ Some next))
    (bounds ≡ None)
