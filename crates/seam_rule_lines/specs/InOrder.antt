-- The order in which each call is executed as it was accepted. No definition of a transcript cites it.
use Rattle.std.specs.Prelude.{List, filter}
use Rattle.seam_call.specs.Calls.{is_for}
use Rattle.seam_rule_lines.specs.Book.{calls_of}
use Rattle.seam_rule_lines.specs.Orders.{Orders}
use Rattle.seam_rule_lines.specs.declared.verdict.Entry.{Entry}

-- the calls of entries, for each part of each entity in the order of the entries
abbrev pub in_order : List Entry → Orders
in_order xs p e = filter (is_for p e) (calls_of xs)
