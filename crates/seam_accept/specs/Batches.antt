-- What a round of the book brings to the core.
use Rattle.std.specs.Prelude.{ℕ, ◌+◌, ◌-◌, ◌%◌, Option, Some, None}
use Rattle.std.specs.List.{filter_map}
use Rattle.seam_defs.specs.declared.flags.Part.{Part}
use Rattle.seam_defs.specs.declared.flags.Part.TheVariants as part
use Rattle.seam_tree.specs.declared.area_table.TheConstants.{MOST_CELLS}
use Rattle.seam_call.specs.declared.sender.Sender.{Sender}
use Rattle.seam_call.specs.declared.sender.Sender.TheVariants as sender
use Rattle.seam_call.specs.declared.call.Call.{Call}
use Rattle.seam_call.specs.declared.order.Order.{Order}
use Rattle.seam_call.specs.declared.order.Order.TheVariants as order
use Rattle.seam_call.specs.declared.order.Batch.{Batch}
use Rattle.seam_toml.specs.declared.header.Header.{Header}
use Rattle.seam_rule_lines.specs.Book.{Book, creates_of, tree_of, has_balance}
use Rattle.seam_rule_lines.specs.declared.verdict.Entry.{Entry}
use Rattle.seam_rule_lines.specs.declared.verdict.Entry.TheVariants as entry

-- the node of a sender: the nodes are the cells, and after them the base nodes; a client is on the base node of its entity
abbrev pub node_of : Header → Sender → ℕ
node_of h (sender.Base n) = MOST_CELLS + n - 1
node_of h (sender.Client e) = MOST_CELLS + (e % h.settings.bases)

-- the order to pass a call on to the part that it is for
abbrev pub passes_to : Part → Call → Order
passes_to part.Cell c = order.Cell c
passes_to part.Base c = order.Base c

-- which order a call is, and for which node: that of its sender
abbrev pub order_of : Header → Call → ℕ × Order
order_of h c = (node_of h c.sender, passes_to c.part c)

-- what an entry brings to the core: an order, an entity that gets a client, an entity that dies
abbrev pub ordered : Header → Entry → Option (ℕ × Order)
ordered h (entry.Called c) = Some (order_of h c)
ordered h entry.Ticked = Some (MOST_CELLS, order.Tick)
ordered h x = None

abbrev pub joined : Entry → Option ℕ
joined (entry.Joined e) = Some e
joined x = None

abbrev pub destroyed : Entry → Option ℕ
destroyed (entry.Destroyed e) = Some e
destroyed x = None

-- the open round of a book as a batch, each part in the order in which it was accepted
abbrev pub batch_of : Header → Book → Batch
batch_of h b = record {
  tree = tree_of b;
  creates = creates_of b.current;
  clients = filter_map joined b.current;
  orders = filter_map (ordered h) b.current;
  destroys = filter_map destroyed b.current;
  balance = has_balance b;
}
