use Rattle.std.proofs.lemmas.Bool.{false≢true}
use Rattle.seam_accept.proofs.NamingLemmas.{no_node}
use Rattle.seam_accept.proofs.naming.base_named.Goals as goal

pub returns-else-is_base_node : goal.returns-else-is_base_node
returns-else-is_base_node c n among is =
    no_node c.args.bases c.in-Some.number c.args.name.now n (λ a. false≢true (c.if-is_base_node.ensures.1 a)) c.in-Some.ensures.spelled
    among is
