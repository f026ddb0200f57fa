use Rattle.std.proofs.Common.{sym, ◌∙◌, ap}
use Rattle.std.proofs.lemmas.Bool.{false≢true}
use Rattle.seam_rule_lines.specs.Book.{has_client}
use Rattle.seam_accept.proofs.NamingLemmas.{number_of_client, same_client}
use Rattle.seam_accept.proofs.NamedEntities.{client_is_whole}
use Rattle.seam_accept.proofs.naming.client_named.Goals as goal

pub returns-in_default-whole_number : goal.returns-in_default-whole_number
returns-in_default-whole_number c = λ b entities dead was clients e has is.
    c.in_default-whole_number.ensures e (record {
      whole = client_is_whole b entities dead e was has;
      spelled = number_of_client c.args.name.now e is;
    })

pub returns-else-contains : goal.returns-else-contains
returns-else-contains c = λ b entities dead was clients e has is.
    let same = same_client c.args.name.now c.in-Some.entity e is c.in-Some.ensures.spelled in
    false≢true (sym c.if-contains.false ∙ c.contains.ensures ∙ clients.each c.in-Some.entity ∙ ap (has_client b) same ∙ has)
