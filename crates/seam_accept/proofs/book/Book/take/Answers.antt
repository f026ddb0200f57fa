use Rattle.std.proofs.Common.{◌≡◌, refl, sym, subst, Some}
use Rattle.std.proofs.lemmas.Result.{err_from_is_err_and}
use Rattle.seam_toml.specs.declared.header.Header.{Header}
use Rattle.seam_rule_lines.specs.Book.{Book}
use Rattle.seam_rule_lines.specs.Judging.{HoldsAgainst, IsFirst}
use Rattle.seam_rule_lines.specs.declared.verdict.Cause.{Cause}
use Rattle.seam_rule_lines.specs.declared.verdict.Entry.{Entry}
use Rattle.seam_rule_lines.specs.declared.verdict.Entry.TheVariants as entry
use Rattle.seam_accept.specs.Commands.{command_of}
use Rattle.seam_accept.specs.Judging.{Judged}
use Rattle.seam_accept.specs.Refines.{Refines}
use Rattle.seam_accept.specs.declared.command.Form.{Form}
use Rattle.seam_accept.proofs.Causes.{none_against_tick, none_against_balance}
use Rattle.seam_accept.proofs.Keeping.{division_kept, balance_kept}
use Rattle.seam_accept.proofs.book.Book.take.Goals as goal

-- by what the form is
refused_as : (h g : Header) (b : Book) (x y : Form) (k : Cause) → g ≡ h → x ≡ y → IsFirst (HoldsAgainst g b (command_of y)) k →
    IsFirst (HoldsAgainst h b (command_of x)) k
refused_as h g b x y k same is first =
    subst (λ (z : Form). IsFirst (HoldsAgainst h b (command_of z)) k) (sym is)
    (subst (λ (u : Header). IsFirst (HoldsAgainst u b (command_of y)) k) same first)

judged_as : (h g : Header) (b : Book) (x y : Form) (e : Entry) → g ≡ h → x ≡ y → Judged g b (command_of y) (Some e) →
    Judged h b (command_of x) (Some e)
judged_as h g b x y e same is judged =
    subst (λ (z : Form). Judged h b (command_of z) (Some e)) (sym is)
    (subst (λ (u : Header). Judged u b (command_of y) (Some e)) same judged)

pub returns-in_err-create-in-Create-clause-refused : goal.returns-in_err-create-in-Create-clause-refused
returns-in_err-create-in-Create-clause-refused c =
    let p = err_from_is_err_and c.from_residual.result c.from_residual.ensures.1 in
    rw (p.1, p.2) (λ h b was.
    let is = subst (Refines h b) (sym c.self.view_is) was in
    refused_as h _ b _ _ _ is.header c.in-Create.is (c.in_err-create-in-Create.ensures.refused b is.entities))

pub returns-in_err-entity-in-Client-clause-refused : goal.returns-in_err-entity-in-Client-clause-refused
returns-in_err-entity-in-Client-clause-refused c =
    let p = err_from_is_err_and c.from_residual-in_err-entity-in-Client.result c.from_residual-in_err-entity-in-Client.ensures.1 in
    rw (p.1, p.2) (λ h b was.
    let is = subst (Refines h b) (sym c.self-in-Client.view_is) was in
    refused_as h _ b _ _ _ refl c.in-Client.is (c.in_err-entity-in-Client.ensures.refused h b _ is.entities is.clients))

pub returns-in_err-make_cut-in-Cut-clause-refused : goal.returns-in_err-make_cut-in-Cut-clause-refused
returns-in_err-make_cut-in-Cut-clause-refused c =
    let p = err_from_is_err_and c.from_residual-in_err-make_cut-in-Cut.result c.from_residual-in_err-make_cut-in-Cut.ensures.1 in
    rw (p.1, p.2) (λ h b was.
    let is = subst (Refines h b) (sym c.self-in-Cut.view_is) was in
    refused_as h _ b _ _ _ refl c.in-Cut.is (c.in_err-make_cut-in-Cut.ensures.refused h b is.tree))

pub returns-in_err-make_shift-in-Shift-clause-refused : goal.returns-in_err-make_shift-in-Shift-clause-refused
returns-in_err-make_shift-in-Shift-clause-refused c =
    let p = err_from_is_err_and c.from_residual-in_err-make_shift-in-Shift.result c.from_residual-in_err-make_shift-in-Shift.ensures.1 in
    rw (p.1, p.2) (λ h b was.
    let is = subst (Refines h b) (sym c.self-in-Shift.view_is) was in
    refused_as h _ b _ _ _ refl c.in-Shift.is (c.in_err-make_shift-in-Shift.ensures.refused h b is.tree))

pub returns-in_err-entity-in-Destroy-clause-refused : goal.returns-in_err-entity-in-Destroy-clause-refused
returns-in_err-entity-in-Destroy-clause-refused c =
    let p = err_from_is_err_and c.from_residual-in_err-entity-in-Destroy.result c.from_residual-in_err-entity-in-Destroy.ensures.1 in
    rw (p.1, p.2) (λ h b was.
    let is = subst (Refines h b) (sym c.self-in-Destroy.view_is) was in
    refused_as h _ b _ _ _ refl c.in-Destroy.is (c.in_err-entity-in-Destroy.ensures.refused h b _ is.entities))

pub returns-in_ok-add_create-in-Create-clause-accepted : goal.returns-in_ok-add_create-in-Create-clause-accepted
returns-in_ok-add_create-in-Create-clause-accepted c = λ h b was.
    let is = subst (Refines h b) (sym c.self.view_is) was in
    let j = judged_as h _ b _ _ _ is.header c.in-Create.is (c.in_ok-create-in-Create.ensures.judged b is.entities) in
    (_, j.0, c.in_ok-add_create-in-Create.ensures.kept h b was j.1)

pub returns-in_ok-add_call-in-Call-clause-accepted : goal.returns-in_ok-add_call-in-Call-clause-accepted
returns-in_ok-add_call-in-Call-clause-accepted c = λ h b was.
    let is = subst (Refines h b) (sym c.self-in-Call.view_is) was in
    let j = judged_as h _ b _ _ _ is.header c.in-Call.is (c.in_ok-place-in-Call.ensures.judged b _ is.entities is.clients) in
    (_, j.0, c.in_ok-add_call-in-Call.ensures.kept h b was j.1)

pub returns-in_ok-add_client-in-Client-clause-accepted : goal.returns-in_ok-add_client-in-Client-clause-accepted
returns-in_ok-add_client-in-Client-clause-accepted c = λ h b was.
    let is = subst (Refines h b) (sym c.self-in-Client.view_is) was in
    let j = judged_as h _ b _ _ _ refl c.in-Client.is (c.in_ok-entity-in-Client.ensures.judged h b _ is.entities is.clients) in
    (_, j.0, c.in_ok-add_client-in-Client.ensures.kept h b was j.1)

pub returns-in_ok-add_tick-in-Tick-clause-accepted : goal.returns-in_ok-add_tick-in-Tick-clause-accepted
returns-in_ok-add_tick-in-Tick-clause-accepted c = λ h b was.
    let j = judged_as h h b _ _ entry.Ticked refl c.in-Tick.is (record { none = none_against_tick h b; adds = refl }, tt) in
    (_, j.0, c.in_ok-add_tick-in-Tick.ensures.kept h b was)

pub returns-in_ok-make_cut-in-Cut-clause-accepted : goal.returns-in_ok-make_cut-in-Cut-clause-accepted
returns-in_ok-make_cut-in-Cut-clause-accepted c = λ h b was.
    let is = subst (Refines h b) (sym c.self-in-Cut.view_is) was in
    let j = judged_as h _ b _ _ _ refl c.in-Cut.is (c.in_ok-make_cut-in-Cut.ensures.judged h b is.tree) in
    (_, j.0, division_kept h b _ is _)

pub returns-in_ok-make_shift-in-Shift-clause-accepted : goal.returns-in_ok-make_shift-in-Shift-clause-accepted
returns-in_ok-make_shift-in-Shift-clause-accepted c = λ h b was.
    let is = subst (Refines h b) (sym c.self-in-Shift.view_is) was in
    let j = judged_as h _ b _ _ _ refl c.in-Shift.is (c.in_ok-make_shift-in-Shift.ensures.judged h b is.tree) in
    (_, j.0, division_kept h b _ is _)

pub returns-in-Balance-clause-accepted : goal.returns-in-Balance-clause-accepted
returns-in-Balance-clause-accepted c = λ h b was.
    let is = subst (Refines h b) (sym c.self-in-Balance.view_is) was in
    let j = judged_as h h b _ _ entry.Balanced refl c.in-Balance.is (record { none = none_against_balance h b; adds = refl }, tt) in
    (_, j.0, balance_kept h b _ is)

pub returns-in_ok-add_death-in-Destroy-clause-accepted : goal.returns-in_ok-add_death-in-Destroy-clause-accepted
returns-in_ok-add_death-in-Destroy-clause-accepted c = λ h b was.
    let is = subst (Refines h b) (sym c.self-in-Destroy.view_is) was in
    let j = judged_as h _ b _ _ _ refl c.in-Destroy.is (c.in_ok-entity-in-Destroy.ensures.judged h b _ is.entities) in
    (_, j.0, c.in_ok-add_death-in-Destroy.ensures.kept h b was j.1)
