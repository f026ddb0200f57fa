use Rattle.std.proofs.Common.{◌∙◌, ◌++◌, [], Some, ap, sym}
use Rattle.std.specs.FinMap as table
use Rattle.std.proofs.lemmas.Result.{on_ok_weaker, on_err_weaker}
use Rattle.seam_node_steps.specs.Prelude.{witness_of, CellView}
use Rattle.seam_entity.specs.WitnessLooks.{other_of_real}
use Rattle.seam_cell_parts.specs.Kept.{here_in}
use Rattle.seam_cell_look.specs.Looking.{seeing}
use Rattle.seam_cell_look.proofs.LookLemmas.{looked_around, told_around, put_as_it_was}
use Rattle.seam_cell_look.proofs.ToldLemmas.{told_of_others, told_after_look}
use Rattle.seam_cell_look.proofs.looking.look_around.Goals as goal

pub returns-clause-reals : goal.returns-clause-reals
returns-clause-reals c = λ k.
    let d : CellView = seeing k (here_in c.args.known.now) c.args.reals.now.items.items c.args.copies.now.ghosts in
    let at = sym c.in-Some.ensures.witness ∙ ap (λ w. Some (witness_of w)) (sym c.deref_mut.ensures.value) in
    on_ok_weaker c.look-result.result (λ is. looked_around d c.args.e c.in_ok-real.real.core (witness_of c.deref_mut.result.now)
    c.in_ok-real.ensures.real at c.take_out.new.reals.items.items c.take_witness.new.self.core
    c.in_ok-real.ensures.items c.in-Some.ensures.after c.put_in.new.reals.items.items c.put_witness.new.self.core
    (witness_of c.look-result.new.witness) is c.put_witness.ensures c.put_in.ensures.items) (c.look-result.ensures.witness k)

pub returns-clause-sent : goal.returns-clause-sent
returns-clause-sent c = λ k.
    let d : CellView = seeing k (here_in c.args.known.now) c.args.reals.now.items.items c.args.copies.now.ghosts in
    let at = sym c.in-Some.ensures.witness ∙ ap (λ w. Some (witness_of w)) (sym c.deref_mut.ensures.value) in
    on_ok_weaker c.look-result.result (λ is. is ∙ ap (λ l. c.args.out.now.items ++ l)
    (told_around d c.args.e c.in_ok-real.real.core (witness_of c.deref_mut.result.now)
    c.in_ok-real.ensures.real at c.take_out.new.reals.items.items c.take_witness.new.self.core
    c.in_ok-real.ensures.items c.in-Some.ensures.after)) (c.look-result.ensures.sent k)

pub returns-clause-err : goal.returns-clause-err
returns-clause-err c =
    let d : CellView = record {
      here = here_in c.args.known.now;
      tree = c.args.known.now.bounds.tree;
      number = c.args.known.now.bounds.number;
      reals = c.args.reals.now.items.items;
      nexts = table.empty;
      ghosts = c.args.copies.now.ghosts;
      survey = [];
      looks = [];
    } in
    let at = sym c.in-Some.ensures.witness ∙ ap (λ w. Some (witness_of w)) (sym c.deref_mut.ensures.value) in
    on_err_weaker c.look-result.result (λ same. put_as_it_was d c.args.e c.in_ok-real.real.core (witness_of c.deref_mut.result.now)
    c.in_ok-real.ensures.real at c.take_out.new.reals.items.items c.take_witness.new.self.core
    c.in_ok-real.ensures.items c.in-Some.ensures.after c.put_in.new.reals.items.items c.put_witness.new.self.core
    (witness_of c.look-result.new.witness) same c.put_witness.ensures c.put_in.ensures.items) c.look-result.ensures.err

pub look-result-requires-clause-told : goal.look-result-requires-clause-told
look-result-requires-clause-told c =
    told_of_others (here_in c.args.known.now) c.args.reals.now.items.items c.args.copies.now.ghosts c.args.e c.args.told.now c.requires.told
    c.take_out.new.reals.items.items c.in_ok-real.ensures.items

pub returns-clause-told : goal.returns-clause-told
returns-clause-told c =
    let h = here_in c.args.known.now in
    told_after_look h c.args.reals.now.items.items c.args.copies.now.ghosts c.args.e c.args.told.now c.look-result.new.told
    c.take_out.new.reals.items.items c.in_ok-real.ensures.items c.requires.told c.look-result.ensures.told c.in_ok-real.real.core
    c.put_witness.new.self.core c.in_ok-real.ensures.real
    (ap (other_of_real h) c.put_witness.ensures ∙ ap (other_of_real h) c.in-Some.ensures.after) c.put_in.new.reals.items.items
    c.put_in.ensures.items
