use Rattle.std.proofs.Common.{◌++◌, ℕ, ap, sym, ◌∙◌}
use Rattle.std.specs.FinMap as table
use Rattle.seam_node_steps.specs.Prelude.{Ghost, GhostCopy, Stepped, RealView, Msg, Map, CellView, known_to, stepped, looks_around}
use Rattle.seam_cell_parts.specs.Kept.{cell_of}
use Rattle.seam_cell_parts.proofs.SetLemmas.{first_taken}
use Rattle.seam_cell_look.specs.Looking.{seeing}
use Rattle.seam_cell_look.proofs.LookLemmas.{next_look}
use Rattle.seam_cell_look.proofs.looking.look_task.Goals as goal

-- the look of entity e in a cell with these reals and ghosts
abbrev look_in : CellView → ℕ → Map RealView → Map (Ghost GhostCopy) → Stepped CellView Msg
look_in c e reals ghosts =
    let d : CellView = seeing c c.here reals ghosts in
    stepped d e (looks_around d e (table.get d.reals e) (known_to d e))

pub returns-clause-state : goal.returns-clause-state
returns-clause-state c =
    let d : CellView = cell_of c.args.known.now c.args.reals.now c.args.remotes.now c.args.lists.now in
    let es = c.take_first.new.self in
    let left : CellView = record d { looks = es } in
    c.in_ok-look_around.ensures.reals left
    ∙ ((λ i. (look_in left c.in-Some.e (c.locate.ensures i).items (c.locate-2.ensures i).ghosts).state)
    ∙ sym (ap (λ t. t.state) (next_look d c.in-Some.e es (first_taken c.take_first.result c.args.lists.now.looks es c.in-Some.e
    c.take_first.ensures.some c.take_first.ensures.none c.in-Some.ensures))))

pub returns-clause-sent : goal.returns-clause-sent
returns-clause-sent c =
    let d : CellView = cell_of c.args.known.now c.args.reals.now c.args.remotes.now c.args.lists.now in
    let es = c.take_first.new.self in
    let left : CellView = record d { looks = es } in
    c.in_ok-look_around.ensures.sent left
    ∙ ((λ i. c.args.out.now.items ++ (look_in left c.in-Some.e (c.locate.ensures i).items (c.locate-2.ensures i).ghosts).sent)
    ∙ ap (λ l. c.args.out.now.items ++ l) (sym (ap (λ t. t.sent) (next_look d c.in-Some.e es (first_taken c.take_first.result
    c.args.lists.now.looks es c.in-Some.e c.take_first.ensures.some c.take_first.ensures.none c.in-Some.ensures)))))
