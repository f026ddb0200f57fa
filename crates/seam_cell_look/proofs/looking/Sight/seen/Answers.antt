use Rattle.std.proofs.Common.{◌≡◌, [], IfSome, subst, sym, map}
use Rattle.std.specs.List.{filter}
use Rattle.seam_cell_look.specs.Near.{is_near}
use Rattle.std.specs.FinMap as table
use Rattle.std.specs.List.Sorted.{IsStrictlySortedBy}
use Rattle.std.specs.Ordering.{nat_cmp}
use Rattle.seam_node_steps.specs.Prelude.{seen_as, CellView, known_to}
use Rattle.seam_node_steps.proofs.Knowing.{known_in_order}
use Rattle.seam_cell_parts.specs.Kept.{here_in}
use Rattle.seam_cell_look.specs.Looking.{seeing}
use Rattle.seam_cell_look.proofs.NearLooks.{rising_near}
use Rattle.seam_cell_look.proofs.NearLemmas.{near_alone, near_and_far}
use Rattle.seam_cell_look.proofs.looking.Sight.seen.Goals as goal

pub returns-clause-rising : goal.returns-clause-rising
returns-clause-rising c =
    let d : CellView = record {
      here = here_in c.args.self.now.known.now;
      tree = c.args.self.now.known.now.bounds.tree;
      number = c.args.self.now.known.now.bounds.number;
      reals = c.args.self.now.reals.now.items;
      nexts = table.empty;
      ghosts = c.args.self.now.copies.now.ghosts;
      survey = [];
      looks = [];
    } in
    let own = c.args.self.now.own in
    rising_near c.args.view.now.core c.args.own (map seen_as (known_to d own)) c.in-Some.seen.items (known_in_order d own)
    (subst (λ o. IfSome o (λ v. v.items ≡ filter (is_near c.args.view.now.core c.args.own) (map seen_as (known_to d own)))) c.in-Some.is
    (c.in_ok-found.ensures d))

pub returns-clause-near : goal.returns-clause-near
returns-clause-near c = λ k.
    let d : CellView = seeing k (here_in c.args.self.now.known.now) c.args.self.now.reals.now.items c.args.self.now.copies.now.ghosts in
    near_alone c.args.view.now.core c.args.own (map seen_as (known_to d c.args.self.now.own)) c.in-Some.seen.items
    (subst (λ o. IfSome o (λ v. v.items ≡ filter (is_near c.args.view.now.core c.args.own) (map seen_as (known_to d c.args.self.now.own))))
    c.in-Some.is (c.in_ok-found.ensures k))

pub returns-in_default-clause-rising : goal.returns-in_default-clause-rising
returns-in_default-clause-rising c =
    let d : CellView = record {
      here = here_in c.args.self.now.known.now;
      tree = c.args.self.now.known.now.bounds.tree;
      number = c.args.self.now.known.now.bounds.number;
      reals = c.args.self.now.reals.now.items;
      nexts = table.empty;
      ghosts = c.args.self.now.copies.now.ghosts;
      survey = [];
      looks = [];
    } in
    subst (λ l. IsStrictlySortedBy nat_cmp (map (λ s. s.entity) l)) (sym (c.in_ok-all.ensures d)) (known_in_order d c.args.self.now.own)

pub returns-in_default-clause-near : goal.returns-in_default-clause-near
returns-in_default-clause-near c = λ k.
    let d : CellView = seeing k (here_in c.args.self.now.known.now) c.args.self.now.reals.now.items c.args.self.now.copies.now.ghosts in
    near_and_far c.args.view.now.core c.args.own (map seen_as (known_to d c.args.self.now.own)) c.in_ok-all.all.items
    (c.in_ok-all.ensures k)
