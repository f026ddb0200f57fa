use Rattle.std.proofs.Common.{◌≡◌, ◌∙◌, ◌+◌, ◌*◌, [], ℕ, length, map, get_or, ap, sym, subst, arith}
use Rattle.std.proofs.lemmas.List.{length-map}
use Rattle.seam_machine.specs.Views.{PartsView}
use Rattle.seam_machine.proofs.Parts.{parts_place}
use Rattle.seam_stamp.specs.Logs.{AreLogs, IsMerge}
use Rattle.seam_logged.specs.Mesh.{AreFull, ArePaired, IsCell}
use Rattle.seam_workers.proofs.joins.rejoin.Goals as goal

pub left-requires-clause-paired : goal.left-requires-clause-paired
left-requires-clause-paired g c = subst (λ l. ArePaired l) (sym c.in_ok-nodes.ensures.ends) c.requires.can.paired

pub left-requires-clause-full : goal.left-requires-clause-full
left-requires-clause-full g c = subst (λ l. AreFull (length l) l) (sym c.in_ok-nodes.ensures.ends) c.requires.can.full

pub left-requires-clause-hands : goal.left-requires-clause-hands
left-requires-clause-hands g c =
    let done = c.args.done.items in
    let is = c.in_ok-nodes.ensures in
    let hands = length-map c.in_ok-nodes.field-0.hands.items (λ h. h.items) in
    omega (arith, ap length is.hands, ap length is.ends, hands, length-map done (λ v. v.hand), length-map done (λ v. v.ends))

pub merge-requires : goal.merge-requires
merge-requires g c = subst (λ l. AreLogs l) (sym c.in_ok-nodes.ensures.logs) c.requires.can.logs

pub returns : goal.returns
returns g c =
    let done = c.args.done.items in
    let ends = map (λ v. v.ends) done in
    let hands = map (λ v. v.hand) done in
    let is = c.in_ok-nodes.ensures in
    let parted = c.in_ok-nodes.field-0 in
    let links = map (λ v. v.items) c.in_ok-links.links.items in
    let p : PartsView _ _ = record { nodes = parted.nodes.items; links = links } in
    let parts = c.in_ok-net.ensures in
    let many : length parted.ends.items ≡ length done = ap length is.ends ∙ length-map done (λ v. v.ends) in
    let nodes : length parted.nodes.items ≡ length done = ap length is.nodes ∙ length-map done (λ v. v.node) in
    let merge = c.in_ok-events.ensures in
    record {
      nodes = sym parts.nodes ∙ is.nodes;
      square = parts.square;
      cells = λ a b la lb.
          let cell = c.in_ok-links.ensures.cells a b (omega (arith, la, many)) (omega (arith, lb, many)) in
          let same : a * length parted.ends.items + b ≡ a * length parted.nodes.items + b = ap (λ (m : ℕ). a * m + b) (many ∙ sym nodes) in
          let place = parts_place p c.in_ok-net.net a b parts (omega (arith, la, nodes)) (omega (arith, lb, nodes)) in
          let at = get_or links (a * length parted.ends.items + b) [] in
          subst (λ l. IsCell ends hands a b l) (ap (λ (k : ℕ). get_or links k []) same ∙ place)
          (subst (λ es. IsCell es hands a b at) is.ends (subst (λ hs. IsCell parted.ends.items hs a b at) is.hands cell));
      merged = merge.0;
      is_merge = subst (λ l. IsMerge l merge.0) is.logs merge.1;
      events_are = merge.2;
    }
