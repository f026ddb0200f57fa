use Rattle.std.proofs.Common.{rules, ◌≡◌, ◌∙◌, ◌∷◌, ◌++◌, [], ap, sym, subst, Some, length}
use Rattle.std.specs.List.{slice_get}
use Rattle.std.specs.Option.{option_map, option_to_list}
use Rattle.std.proofs.lemmas.List.{append-nil}
use Rattle.std.proofs.lemmas.Option.{slice_get-map}
use Rattle.seam_workers.proofs.Lists.{Begins, begins_last, begins_shorter, all_get, roots_get}
use Rattle.seam_workers.proofs.seated.Goals as goal

pub loop-node-init : goal.loop-node-init
loop-node-init g c = (
  ([], append-nil c.args.nodes.items),
  ([], append-nil c.args.ends.items),
  ([], append-nil c.args.claims.items),
  search rules,
  search rules,
  search rules,
)

pub new-logged-requires-clause-named : goal.new-logged-requires-clause-named
new-logged-requires-clause-named g c =
    let nodes = c.args.nodes.items in
    let ends = c.args.ends.items in
    let left = c.pop.new.self.items in
    let left' = c.pop-in-Some-2.new.self.items in
    let items : c.loop-node.ends.items ≡ left' ++ c.unwrap-end.result ∷ [] =
    c.pop-in-Some-2.ensures.items ∙ ap (λ o. left' ++ option_to_list o) c.unwrap-end.ensures in
    let node = begins_last left nodes c.in-Some.node (subst (λ l. Begins l nodes) c.in-Some.ensures.items c.loop-node.invariant.0) in
    let end = begins_last left' ends c.unwrap-end.result (subst (λ l. Begins l ends) items c.loop-node.invariant.1) in
    let at : c.len.result ≡ length left = search rules in
    let at' : c.len.result ≡ length left' = search rules in
    rw c.requires.roots (roots_get nodes ends c.len.result c.in-Some.node c.unwrap-end.result
    (subst (λ k. slice_get nodes k ≡ Some c.in-Some.node) (sym at) node)
    (subst (λ k. slice_get ends k ≡ Some c.unwrap-end.result) (sym at') end))

pub new-logged-requires-clause-ins : goal.new-logged-requires-clause-ins
new-logged-requires-clause-ins g c =
    (c.requires.wide c.len.result (record { start = c.in-Some.node; first = c.unwrap-end.result }) (new-logged-requires-clause-named g c)).0

pub new-logged-requires-clause-outs : goal.new-logged-requires-clause-outs
new-logged-requires-clause-outs g c =
    (c.requires.wide c.len.result (record { start = c.in-Some.node; first = c.unwrap-end.result }) (new-logged-requires-clause-named g c)).1

pub new-requires-clause-name : goal.new-requires-clause-name
new-requires-clause-name g c =
    let all = c.args.claims.items in
    let left = c.pop-in-Some.new.self.items in
    let claim = c.unwrap-claim.result in
    let items : c.loop-node.claims.items ≡ left ++ claim ∷ [] =
    c.pop-in-Some.ensures.items ∙ ap (λ o. left ++ option_to_list o) c.unwrap-claim.ensures in
    let begins = subst (λ l. Begins l all) items c.loop-node.invariant.2 in
    let at : c.len.result ≡ length left = search rules in
    let me : c.new-logged.result.me ≡ length left = ap (λ v. v.me) c.new-logged.ensures ∙ at in
    rw (c.requires.names, me) (slice_get-map (λ b. b.name) all (length left)
    ∙ ap (option_map (λ b. b.name)) (begins_last left all claim begins))

pub new-requires-clause-whole : goal.new-requires-clause-whole
new-requires-clause-whole g c =
    let all = c.args.claims.items in
    let left = c.pop-in-Some.new.self.items in
    let claim = c.unwrap-claim.result in
    let items : c.loop-node.claims.items ≡ left ++ claim ∷ [] =
    c.pop-in-Some.ensures.items ∙ ap (λ o. left ++ option_to_list o) c.unwrap-claim.ensures in
    let begins = subst (λ l. Begins l all) items c.loop-node.invariant.2 in
    all_get (λ b. b.parts ≡ 1) all (length left) claim (begins_last left all claim begins) c.requires.whole

pub loop-node-preserved : goal.loop-node-preserved
loop-node-preserved g c =
    let left = c.pop-in-Some.new.self.items in
    let left' = c.pop-in-Some-2.new.self.items in
    let items : c.loop-node.claims.items ≡ left ++ c.unwrap-claim.result ∷ [] =
    c.pop-in-Some.ensures.items ∙ ap (λ o. left ++ option_to_list o) c.unwrap-claim.ensures in
    let items' : c.loop-node.ends.items ≡ left' ++ c.unwrap-end.result ∷ [] =
    c.pop-in-Some-2.ensures.items ∙ ap (λ o. left' ++ option_to_list o) c.unwrap-end.ensures in (
      begins_shorter c.pop.new.self.items c.args.nodes.items c.in-Some.node
          (subst (λ l. Begins l c.args.nodes.items) c.in-Some.ensures.items c.loop-node.invariant.0),
      begins_shorter left' c.args.ends.items c.unwrap-end.result (subst (λ l. Begins l c.args.ends.items) items' c.loop-node.invariant.1),
      begins_shorter left c.args.claims.items c.unwrap-claim.result
          (subst (λ l. Begins l c.args.claims.items) items c.loop-node.invariant.2),
      search rules,
      search rules,
      search rules,
    )
