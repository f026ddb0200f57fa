use Rattle.std.proofs.Common.{◌≡◌, ℕ, ◌+◌, ◌++◌, [], ◌∷◌, length, ap, ◌∙◌, arith}
use Rattle.seam_entity.specs.declared.message.Msg.TheVariants.{Update}
use Rattle.seam_cell_told.specs.Updates.{UpdatesView}
use Rattle.seam_cell_told.proofs.UpdateLemmas.{more_shown, still_numbered}
use Rattle.seam_cell_told.proofs.updates.Updates.push.Goals as goal
use Rattle.seam_cell_told.proofs.updates.Updates.push.Goals.{After-send}

abbrev number : After-send → ℕ
number c = c.self.inside.sent + c.len.result + 1

added : (c : After-send) → let u = c.self.inside in c.send.new.self.items
    ≡ u.made.items ++ (u.to, Update (record { entity = u.entity; number = number c; shown = c.args.item })) ∷ []
added c =
    let u = c.self.inside in
    c.send.ensures.items
    ∙ ap (λ l. l ++ (u.to, Update (record { entity = u.entity; number = number c; shown = c.args.item })) ∷ [])
    c.in_ok-reserve.ensures.items

next : (c : After-send) → number c ≡ c.self.inside.sent + length c.self.inside.made.items + 1
next c = omega (arith, c.len.ensures.len, ap length c.in_ok-reserve.ensures.items)

pub invariant_of-self-2 : goal.invariant_of-self-2
invariant_of-self-2 c =
    let u = c.self.inside in
    let a = (goal.at.invariant_of-self-2 c).After-send in (
      still_numbered u.to u.entity u.sent u.made.items c.self.invariant.0 c.args.item (number a) c.send.new.self.items (added a) (next a),
      c.self.invariant.1,
    )

pub returns : goal.returns
returns c =
    let u = c.self.inside in
    let a = (goal.at.returns c).After-send in
    let more = more_shown u.to u.entity u.sent u.made.items c.self.invariant.0 c.args.item (number a) c.send.new.self.items (added a)
    (next a) in
    (λ i. record { to = u.to; entity = u.entity; sent = u.sent; shown = more i })
    ∙ ap (λ (v : UpdatesView). record v { shown = v.shown ++ c.args.item ∷ [] }) c.self.view_is
