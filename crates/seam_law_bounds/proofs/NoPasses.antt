-- Where no call comes to a cell, none is passed on.
use Rattle.seam_law_bounds.proofs.Prelude.{◌≡◌, ℕ, false, cond, List, [], ◌∷◌, Option, None, Some, refl, ap, arith, slice_get, link}
use Rattle.seam_law_bounds.proofs.Prelude.{input_from, happens, AllEnabled, Event, Input, Task, From, Call as CallData, Msg, CellView}
use Rattle.seam_law_bounds.proofs.Prelude.{NodeView, World, node_steps, node_has_work, Cell, Base, cell_passes, node_passes, passes_by}
use Rattle.seam_law_bounds.proofs.Prelude.{is_pass, all_passes, leads_nowhere, leads_by_one, leads_join, RunsTo}
use Rattle.seam_entity.specs.declared.message.Msg.TheVariants.{Call}
use Rattle.seam_law_bounds.proofs.Cans.{fed_by}

message_passes : (c : CellView) (m : Msg) → ((k : CallData) → m ≡ Call k → ⊥) → cell_passes c m ≡ false
message_passes c (Call k) never = absurd (never k refl)
message_passes c _ never = refl

input_passes : (s : NodeView) (i : Input Msg) → ((a : ℕ) (k : CallData) → i ≡ From a (Call k) → ⊥) → node_passes s i ≡ false
input_passes (Cell c) Task never = refl
input_passes (Cell c) (From a m) never = message_passes c m (λ k is. never a k (ap (From a) is))
input_passes (Base b) i never = refl

fed_passes : (o : Option NodeView) (i : Option (Input Msg)) → ((a : ℕ) (k : CallData) → i ≡ Some (From a (Call k)) → ⊥) →
    passes_by o i ≡ false
fed_passes None i never = refl
fed_passes (Some s) None never = refl
fed_passes (Some s) (Some i) never = input_passes s i (λ a k is. never a k (ap Some is))

module _ (v : World) (x : Event) (never : (a : ℕ) (c : CallData) (ms : List Msg) → link v.rows a x.node ≡ Call c ∷ ms → ⊥) where
  not_fed : (from : Option ℕ) (a : ℕ) (k : CallData) → input_from v.rows x.node from ≡ Some (From a (Call k)) → ⊥
  not_fed None a k fed = cc
  not_fed (Some b) a k fed =
      let first = fed_by b (link v.rows b x.node) a (Call k) fed in
      never b k first.0 first.1

  pub no_pass_by : is_pass v x ≡ false
  no_pass_by = fed_passes (slice_get v.nodes x.node) (input_from v.rows x.node x.from) (not_fed x.from)

-- where no event that can be reached passes one on, none is
pub passes_none : (w : World) → ((v : World) (ds : List Event) → RunsTo w ds v → (x : Event) → is_pass v x ≡ false) → (es : List Event) →
    AllEnabled node_has_work node_steps w es → all_passes w es ≡ 0
passes_none w none [] on = refl
passes_none w none (x ∷ es) on =
    let here = ap (λ b. cond {A = ℕ} b 1 0) (none w [] (leads_nowhere node_has_work node_steps w) x) in
    let next = happens node_steps w x in
    let one = leads_by_one node_has_work node_steps w x on.0 in
    let rest =
    passes_none next (λ v ds run y. none v (x ∷ ds) (leads_join node_has_work node_steps w next v (x ∷ []) ds one run) y) es on.1 in
    omega (arith, here, rest)
