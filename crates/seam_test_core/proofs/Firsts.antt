-- Worlds of the standard settings may be loaded first.
use Rattle.std.proofs.Common.{◌≡◌, ◌∙◌, ℕ, List, [], ◌∷◌, None, Some, refl, sym, ap, subst, arith}
use Rattle.std.specs.Prelude.{slice_get, eqb, map}
use Rattle.std.specs.List.{AllByRecursion, IsDistinct}
use Rattle.seam_tree.specs.Division.{IsInSpace}
use Rattle.seam_defs.specs.declared.settings.Settings.{Settings}
use Rattle.seam_defs.specs.declared.types.TypeDef.{TypeDef}
use Rattle.seam_defs.specs.Settings.{standard}
use Rattle.seam_call.specs.declared.create.Create.{Create}
use Rattle.seam_call.specs.declared.order.Batch.{Batch}
use Rattle.seam_base.specs.Nodes.{has_client}
use Rattle.seam_base.specs.Marks.{passes}
use Rattle.seam_law_flow.specs.Flows.{slot_at}
use Rattle.seam_node_steps.specs.Nodes.{NodeView, World}
use Rattle.seam_node_steps.specs.Loads.{opened}
use Rattle.seam_law_calls.specs.Sights.{Has, has_of, has_none}
use Rattle.seam_law_calls.specs.Ones.{real_in}
use Rattle.seam_law_rounds.specs.Between.{created_entity}
use Rattle.seam_rule_clients.specs.Clients.{ClientReplica, new_client}
use Rattle.seam_law_rounds.specs.LastPhases.{first_frame}
use Rattle.seam_law_rounds.proofs.Opened.{opened_is_new}
use Rattle.seam_law_all.specs.Records.{KeepsRecords}
use Rattle.seam_core.specs.Loads.{HasSize, MayLoad}
use Rattle.seam_core.proofs.Nodes.{IsUnseen}
use Rattle.seam_core.proofs.Loading.{here_is}
use Rattle.seam_core.proofs.Worlds.{goes_by}
use Rattle.seam_test_core.specs.Firsts.{MayBeFirst}

module _ (defs : List TypeDef) (clients : ℕ → ClientReplica)
    (keeps : KeepsRecords (first_frame defs standard) clients (opened defs standard))
    (k : ℕ) (s : NodeView) (at : slice_get (opened defs standard).nodes k ≡ Some s) where
  size_opened : HasSize 10000 s
  size_opened =
      ap (λ h. h.settings.size)
      (here_is defs standard k s (goes_by (first_frame defs standard) refl refl k s (keeps.reals.nodes.nodes k s at)).0)

  -- a node has nothing of any entity
  nothing : (e : ℕ) → has_of e s ≡ has_none
  nothing e = sym (ap (slot_at (has_of e) has_none) at) ∙ opened_is_new defs standard keeps.reals.frame (omega arith) e k

  new : (xs : List Create) → AllByRecursion (λ x. real_in (has_of x.entity s) ≡ None) xs
  new [] = tt
  new (x ∷ xs) = (ap real_in (nothing x.entity), new xs)

  unseen : (es : List ℕ) → AllByRecursion (IsUnseen s) es
  unseen [] = tt
  unseen (e ∷ es) = (ap (λ (h : Has). passes has_client h.base.part) (nothing e), unseen es)

may_first : (defs : List TypeDef) (clients : ℕ → ClientReplica) →
    KeepsRecords (first_frame defs standard) clients (opened defs standard) → (b : Batch) → MayBeFirst b → MayLoad (opened defs standard) b
may_first defs clients keeps b first k s at = record {
  space = size_opened defs clients keeps k s at ∙ sym first.size;
  inside = first.inside;
  new = new defs clients keeps k s at b.creates;
  once = first.once;
  unseen = unseen defs clients keeps k s at b.clients;
  one_each = first.one_each;
}

module _ (w : World) (defs : List TypeDef) (settings : Settings) (same : settings ≡ standard) (is : w ≡ opened defs settings)
    (keeps : (clients : ℕ → ClientReplica) → KeepsRecords (first_frame defs settings) clients w) where
  new_clients : ℕ → ClientReplica
  new_clients e = new_client standard

  is_standard : w ≡ opened defs standard
  is_standard = is ∙ ap (opened defs) same

  keeps_standard : KeepsRecords (first_frame defs standard) new_clients (opened defs standard)
  keeps_standard =
      subst (λ st. KeepsRecords (first_frame defs st) new_clients (opened defs st)) same
      (subst (KeepsRecords (first_frame defs settings) new_clients) is (keeps new_clients))

  pub may_first_of : (b : Batch) → MayBeFirst b → MayLoad w b
  may_first_of b first = subst (λ v. MayLoad v b) (sym is_standard) (may_first defs new_clients keeps_standard b first)

-- a batch that makes one entity in a space of that size, and gives no client
pub one_first : (b : Batch) (x : Create) → b.tree.size ≡ 10000 → IsInSpace b.tree x.pos → b.creates ≡ x ∷ [] → b.clients ≡ [] →
    MayBeFirst b
unfolding IsDistinct
one_first b x size inside creates clients = record {
  size = size;
  inside = subst (AllByRecursion (λ y. IsInSpace b.tree y.pos)) (sym creates) (inside, tt);
  once = subst (λ ys. IsDistinct eqb (map created_entity ys)) (sym creates) (alone x.entity);
  one_each = subst (IsDistinct eqb) (sym clients) nobody;
}
  where
    alone : (e : ℕ) → IsDistinct eqb (e ∷ [])
    alone e = (tt, tt)

    nobody : IsDistinct eqb []
    nobody = tt
