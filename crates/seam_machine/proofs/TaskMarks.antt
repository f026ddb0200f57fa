-- What is known of the tasks of nodes.
use Rattle.std.proofs.Common.{◌≡◌, ◌≢◌, ℕ, ◌<◌, Bool, true, false, List, length, set, Some, sym, ap, ◌∙◌, inl, inr}
use Rattle.std.specs.Prelude.{slice_get, map, option_map}
use Rattle.std.proofs.lemmas.Bool.{cases_eq, cases_lt}
use Rattle.std.proofs.lemmas.Option.{slice_get-map, slice_get_past}
use Rattle.seam_machine.specs.Inside.{is_marked, has_task, KnowsTasks}
use Rattle.seam_machine.proofs.Quiet.{some_at}
use Rattle.seam_machine.proofs.Writes.{set_here, set_there}

module _ {N : Type 0} (has_work : N → Bool) (nodes : List N) (words : List ℕ) where
  -- a node was changed, and asked
  pub knows_after : (asked : Bool) (after : List ℕ) (k : ℕ) (s : N) (t : Bool) → k < length nodes → t ≡ has_work s →
      is_marked after k ≡ t → ((j : ℕ) → j ≢ k → is_marked after j ≡ is_marked words j) → KnowsTasks has_work nodes asked words →
      KnowsTasks has_work (set nodes k s) asked after
  knows_after asked after k s t within is there others known all j = elim (cases_eq j k) [
    | inl e ↦ rw (e, set_here nodes k s within) (there ∙ is)
    | inr ne ↦ others j ne ∙ known all j ∙ ap (has_task has_work) (sym (set_there nodes k s j within ne))
  ]

  module _ (known : (k : ℕ) → is_marked words k ≡ has_task has_work (slice_get nodes k)) (k : ℕ) where
    -- a node that is marked has its task, and one that is not has none
    pub on_within : is_marked words k ≡ true → k < length nodes
    on_within there = elim (cases_lt k (length nodes)) [
      | inl lt ↦ lt
      | inr past ↦ let contrary : true ≡ false = sym there ∙ known k ∙ ap (has_task has_work) (slice_get_past nodes k past) in absurd cc
    ]

    pub off_at : k < length nodes → is_marked words k ≡ false → slice_get (map has_work nodes) k ≡ Some false
    off_at within gone =
        let s = some_at nodes k within in
        slice_get-map has_work nodes k
        ∙ (ap (option_map has_work) s.1 ∙ ap Some (sym (ap (has_task has_work) s.1) ∙ (sym (known k) ∙ gone)))
