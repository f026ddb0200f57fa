-- What is known of an entity, and one more that is seen.
use Rattle.std.proofs.Common.{◌≡◌, ◌++◌, ℕ, Bool, true, false, cond, List, ◌∷◌, map, append_assoc}
use Rattle.std.proofs.Common.{Option, None, Some, refl, ap, sym, ◌∙◌}
use Rattle.std.specs.Prelude.{option_map}
use Rattle.std.specs.List.{filter}
use Rattle.std.specs.FinMap as table
use Rattle.seam_node_steps.specs.Prelude.{Ghost, copy_in, GhostCopy, Here, RealView, Map, known_by, is_another}
use Rattle.seam_entity.specs.WitnessLooks.{other_of_real, other_of_copy}
use Rattle.seam_range.specs.declared.Location.{Location}
use Rattle.seam_view.specs.declared.Seen.{Seen}
use Rattle.seam_cell_seen.specs.Known.{known_with}
use Rattle.seam_cell_seen.specs.Merging.{seen_if, seen_at_location, is_other}

-- ---- what is known of an entity

module _ (h : Here) (reals : Map RealView) (ghosts : Map (Ghost GhostCopy)) (e : ℕ) where
  pub real_is_known : (r : RealView) → Some r ≡ table.get reals e → Some (other_of_real h r) ≡ known_with h reals ghosts e
  real_is_known r at = ap (λ o. known_by h o (copy_in (table.get ghosts e))) at

  pub copy_is_known : (o : Option GhostCopy) → None ≡ table.get reals e → o ≡ copy_in (table.get ghosts e) →
      option_map (other_of_copy h) o ≡ known_with h reals ghosts e
  copy_is_known o none at = λ i. known_by h (none i) (at i)

-- one more that is seen, if it is another one, and what is left after it
pub merged_more : (own : ℕ) (x : ℕ × Location) (left all : List (ℕ × Location)) (v w : List Seen) (s : Seen) → s ≡ seen_at_location x →
    all ≡ x ∷ left →
    w ≡ v ++ seen_if (is_another own s.entity) s →
    w ++ map seen_at_location (filter (is_other own) left) ≡ v ++ map seen_at_location (filter (is_other own) all)
merged_more own x left all v w s seen is more =
    ap (λ l. l ++ map seen_at_location (filter (is_other own) left)) (more ∙ ap (λ y. v ++ seen_if (is_another own y.entity) y) seen)
    ∙ (append_assoc v (seen_if (is_other own x) (seen_at_location x)) (map seen_at_location (filter (is_other own) left))
    ∙ ap (λ l. v ++ l) (by (is_other own x) ∙ sym (ap (λ l. map seen_at_location (filter (is_other own) l)) is)))
  where
    by : (b : Bool) → seen_if b (seen_at_location x) ++ map seen_at_location (filter (is_other own) left)
        ≡ map seen_at_location (cond b (x ∷ filter (is_other own) left) (filter (is_other own) left))
    by true = refl
    by false = refl
