-- Nodes that are opened, one after the other.
use Rattle.std.proofs.Common.{◌≡◌, ℕ, ◌+◌, List, [], ◌∷◌, ◌++◌, map, refl, sym, ap, ◌∙◌}
use Rattle.std.specs.List.{range_with_len}
use Rattle.std.proofs.lemmas.List.{append_assoc}
use Rattle.std.proofs.lemmas.List.FromFn.{map-range_with_len_more}
use Rattle.seam_node_steps.specs.Nodes.{NodeView}

pub one_opened : (make : ℕ → NodeView) (a k j : ℕ) (items new : List NodeView) (s : NodeView) → new ≡ items ++ s ∷ [] →
    items ≡ map make (range_with_len a k) → s ≡ make j → a + k ≡ j → new ≡ map make (range_with_len a (k + 1))
one_opened make a k j items new s then is node at =
    then
    ∙ (ap (λ l. l ++ s ∷ []) is
    ∙ (ap (λ x. map make (range_with_len a k) ++ x ∷ []) node ∙ sym (map-range_with_len_more make a k j at)))

pub one_after : (make : ℕ → NodeView) (a k j : ℕ) (first items new : List NodeView) (s : NodeView) → new ≡ items ++ s ∷ [] →
    items ≡ first ++ map make (range_with_len a k) → s ≡ make j → a + k ≡ j → new ≡ first ++ map make (range_with_len a (k + 1))
one_after make a k j first items new s then is node at =
    let made = map make (range_with_len a k) in
    then
    ∙ (ap (λ l. l ++ s ∷ []) is
    ∙ (append_assoc first made (s ∷ [])
    ∙ ap (λ l. first ++ l) (one_opened make a k j made (made ++ s ∷ []) s refl refl node at)))
