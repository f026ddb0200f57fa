use Rattle.std.proofs.Common.{◌++◌, ℕ, ◌+◌, List, [], ◌∷◌, false, refl, sym, ap, ◌∙◌, append-nil, append_assoc, add-one, arith, ◌≡◌}
use Rattle.std.specs.Prelude.{if◌then◌else◌}
use Rattle.std.specs.FinSet as set
use Rattle.std.specs.Ordering.{nat_cmp}
use Rattle.std.specs.List.{flat_map, range_with_len}
use Rattle.std.proofs.lemmas.List.Concat.{flat_map-append}
use Rattle.seam_node_steps.specs.Prelude.{cell_numbers, RealView}
use Rattle.seam_rule_rounds.specs.Prelude.{GhostLine, ghost_text}
use Rattle.seam_world_text.specs.Finding.{haunt_line, ghost_line}
use Rattle.seam_world_text.proofs.Gathering.{next_in_range}
use Rattle.seam_world_text.proofs.ends.push_haunts.Goals as goal

-- a real without haunts has no ghosts
none_listed : (e : ℕ) (r : RealView) (cells : List ℕ) → r.haunts ≡ set.empty → flat_map (haunt_line e r) cells ≡ []
none_listed e r [] none = refl
none_listed e r (k ∷ cells) none =
    let at : set.contains r.haunts k ≡ false = ap (λ s. set.contains s k) none ∙ set.contains-empty nat_cmp k in
    λ i. (if at i then ghost_line e r.public k ∷ [] else []) ++ none_listed e r cells none i

pub returns-then-is : goal.returns-then-is
returns-then-is c =
    let r = c.args.real.now.core in
    let none : r.haunts ≡ set.empty = sym c.haunts-haunts.ensures ∙ (c.is.ensures.0 c.if-is.true ∙ c.none.ensures) in
    let out = c.args.out.now.items in
    sym (ap (λ l. out ++ flat_map ghost_text l) (none_listed c.args.entity r cell_numbers none) ∙ append-nil out)

pub loop-cell-preserved : goal.loop-cell-preserved
loop-cell-preserved c =
    let n = c.loop-cell.cell in
    let line : ℕ → List GhostLine = haunt_line c.args.entity c.args.real.now.core in
    let first = c.args.out.now.items in
    let before = flat_map line (range_with_len 0 n) in
    let number : 0 + n ≡ n = omega arith in
    (c.in_ok-push_haunt.ensures
    ∙ (λ i. c.loop-cell.out.items ++ flat_map ghost_text
    (if set.contains (c.haunts-haunts.ensures i) n then ghost_line c.args.entity (c.public_version-version.ensures i) n ∷ [] else [])))
    ∙ ap (λ l. l ++ flat_map ghost_text (line n)) c.loop-cell.invariant
    ∙ append_assoc first (flat_map ghost_text before) (flat_map ghost_text (line n))
    ∙ ap (λ l. first ++ l)
    (sym (ap (flat_map ghost_text) (ap (λ k. flat_map line (range_with_len 0 k)) (add-one n) ∙ next_in_range line 0 n
    ∙ ap (λ k. before ++ line k) number)
    ∙ flat_map-append ghost_text before (line n)))
