-- What is found by routes is what a quiet world has.
use Rattle.std.proofs.Common.{◌≡◌, ◌⊎◌, ℕ, ◌+◌, ◌%◌, ◌<◌, ◌≤◌, Bool, true, false, cond, [], ◌∷◌, Option, None, Some, refl, sym, ap, ◌∙◌}
use Rattle.std.proofs.Common.{arith, inl, inr}
use Rattle.std.specs.Prelude.{slice_get}
use Rattle.std.specs.Option.{option_map}
use Rattle.std.specs.FinSet as set
use Rattle.seam_node_steps.specs.Prelude.{Division, Part, GhostCopy, cell_count, RealView, RouteView, World, copy_if}
use Rattle.seam_rule_rounds.specs.Prelude.{Header}
use Rattle.seam_law_calls.specs.Prelude.{entity_flow, real_in, proxy_of, lines_in}
use Rattle.seam_law_rounds.specs.Prelude.{IsBetweenRounds}
use Rattle.seam_law_ghosts.specs.Prelude.{present, AreCopiesBetweenRounds}
use Rattle.seam_law_book.specs.Prelude.{frame_of, base_node, done_by_real, done_by_part, done_in, ghost_read, ghosts_read}
use Rattle.seam_law_book.specs.Prelude.{real_here, copy_here}
use Rattle.seam_law_transcript.specs.Prelude.{home_if, homes_read, base_if, bases_read, lines_shown}
use Rattle.seam_defs.specs.declared.flags.Part.TheVariants as part
use Rattle.seam_law_rounds.proofs.Shape.{Somewhere, Nowhere, search_real}
use Rattle.seam_law_book.proofs.Executed.{none_in, one_in}
use Rattle.seam_law_book.proofs.Found.{real_is, copy_is, part_is}
use Rattle.seam_world_text.specs.Finding.{bases_of, node_for, by_route, home_found, done_at_home, done_found, home_line_at, homes_found}
use Rattle.seam_world_text.specs.Finding.{bases_found, haunt_line, ghost_line, ghost_lines_at, ghosts_found, lines_found}
use Rattle.seam_world_text.proofs.Gathering.{same_in_range}

read_if : (e k : ℕ) (b : Bool) (c : GhostCopy) → ghost_read e k (copy_if b c) ≡ cond b (ghost_line e c.version k ∷ []) []
read_if e k true c = refl
read_if e k false c = refl

below : (e n : ℕ) → 1 ≤ n → e % n < n
below e n from = omega (arith, from)

module _ (h : Header) (tree : Division) (some : 1 ≤ h.settings.bases) (v : World) (between : IsBetweenRounds (frame_of h tree) v) where
  bases_are : bases_of v ≡ h.settings.bases
  bases_are = let many = between.many in omega (arith, many)

  pub node_is : (e : ℕ) → node_for v e ≡ base_node h e
  node_is e = ap (λ n. cell_count + (e % n)) bases_are

  module _ (e : ℕ) where
    -- ---- its base part

    pub part_done : done_in h v part.Base e ≡ done_found part.Base v e
    part_done =
        ap done_by_part (part_is e v (base_node h e)) ∙ ap (λ n. done_by_part ((entity_flow e v).slot n).base.part) (sym (node_is e))

    pub bases_are_found : bases_read h v e ≡ bases_found v e
    bases_are_found =
        ap (base_if e) (part_is e v (base_node h e)) ∙ ap (λ n. base_if e ((entity_flow e v).slot n).base.part) (sym (node_is e))

    pub lines_are_found : lines_shown h v e ≡ lines_found v e
    lines_are_found =
        ap (λ o. lines_in (proxy_of o)) (part_is e v (base_node h e))
        ∙ ap (λ n. lines_in (proxy_of ((entity_flow e v).slot n).base.part)) (sym (node_is e))

    -- ---- its real

    pub nowhere : Nowhere e v → home_found v e ≡ None
    nowhere none = by ((entity_flow e v).slot (node_for v e)).base.route
      where
        by : (o : Option RouteView) → by_route v e o ≡ None
        by None = refl
        by (Some r) = ap (option_map (λ (q : RealView). (r.cell, q))) (none r.cell)

    module _ (k : ℕ) (r : RealView) (at : real_in ((entity_flow e v).slot k) ≡ Some r) where
      pub home_is : home_found v e ≡ Some (k, r)
      home_is =
          let less = below e h.settings.bases some in
          let is = node_is e in
          ap (by_route v e) ((between.settled e k r at).routes (node_for v e) (omega (arith, is)) (omega (arith, is, less)))
          ∙ ap (option_map (λ (q : RealView). (k, q))) at

      in_cells : k < 0 + cell_count
      in_cells =
          let home = (between.settled e k r at).fits.home in
          let most = between.frame.tree.cells_to in
          omega (arith, home, most)

      each_ghost : (copies : AreCopiesBetweenRounds (frame_of h tree) v) (j : ℕ) → j < cell_count →
          ghost_read e j (copy_here e (slice_get v.nodes j)) ≡ haunt_line e r j
      each_ghost copies j lt =
          ap (ghost_read e j) (copy_is e v j ∙ (copies.settled e k r at).copies j lt)
          ∙ read_if e j (set.contains r.haunts j) (present (frame_of h tree) r)

      pub ghosts_are_found : AreCopiesBetweenRounds (frame_of h tree) v → ghosts_read e v ≡ ghosts_found v e
      ghosts_are_found copies =
          same_in_range (λ j. ghost_read e j (copy_here e (slice_get v.nodes j))) (haunt_line e r) 0 cell_count
          (λ j lt. each_ghost copies j (omega (arith, lt)))
          ∙ sym (ap (ghost_lines_at e) home_is)

    done_by : Somewhere e v ⊎ Nowhere e v → done_in h v part.Cell e ≡ done_found part.Cell v e
    done_by (inl (k, r, at)) =
        one_in (λ j. done_by_real (real_here e (slice_get v.nodes j))) k 0 cell_count (omega arith) (in_cells k r at)
        (λ j n. ap done_by_real (real_is e v j ∙ (between.settled e k r at).others j n))
        ∙ ap done_by_real (real_is e v k ∙ at) ∙ sym (ap done_at_home (home_is k r at))
    done_by (inr none) =
        none_in (λ j. done_by_real (real_here e (slice_get v.nodes j))) 0 cell_count (λ j le. ap done_by_real (real_is e v j ∙ none j))
        ∙ sym (ap done_at_home (nowhere none))

    pub real_done : done_in h v part.Cell e ≡ done_found part.Cell v e
    real_done = done_by (search_real e v)

    homes_by : Somewhere e v ⊎ Nowhere e v → homes_read v e ≡ homes_found v e
    homes_by (inl (k, r, at)) =
        one_in (λ j. home_if e j (real_here e (slice_get v.nodes j))) k 0 cell_count (omega arith) (in_cells k r at)
        (λ j n. ap (home_if e j) (real_is e v j ∙ (between.settled e k r at).others j n))
        ∙ ap (home_if e k) (real_is e v k ∙ at) ∙ sym (ap (home_line_at e) (home_is k r at))
    homes_by (inr none) =
        none_in (λ j. home_if e j (real_here e (slice_get v.nodes j))) 0 cell_count (λ j le. ap (home_if e j) (real_is e v j ∙ none j))
        ∙ sym (ap (home_line_at e) (nowhere none))

    pub homes_are_found : homes_read v e ≡ homes_found v e
    homes_are_found = homes_by (search_real e v)

  pub done_is_found : (q : Part) (e : ℕ) → done_in h v q e ≡ done_found q v e
  done_is_found part.Cell e = real_done e
  done_is_found part.Base e = part_done e
