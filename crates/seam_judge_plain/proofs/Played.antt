-- Lines by the standing that was played.
use Rattle.std.proofs.Common.{◌≡◌, List, map}
use Rattle.std.specs.List.{flat_map}
use Rattle.seam_rule_rounds.specs.Prelude.{Create, Header, tree_of, rows_of, Standing, home_line, base_line, ghost_lines}
use Rattle.seam_judge_plain.specs.Plain.{orders_after, places_after, played, lines_of}

module _ (h : Header) (s t : Standing) (live : List Create) (orders : t.orders ≡ orders_after s)
    (places : t.places ≡ places_after h s (orders_after s) live) where
  pub homes_are : map (home_line h t) live ≡ map (home_line h (played h s live)) live
  homes_are = λ i. map (λ c. home_line h (record s { orders = orders i; places = places i }) c) live

  pub bases_are : map (base_line h t) live ≡ map (base_line h (played h s live)) live
  bases_are = λ i. map (λ c. base_line h (record s { orders = orders i; places = places i }) c) live

  pub ghosts_are : flat_map (ghost_lines h (tree_of s.book) t) live ≡ flat_map (ghost_lines h (tree_of s.book) (played h s live)) live
  ghosts_are = λ i. flat_map (λ c. ghost_lines h (tree_of s.book) (record s { orders = orders i; places = places i }) c) live

  pub shown_are : (clients : List Create) → flat_map (lines_of h s t (rows_of h t.orders live)) clients
      ≡ flat_map (lines_of h s (played h s live) (rows_of h (orders_after s) live)) clients
  shown_are clients =
      λ i. flat_map (λ c. lines_of h s (record s { orders = orders i; places = places i }) (rows_of h (orders i) live) c) clients
