-- The first of the items, which all go to one node, are moved to the end of its link.
use Rattle.std.proofs.Common.{◌≡◌, ℕ, ◌+◌, ◌<◌, List, [], ◌∷◌, ◌++◌, length, get_or, set, map, refl, sym, ap, ◌∙◌, arith, append_assoc}
use Rattle.std.proofs.Common.{subst}
use Rattle.std.specs.List.{All}
use Rattle.std.proofs.lemmas.List.{length-append, length-map, append-nil, set-set, set-get_or, get_or-set_same, length-set}
use Rattle.std.proofs.lemmas.List.Elements.{All-head, All-tail}
use Rattle.seam_machine.specs.Sends.{AllBelow}
use Rattle.seam_machine.specs.Nets.{put_all}
use Rattle.seam_machine.specs.Inside.{PutsRun}

module _ {M : Type 0} where
  module _ (to : ℕ) (link link' : List M) (items items' : List (ℕ × M)) (p : PutsRun to link items link' items') where
    run_length : length items ≡ length p.run + length items'
    run_length =
        let one = ap length p.items_are ∙ length-append (map (λ m. (to, m)) p.run) items' in
        let two = length-map {B = ℕ × M} p.run (λ m. (to, m)) in
        omega (arith, one, two)

    -- where they are fewer, the link holds something
    pub run_fills : length items' < length items → 0 < length link'
    run_fills less =
        let n = run_length in
        let l = ap length p.link_is ∙ length-append link p.run in
        omega (arith, n, l, less)

    pub run_rest : (n : ℕ) → AllBelow n items → AllBelow n items'
    run_rest n all = rest p.run items' (subst (AllBelow n) p.items_are all)
      where
        rest : (run : List M) (ps : List (ℕ × M)) → AllBelow n (map (λ m. (to, m)) run ++ ps) → AllBelow n ps
        rest [] ps h = h
        rest (x ∷ xs) ps h = rest xs ps (All-tail (λ q. q.0 < n) (to, x) (map (λ m. (to, m)) xs ++ ps) h)

  tagged : (to : ℕ) (items : List (ℕ × M)) → All (λ p. p.0 ≡ to) items → items ≡ map (λ m. (to, m)) (map (λ p. p.1) items) ++ []
  tagged to [] all = refl
  tagged to (p ∷ ps) all =
      ap (λ t. (t, p.1) ∷ ps) (All-head (λ q. q.0 ≡ to) p ps all)
      ∙ ap (λ l. (to, p.1) ∷ l) (tagged to ps (All-tail (λ q. q.0 ≡ to) p ps all))

  -- all items, which go to one node, are its link now, which was empty
  pub run_given : (to : ℕ) (link link' : List M) (items items' : List (ℕ × M)) → All (λ p. p.0 ≡ to) items → link ≡ [] →
      link' ≡ map (λ p. p.1) items → items' ≡ [] → PutsRun to link items link' items'
  run_given to link link' items items' all empty given none = record {
    run = map (λ p. p.1) items;
    items_are = tagged to items all ∙ ap (λ l. map (λ m. (to, m)) (map (λ p. p.1) items) ++ l) (sym none);
    link_is = given ∙ ap (λ l. l ++ map (λ p. p.1) items) (sym empty);
  }

  put_all-run : (to : ℕ) (row : List (List M)) (run : List M) (rest : List (ℕ × M)) → to < length row →
      put_all row (map (λ m. (to, m)) run ++ rest) ≡ put_all (set row to (get_or row to [] ++ run)) rest
  put_all-run to row [] rest here =
      ap (λ r. put_all r rest) (sym (ap (set row to) (append-nil (get_or row to [])) ∙ set-get_or row to []))
  put_all-run to row (m ∷ ms) rest here =
      let l = get_or row to [] in
      let one = set row to (l ++ m ∷ []) in
      let at : get_or one to [] ≡ l ++ m ∷ [] = get_or-set_same row to (l ++ m ∷ []) [] here in
      let more = put_all-run to one ms rest (omega (arith, here, length-set row to (l ++ m ∷ []))) in
      more
      ∙ ap (λ r. put_all r rest) (ap (λ k. set one to (k ++ ms)) at
      ∙ (set-set row to (l ++ m ∷ []) ((l ++ m ∷ []) ++ ms) ∙ ap (set row to) (append_assoc l (m ∷ []) ms)))

  -- to put all items at the ends of their links is to put the run at the end of its link, and then the others
  pub run_put : (to : ℕ) (row row' : List (List M)) (items items' : List (ℕ × M)) → to < length row →
      PutsRun to (get_or row to []) items (get_or row' to []) items' → row' ≡ set row to (get_or row' to []) →
      put_all row' items' ≡ put_all row items
  run_put to row row' items items' here p r =
      ap (λ k. put_all k items') (r ∙ ap (set row to) p.link_is)
      ∙ (sym (put_all-run to row p.run items' here) ∙ ap (put_all row) (sym p.items_are))
