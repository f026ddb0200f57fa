-- After one look a client is shown nothing by a further one, of the same flat table; and the looks leave that table.
use Rattle.seam_law_clients.proofs.Prelude.{◌≡◌, ℕ, ◌⊎◌, Bool, true, false, cond, List, [], ◌∷◌, ◌++◌, map, Option, None, Some, refl, sym}
use Rattle.seam_law_clients.proofs.Prelude.{ap, ◌∙◌, arith, inl, inr, option_map, slice_get, nat_lt, AllByRecursion, filter_map, flat_map}
use Rattle.seam_law_clients.proofs.Prelude.{nat_cmp, nat_cmp_total, same_entries, nat_tests, fold-append, IsQuiet, Event, Shown, Own}
use Rattle.seam_law_clients.proofs.Prelude.{RealView, WitnessView, Known, seen_as, shown_for, CellView, look_loaded, World, node_has_work}
use Rattle.seam_law_clients.proofs.Prelude.{Frame, here_at, RunsTo, real_at, IsBetweenRounds, HadSameReal, row_of_real, rows_at, row_in}
use Rattle.seam_law_clients.proofs.Prelude.{rows_of, looked_by, having_looked, HaveRoomToLook, Seen, Look, IsView, seen_of, after_looks}
use Rattle.seam_law_clients.proofs.Prelude.{plain_look, Somewhere, Nowhere, search_real, look_ends_between, ClientReplica, after_shown}
use Rattle.seam_law_clients.proofs.Prelude.{after_all_shown, Row, row_of, rows_but, seen, is_newer, own_shown, look_at, look_by, one_look}
use Rattle.seam_law_clients.proofs.Prelude.{turned, each_found, find_entries}
use Rattle.std.specs.FinMap as table
use Rattle.seam_rule_clients.specs.Looks as replica
use Rattle.seam_law_clients.proofs.Near.{as_seen, seen_found}
use Rattle.seam_law_clients.proofs.Rows.{found_in, others, others_rise, seen_others, lines_of_others}
use Rattle.seam_law_clients.proofs.OneLook.{row_there, row_nowhere}
use Rattle.seam_law_clients.proofs.After.{follows}
use Rattle.seam_law_clients.proofs.LookEnds.{looked}
use Rattle.seam_law_clients.proofs.ShownOnce.{cell_at}
use Rattle.seam_law_clients.proofs.Further.{none_further}

map_all : {A B : Type 0} (P : B → Type 0) (f : A → B) (xs : List A) → AllByRecursion (λ x. P (f x)) xs → AllByRecursion P (map f xs)
map_all P f [] all = tt
map_all P f (x ∷ xs) all = (all.0, map_all P f xs all.1)

not_below : (n : ℕ) → nat_lt n n ≡ false
not_below n = grind (arith, nat_tests)

-- after its own line, where that is due, a client has others as before, and no other is due
own_done : (c : ClientReplica) (r : Row) (b : Bool) → is_newer c.own r.version ≡ b →
    ((after_all_shown c (cond b (Own r.version r.own ∷ []) [])).others ≡ c.others)
    × (is_newer (after_all_shown c (cond b (Own r.version r.own ∷ []) [])).own r.version ≡ false)
own_done c r true is = (refl, not_below r.version)
own_done c r false is = (refl, is)

module _ (w : World) (c : ClientReplica) (view : IsView c.others) (e : ℕ) where
  abbrev known : List Known
  known = others w e

  abbrev rows : List Row
  rows = rows_but e (rows_of w)

  -- none is known twice
  once : AllByRecursion (λ (s : Seen). seen_of s.entity (map seen_as known) ≡ Some s) (map seen_as known)
  once =
      map_all (λ (s : Seen). seen_of s.entity (map seen_as known) ≡ Some s) seen_as known
      (turned (λ y. table.find nat_cmp y.0 known ≡ Some y.1) (λ y. seen_of y.0 (map seen_as known) ≡ Some (seen_as y))
      (λ y found. seen_found y.0 known ∙ ap (option_map (as_seen y.0)) found) known (each_found known (others_rise w e)))

  -- a look by what is known
  look_is : (d : ClientReplica) (r : Row) →
      look_at d r rows ≡ own_shown d r ++ filter_map (shown_for known) (plain_look d.others r.own.pos (map seen_as known))
  look_is d r =
      ap (λ ss. own_shown d r ++ filter_map (replica.shown_for rows) (plain_look d.others r.own.pos ss)) (seen_others w e)
      ∙ ap (λ l. own_shown d r ++ l) (lines_of_others w e (plain_look d.others r.own.pos (map seen_as known)))

  further_at : (r : Row) → look_at (after_all_shown c (look_at c r rows)) r rows ≡ []
  further_at r =
      let ls : List Look = plain_look c.others r.own.pos (map seen_as known) in
      let lines : List Shown = filter_map (shown_for known) ls in
      let c1 : ClientReplica = after_all_shown c (own_shown c r) in
      let d : ClientReplica = after_all_shown c (look_at c r rows) in
      let is : d ≡ after_all_shown c1 lines =
      ap (after_all_shown c) (look_is c r) ∙ fold-append after_shown c (own_shown c r) lines in
      let more = follows known ls c1 in
      let own = own_done c r (is_newer c.own r.version) refl in
      let view_is : d.others ≡ after_looks (map seen_as known) c.others ls =
      ap (λ (y : ClientReplica). y.others) is
      ∙ (more.others ∙ ap (λ y. after_looks (map seen_as known) y ls) own.0) in
      let old : is_newer d.own r.version ≡ false =
      ap (λ y. is_newer y r.version) (ap (λ (y : ClientReplica). y.own) is ∙ more.own) ∙ own.1 in
      look_is d r
      ∙ ap (λ b. cond b (Own r.version r.own ∷ []) []
      ++ filter_map (shown_for known) (plain_look d.others r.own.pos (map seen_as known))) old
      ∙ ap (filter_map (shown_for known)) (ap (λ y. plain_look y r.own.pos (map seen_as known)) view_is
      ∙ none_further c.others r.own.pos (map seen_as known) view once)

  by_row : (o : Option Row) → look_by (after_all_shown c (look_by c o rows)) o rows ≡ []
  by_row None = refl
  by_row (Some r) = further_at r

  pub none_shown : one_look (after_all_shown c (one_look c e (rows_of w))) e (rows_of w) ≡ []
  none_shown = by_row (row_of (rows_of w) e)

-- ---- the looks leave the table

same_row : (f : Frame) (x : ℕ) (cell : CellView) (r : RealView) (o : Option WitnessView) →
    row_of_real (here_at f 0) (x, looked_by cell x r o) ≡ row_of_real (here_at f 0) (x, r)
same_row f x cell r None = refl
same_row f x cell r (Some v) = refl

module _ (f : Frame) (u : World) (between : IsBetweenRounds f u) (room : HaveRoomToLook u) (vs : List Event) (v : World)
    (run : RunsTo (look_loaded u) vs v) (quiet : IsQuiet node_has_work v)
    (was : (e k : ℕ) (q : RealView) → real_at e v k ≡ Some q → HadSameReal e k q u) where
  again : IsBetweenRounds f v
  again = look_ends_between f u between vs v run quiet

  still_none : (x : ℕ) → Nowhere x u → Nowhere x v
  still_none x n k = by (real_at x v k) refl
    where
      by : (o : Option RealView) → real_at x v k ≡ o → real_at x v k ≡ None
      by None at = at
      by (Some q) at = let there = was x k q at in absurd (let z = sym (n k) ∙ there.here in cc)

  found_same : (x : ℕ) → found_in x v.nodes ≡ found_in x u.nodes
  found_same x = by (search_real x u)
    where
      by : Somewhere x u ⊎ Nowhere x u → found_in x v.nodes ≡ found_in x u.nodes
      by (inl p) =
          let cell = cell_at x p.0 u p.1 (slice_get u.nodes p.0) refl p.2 in
          let at = looked f u between room vs v run quiet x p.0 p.1 p.2 cell.0 cell.1 in
          row_there f v again x p.0 (having_looked cell.0 x p.1) at
          ∙ ap (λ y. Some y) (same_row f x cell.0 p.1 p.1.witness)
          ∙ sym (row_there f u between x p.0 p.1 p.2)
      by (inr n) = row_nowhere f v again x (still_none x n) ∙ sym (row_nowhere f u between x n)

  pub same_table : rows_of v ≡ rows_of u
  same_table =
      let a = table.from_entries {R = nat_cmp} (flat_map rows_at v.nodes) in
      let b = table.from_entries {R = nat_cmp} (flat_map rows_at u.nodes) in
      ap (map row_in)
      (same_entries nat_cmp nat_cmp_total table.nat_cmp-IsAntisymmetric (table.entries a) (table.entries b) (table.entries_sorted a)
      (table.entries_sorted b) (λ x. find_entries (flat_map rows_at v.nodes) x ∙ found_same x
      ∙ sym (find_entries (flat_map rows_at u.nodes) x)))
