-- What a table of copies and a table of dropped beats answer together.
use Rattle.std.proofs.Common.{◌≡◌, ℕ, Bool, true, false, cond, List, [], ◌∷◌, ◌++◌, Option, None, Some, is_some, map as each}
use Rattle.std.proofs.Common.{refl, sym, ap, ◌∙◌}
use Rattle.std.specs.Ordering.{nat_cmp, eq_by_cmp}
use Rattle.std.specs.Cmp.{nat_cmp_total}
use Rattle.std.specs.FinMap as map
use Rattle.std.specs.FinSet as set
use Rattle.seam_table.specs.Tables.{TableView, with_item, without_room}
use Rattle.seam_ghosts.specs.declared.Ghost.{Ghost}
use Rattle.seam_ghosts.specs.declared.Held.{Held}
use Rattle.seam_ghosts.specs.Book.{beat_in, copy_in, with_copies, with_ghost}
use Rattle.seam_ghosts.specs.Joined.{with_its_copy, without_copy, joined, book_of}
use Rattle.seam_ghosts.proofs.Forgotten.{get_with_copies}

-- the ghost of an entity with this copy, if it has one, whose copy was dropped at this beat, if it was
abbrev pub ghost_of : {P : Type 0} → Option (Held P) → Option ℕ → Option (Ghost P)
ghost_of (Some h) d = Some (record { beat = h.beat; copy = Some h.copy })
ghost_of None (Some b) = Some (record { beat = b; copy = None })
ghost_of None None = None

abbrev pub copy_held : {P : Type 0} → Option (Held P) → Option P
copy_held None = None
copy_held (Some h) = Some h.copy

module _ {P : Type 0} where
  found_dropped : (q : ℕ) (ds : List (ℕ × ℕ)) → map.find nat_cmp q (each (without_copy {P = P}) ds)
      ≡ ghost_of None (map.find nat_cmp q ds)
  found_dropped q [] = refl
  found_dropped q (d ∷ ds) = by (eq_by_cmp nat_cmp q d.0) (found_dropped q ds)
    where
      by : (t : Bool) → map.find nat_cmp q (each (without_copy {P = P}) ds) ≡ ghost_of None (map.find nat_cmp q ds) →
          cond t (Some (without_copy {P = P} d).1) (map.find nat_cmp q (each (without_copy {P = P}) ds))
          ≡ ghost_of None (cond t (Some d.1) (map.find nat_cmp q ds))
      by true h = refl
      by false h = h

  found_joined : (q : ℕ) (hs : List (ℕ × Held P)) (ds : List (ℕ × ℕ)) →
      map.find nat_cmp q (each with_its_copy hs ++ each without_copy ds) ≡ ghost_of (map.find nat_cmp q hs) (map.find nat_cmp q ds)
  found_joined q [] ds = found_dropped q ds
  found_joined q (h ∷ hs) ds = by (eq_by_cmp nat_cmp q h.0) (found_joined q hs ds)
    where
      rest : Option (Ghost P)
      rest = map.find nat_cmp q (each with_its_copy hs ++ each without_copy ds)

      by : (t : Bool) → rest ≡ ghost_of (map.find nat_cmp q hs) (map.find nat_cmp q ds) →
          cond t (Some (with_its_copy h).1) rest ≡ ghost_of (cond t (Some h.1) (map.find nat_cmp q hs)) (map.find nat_cmp q ds)
      by true is = refl
      by false is = is

  pub get_joined : (copies : map.FinMap nat_cmp (Held P)) (dropped : map.FinMap nat_cmp ℕ) (q : ℕ) →
      map.get (joined copies dropped) q ≡ ghost_of (map.get copies q) (map.get dropped q)
  get_joined copies dropped q =
      map.get-from_entries nat_cmp_total (each with_its_copy (map.entries copies) ++ each without_copy (map.entries dropped)) q
      ∙ found_joined q (map.entries copies) (map.entries dropped)
      ∙ (λ i. ghost_of (sym (map.get-entries copies q) i) (sym (map.get-entries dropped q) i))

  -- ---- what they answer

  copy_with : (o : Option (Held P)) (d : Option ℕ) → copy_in (ghost_of o d) ≡ copy_held o
  copy_with (Some h) d = refl
  copy_with None (Some b) = refl
  copy_with None None = refl

  pub copy_joined : (copies : map.FinMap nat_cmp (Held P)) (dropped : map.FinMap nat_cmp ℕ) (q : ℕ) →
      copy_in (map.get (joined copies dropped) q) ≡ copy_held (map.get copies q)
  copy_joined copies dropped q = ap copy_in (get_joined copies dropped q) ∙ copy_with (map.get copies q) (map.get dropped q)

  pub beat_joined : (copies : map.FinMap nat_cmp (Held P)) (dropped : map.FinMap nat_cmp ℕ) (q : ℕ) →
      beat_in (map.get (joined copies dropped) q) ≡ beat_in (ghost_of (map.get copies q) (map.get dropped q))
  beat_joined copies dropped q = ap beat_in (get_joined copies dropped q)

  -- ---- what is written

  -- a copy is put
  pub joined_put : (copies : map.FinMap nat_cmp (Held P)) (dropped : map.FinMap nat_cmp ℕ) (e : ℕ) (h : Held P) →
      joined (map.insert copies e h) dropped ≡ map.insert (joined copies dropped) e (record { beat = h.beat; copy = Some h.copy })
  joined_put copies dropped e h =
      map.same_map nat_cmp_total map.nat_cmp-IsAntisymmetric _ _ (λ q.
      get_joined (map.insert copies e h) dropped q
      ∙ ap (λ o. ghost_of o (map.get dropped q)) (map.get-insert nat_cmp_total copies e h q)
      ∙ by q (eq_by_cmp nat_cmp q e)
      ∙ ap (cond (eq_by_cmp nat_cmp q e) (Some (record { beat = h.beat; copy = Some h.copy }))) (sym (get_joined copies dropped q))
      ∙ sym (map.get-insert nat_cmp_total (joined copies dropped) e (record { beat = h.beat; copy = Some h.copy }) q))
    where
      by : (q : ℕ) (t : Bool) → ghost_of (cond t (Some h) (map.get copies q)) (map.get dropped q)
          ≡ cond t (Some (record { beat = h.beat; copy = Some h.copy })) (ghost_of (map.get copies q) (map.get dropped q))
      by q true = refl
      by q false = refl

  -- a copy is dropped
  pub joined_dropped : (copies : map.FinMap nat_cmp (Held P)) (dropped : map.FinMap nat_cmp ℕ) (e b : ℕ) →
      joined (map.remove copies e) (map.insert dropped e b) ≡ map.insert (joined copies dropped) e (record { beat = b; copy = None })
  joined_dropped copies dropped e b =
      map.same_map nat_cmp_total map.nat_cmp-IsAntisymmetric _ _ (λ q.
      get_joined (map.remove copies e) (map.insert dropped e b) q
      ∙ (λ i. ghost_of (map.get-remove nat_cmp_total copies e q i) (map.get-insert nat_cmp_total dropped e b q i))
      ∙ by q (eq_by_cmp nat_cmp q e)
      ∙ ap (cond (eq_by_cmp nat_cmp q e) (Some (record { beat = b; copy = None }))) (sym (get_joined copies dropped q))
      ∙ sym (map.get-insert nat_cmp_total (joined copies dropped) e (record { beat = b; copy = None }) q))
    where
      by : (q : ℕ) (t : Bool) → ghost_of (cond t None (map.get copies q)) (cond t (Some b) (map.get dropped q))
          ≡ cond t (Some (record { beat = b; copy = None })) (ghost_of (map.get copies q) (map.get dropped q))
      by q true = refl
      by q false = refl

  -- dropped beats are forgotten
  pub joined_forgotten : (copies : map.FinMap nat_cmp (Held P)) (dropped : map.FinMap nat_cmp ℕ) →
      joined copies map.empty ≡ with_copies (joined copies dropped)
  joined_forgotten copies dropped =
      map.same_map nat_cmp_total map.nat_cmp-IsAntisymmetric _ _ (λ q.
      get_joined copies map.empty q
      ∙ ap (ghost_of (map.get copies q)) (map.get-empty nat_cmp q)
      ∙ by (map.get copies q) (map.get dropped q)
      ∙ ap (λ o. cond (is_some (copy_in o)) o None) (sym (get_joined copies dropped q))
      ∙ sym (get_with_copies (joined copies dropped) q))
    where
      by : (o : Option (Held P)) (d : Option ℕ) → ghost_of o None ≡ cond (is_some (copy_in (ghost_of o d))) (ghost_of o d) None
      by (Some h) d = refl
      by None (Some b) = refl
      by None None = refl

  -- nothing is known at first
  pub joined_empty : joined (map.empty {X = Held P}) map.empty ≡ map.empty
  joined_empty =
      map.same_map nat_cmp_total map.nat_cmp-IsAntisymmetric _ _ (λ q.
      get_joined (map.empty {X = Held P}) map.empty q
      ∙ (λ i. ghost_of (map.get-empty {X = Held P} nat_cmp q i) (map.get-empty {X = ℕ} nat_cmp q i))
      ∙ sym (map.get-empty nat_cmp q))

  pub book_empty : book_of (record { items = map.empty {X = Held P}; room = set.empty }) (record { items = map.empty; room = set.empty })
      ≡ record { ghosts = map.empty }
  book_empty = let ghosts = joined_empty in λ i. record { ghosts = ghosts i }

  -- ---- the book

  module _ (copies : TableView (Held P)) (dropped : TableView ℕ) where
    pub book_put : (e : ℕ) (h : Held P) → book_of (with_item copies e h) dropped
        ≡ with_ghost (book_of copies dropped) e (record { beat = h.beat; copy = Some h.copy })
    book_put e h = let ghosts = joined_put copies.items dropped.items e h in λ i. record { ghosts = ghosts i }

    pub book_dropped : (e b : ℕ) → book_of (without_room copies e) (with_item dropped e b)
        ≡ with_ghost (book_of copies dropped) e (record { beat = b; copy = None })
    book_dropped e b = let ghosts = joined_dropped copies.items dropped.items e b in λ i. record { ghosts = ghosts i }

    pub book_forgotten : book_of copies (record { items = map.empty; room = set.empty })
        ≡ record { ghosts = with_copies (book_of copies dropped).ghosts }
    book_forgotten = let ghosts = joined_forgotten copies.items dropped.items in λ i. record { ghosts = ghosts i }
