-- Where nothing is on its way, cells have what the real wants exactly where the newest entries are that.
use Rattle.seam_law_ghosts.proofs.Prelude.{◌≡◌, ℕ, ◌<◌, ◌≤◌, Bool, true, false, List, [], ◌∷◌, Option, None, Some, refl, sym, ap, ◌∙◌}
use Rattle.seam_law_ghosts.proofs.Prelude.{subst, arith, inl, inr, slice_get, cases_eq, cases_lt, GhostCopy, RealView, Msg, cell_count}
use Rattle.seam_law_ghosts.proofs.Prelude.{copy_if, NodeView, World, node_has_work, Cell, Base, IsQuiet, holders, IsHead, comes, slot_at}
use Rattle.seam_law_ghosts.proofs.Prelude.{letters_of, NotAbove, OfEntry, AllBring, Newest, TokenPlace, In, On, Frame, IsInFrame, mine}
use Rattle.seam_law_ghosts.proofs.Prelude.{has_of, has_none, entity_flow, real_in, real_of, IsOne, IsBetweenRounds, Entry, brings}
use Rattle.seam_law_ghosts.proofs.Prelude.{book_entry, IsOfTable, IsTable, present, wanted, copy_at, NewestAreWanted, IsForgotten}
use Rattle.seam_law_ghosts.proofs.Prelude.{AreSettled, newest_rests, sole_here, quiet_links, none_counts, Nowhere, beat_at}

-- ---- one real is at one place

module _ (e : ℕ) (w : World) where
  pub same_one : (p q : TokenPlace) (r x : RealView) → IsOne e w p r → IsOne e w q x → (p ≡ q) × (r ≡ x)
  same_one (In k) q r x one two = let is = sole_here real_in real_of (entity_flow e w) q x r k two one.here in (sym is.0, is.1)
  same_one (On a b) (In k) r x one two =
      let is = sole_here real_in real_of (entity_flow e w) (On a b) r x k one two.here in
      (is.0, sym is.1)
  same_one (On a b) (On c d) r x one two = elim (cases_eq c a) [
    | inl i ↦ elim (cases_eq d b) [
      | inl j ↦
          let there : letters_of real_of ((entity_flow e w).mail a b) ≡ x ∷ [] =
          ap (λ y. letters_of real_of ((entity_flow e w).mail y b)) (sym i)
          ∙ (ap (λ y. letters_of real_of ((entity_flow e w).mail c y)) (sym j) ∙ two.here) in
          let same : r ∷ [] ≡ x ∷ [] = sym one.here ∙ there in
          (ap (λ y. On y b) (sym i) ∙ ap (On c) (sym j), (let z = same in cc))
      | inr n ↦ absurd (let z = sym two.here ∙ one.others c d (λ y z. n z) in cc)
    ]
    | inr n ↦ absurd (let z = sym two.here ∙ one.others c d (λ y z. n y) in cc)
  ]

-- ---- a quiet world

pub quiet_mail : (f : Frame) (w : World) → IsInFrame f w → IsQuiet node_has_work w → (e x y : ℕ) → (entity_flow e w).mail x y ≡ []
quiet_mail f w q quiet e x y = ap (letters_of (mine e)) (quiet_links node_has_work w q.sound.square quiet x y)

-- one that is nowhere has no holder
pub nowhere_counts : (f : Frame) (w : World) → IsBetweenRounds f w → (e : ℕ) → Nowhere e w → holders w e ≡ 0
nowhere_counts f w between e none =
    none_counts w e
    (record { slots = none; mail = λ x y. ap (letters_of real_of) (quiet_mail f w between.nodes between.quiet e x y) })

-- ---- the letter that comes

pub came_with : (Q : Entry → Type 0) (mail : ℕ → ℕ → List Msg) (k : ℕ) (input : Option (ℕ × Msg)) (rest : List Msg) →
    IsHead mail k input rest → ((a : ℕ) → AllBring brings Q (mail a k)) → (m : Msg) → comes input ≡ Some m → OfEntry Q (brings m)
came_with Q mail k None rest head all m is = cc
came_with Q mail k (Some p) rest head all m is =
    let same : p.1 ≡ m = cc in
    subst (λ x. OfEntry Q (brings x)) same (subst (AllBring brings Q) head (all p.0)).0

-- ---- base nodes have no books

base_by : (f : Frame) (e k : ℕ) (o : Option NodeView) (w : World) → IsInFrame f w → slice_get w.nodes k ≡ o → cell_count ≤ k →
    book_entry (slot_at (has_of e) has_none o) ≡ (0, None)
base_by f e k None w q at high = refl
base_by f e k (Some (Base b)) w q at high = refl
base_by f e k (Some (Cell c)) w q at high = let low = (q.nodes k (Cell c) at).low in absurd (omega (arith, low, high))

pub no_book : (f : Frame) (e k : ℕ) (w : World) → IsInFrame f w → cell_count ≤ k → book_entry ((entity_flow e w).slot k) ≡ (0, None)
no_book f e k w q high = base_by f e k (slice_get w.nodes k) w q refl high

-- ---- a still world

copy_is : (b : Bool) (c d : GhostCopy) → copy_if b c ≡ Some d → d ≡ c
copy_is true c d h = let same : c ≡ d = cc in sym same
copy_is false c d h = cc

module _ (f : Frame) (e : ℕ) (w : World) (still : (x y : ℕ) → (entity_flow e w).mail x y ≡ []) where
  abbrev Is : ℕ → ℕ → Option GhostCopy → Type 0
  Is k beat c = Newest book_entry brings (entity_flow e w) k beat c

  pub newest_still : (k : ℕ) (c : Option GhostCopy) → copy_at e w k ≡ c → Is k (beat_at e w k) c
  newest_still k c is = record {
    here = inr (refl, is);
    away = λ x. subst (AllBring brings (NotAbove (beat_at e w k) c)) (sym (still x k)) tt;
    found = inl (ap (λ d. let p : Entry = (beat_at e w k, d) in p) is);
  }

  entry_still : (k beat : ℕ) (c : Option GhostCopy) → Is k beat c → book_entry ((entity_flow e w).slot k) ≡ (beat, c)
  entry_still k beat c n = newest_rests brings book_entry (entity_flow e w) k beat c n (λ x. still x k)

  pub forgotten_still : ((k : ℕ) → k < cell_count → copy_at e w k ≡ None) → IsForgotten e w
  forgotten_still none k low = (beat_at e w k, newest_still k None (none k low))

  pub none_still : IsForgotten e w → (k : ℕ) → k < cell_count → copy_at e w k ≡ None
  none_still forgotten k low = let n = forgotten k low in ap (λ p. p.1) (entry_still k n.0 None n.1)

  module _ (home : ℕ) (r : RealView) where
    pub told_still : AreSettled f e home r w → NewestAreWanted f e w (In home) r
    told_still h = record {
      away = h.away;
      cells = λ k low. record {
        beat = beat_at e w k;
        low = h.beats k low;
        newest = newest_still k (wanted f r k) (h.copies k low);
      };
    }

    pub settled_still : NewestAreWanted f e w (In home) r → AreSettled f e home r w
    settled_still h = record {
      away = h.away;
      copies = λ k low. let c = h.cells k low in ap (λ p. p.1) (entry_still k c.beat (wanted f r k) c.newest);
      beats = λ k low.
          let c = h.cells k low in
          let is = ap (λ p. p.0) (entry_still k c.beat (wanted f r k) c.newest) in
          let few = c.low in
          omega (arith, is, few);
    }

    -- all copies are the present one, so that a table with that alone has them
    in_table : IsInFrame f w → AreSettled f e home r w → (k : ℕ) →
        IsOfTable (λ b. present f r) r.beat (book_entry ((entity_flow e w).slot k))
    in_table q h k = elim (cases_lt k cell_count) [
      | inl low ↦ record {
        low = h.beats k low;
        copy = λ c is. copy_is _ (present f r) c (sym (h.copies k low) ∙ is);
      }
      | inr high ↦ subst (IsOfTable (λ b. present f r) r.beat) (sym (no_book f e k w q high))
          (record { low = omega arith; copy = λ c is. cc })
    ]

    pub table_still : IsInFrame f w → AreSettled f e home r w → IsTable e w r (λ b. present f r)
    table_still q h = record {
      books = in_table q h;
      letters = λ a k. subst (AllBring brings (IsOfTable (λ b. present f r) r.beat)) (sym (still a k)) tt;
      rises = λ a b le hi. omega arith;
      top = omega arith;
    }
