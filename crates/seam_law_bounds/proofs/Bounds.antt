-- What there is to look at where a round's witnesses look.
use Rattle.seam_law_bounds.proofs.Prelude.{◌≡◌, ℕ, zero, suc, ◌+◌, ◌*◌, ◌≤◌, true, is_some, List, [], ◌∷◌, length, Option, None, Some, refl}
use Rattle.seam_law_bounds.proofs.Prelude.{sym, ap, ◌∙◌, subst, arith, slice_get, range_with_len, mul-le-mul_left, total, Batch, cell_count}
use Rattle.seam_law_bounds.proofs.Prelude.{has_witness, witnesses, NodeView, World, Cell, Base, loaded, Frame, MayBeLoaded}
use Rattle.seam_law_bounds.proofs.Prelude.{AreCopiesBetweenRounds, GoesThroughRound, is_among, LooksAmong, EachSeenIsHeld, entities}
use Rattle.seam_law_bounds.proofs.Prelude.{reals_at, witnesses_at, all_witnesses, events_of_looks}
use Rattle.std.specs.FinMap as table
use Rattle.seam_law_bounds.proofs.There.{numbers_many, reals_of, reals_many, passing_has, us, ws, among_then}

-- ---- the witnesses, cell by cell

abbrev seers_at : Option NodeView → List ℕ
seers_at (Some (Cell c)) = witnesses c
seers_at (Some (Base b)) = []
seers_at None = []

abbrev pub seers : World → ℕ → List ℕ
seers u k = seers_at (slice_get u.nodes k)

seers_many : (s : NodeView) → length (seers_at (Some s)) ≡ witnesses_at s
seers_many (Cell c) = refl
seers_many (Base b) = refl

-- where witnesses are of a list, those of each cell are its own
pub among_each : (names all : List ℕ) (u : World) → LooksAmong names (λ k. all) u → LooksAmong names (seers u) u
among_each names all u among = record {
  reals = among.reals;
  copies = among.copies;
  views = among.views;
  witnesses = λ k c node e r x at has.
      subst (λ o. is_among (seers_at o) e ≡ true) (sym node)
      (passing_has has_witness e r (table.entries c.reals) (sym (table.get-entries c.reals e) ∙ at) (ap is_some has));
}

-- ---- how many they are

shifted : (g : ℕ → ℕ) (a n : ℕ) → total g (range_with_len (suc a) n) ≡ total (λ k. g (suc k)) (range_with_len a n)
shifted g a zero = refl
shifted g a (suc n) =
    let same : suc a + 1 ≡ suc (a + 1) = omega arith in
    ap (λ j. g (suc a) + total g (range_with_len j n)) same ∙ ap (λ m. g (suc a) + m) (shifted g (a + 1) n)

abbrev no_nodes : List NodeView
no_nodes = []

none_seen : (n a : ℕ) → total (λ k. length (seers_at (slice_get no_nodes k))) (range_with_len a n) ≡ 0
none_seen zero a = refl
none_seen (suc n) a = let more = none_seen n (a + 1) in omega (arith, more)

seers_few : (ns : List NodeView) (n : ℕ) → total (λ k. length (seers_at (slice_get ns k))) (range_with_len 0 n) ≤ total witnesses_at ns
seers_few [] n = let none = none_seen n 0 in omega (arith, none)
seers_few (s ∷ ss) zero = omega arith
seers_few (s ∷ ss) (suc n) =
    let one = seers_many s in
    let first : 0 + 1 ≡ suc 0 = omega arith in
    let rest = ap (λ j. total (λ k. length (seers_at (slice_get (s ∷ ss) k))) (range_with_len j n)) first
    ∙ shifted (λ k. length (seers_at (slice_get (s ∷ ss) k))) 0 n in
    let more = seers_few ss n in
    omega (arith, one, rest, more)

more_looks : (n m w : ℕ) → m ≤ w → events_of_looks n m ≤ events_of_looks n w
more_looks n m w le =
    let many = mul-le-mul_left (3 + 2 * n) le in
    omega (arith, many)

-- ---- in a round

module _ (f : Frame) (w : World) (b : Batch) (may : MayBeLoaded f w b) (copies : AreCopiesBetweenRounds f w)
    (sees : EachSeenIsHeld w) (v : World) (round : GoesThroughRound w b v) where
  -- the entities of the loaded world, and its witnesses
  abbrev pub names : List ℕ
  names = us f w b may copies sees

  abbrev pub watchers : List ℕ
  watchers = ws f w b may copies sees

  pub called_among : LooksAmong names (λ k. watchers) round.called
  called_among = among_then f w b may copies sees round.called round.call_events round.calls

  many_names : length names ≡ entities (loaded w b)
  many_names = numbers_many reals_of reals_at reals_many (loaded w b).nodes

  pub looks_bounded : (n : ℕ) →
      n ≤ events_of_looks (length names) (total (λ k. length (seers round.reaped k)) (range_with_len 0 cell_count)) →
      n ≤ events_of_looks (entities (loaded w b)) (all_witnesses round.reaped)
  looks_bounded n le =
      let few =
      more_looks (length names) (total (λ k. length (seers round.reaped k)) (range_with_len 0 cell_count)) (all_witnesses round.reaped)
      (seers_few round.reaped.nodes cell_count) in
      subst (λ m. n ≤ events_of_looks m (all_witnesses round.reaped)) many_names (omega (arith, le, few))
