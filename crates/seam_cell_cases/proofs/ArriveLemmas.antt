-- A real that comes, and one that is reaped: what they leave is that of the cell's step.
use Rattle.std.proofs.Common.{◌≡◌, ◌<◌, ◌≤◌, ℕ, zero, suc, ◌+◌, ◌++◌, Bool, true, false, not, ◌&&◌}
use Rattle.std.proofs.Common.{List, [], ◌∷◌, Option, None, Some, is_some}
use Rattle.std.proofs.Common.{refl, sym, ap, subst, ◌∙◌, arith, get_or, inl, inr}
use Rattle.std.specs.Prelude.{◌↔◌}
use Rattle.std.proofs.lemmas.Bool.{cases_lt, true≢false, false≢true, false_from_ne_true}
use Rattle.std.specs.List.{list_all, range_with_len}
use Rattle.std.specs.FinMap as table
use Rattle.std.specs.FinSet as set
use Rattle.std.proofs.lemmas.Bool.Decides.{nat_tests}
use Rattle.std.proofs.lemmas.List.Folds.{list_all-append, list_all_at}
use Rattle.std.proofs.lemmas.List.FromFn.{length-range_with_len, get_or-range_with_len}
use Rattle.seam_node_steps.specs.Prelude.{Cells, Division, cells_of, Ghost, ghost_after, From, GhostCopy, may_rise, RealView, Reap}
use Rattle.seam_node_steps.specs.Prelude.{Map, set_at, NextPlace, unless_stray, is_cell_if, stray_reap, reap, may_come, stray_hand}
use Rattle.seam_node_steps.specs.Prelude.{hand_over_comes, currents, drops, CellView, slot_of, stepped, cell_steps, without}
use Rattle.seam_node_steps.proofs.Slots.{set_at-same}
use Rattle.seam_cell_parts.proofs.NewsLemmas.{range_more}
use Rattle.seam_cell_cases.specs.Arriving.{is_cell_in, arrives}

-- ---- tests of all cells

and_true : (b : Bool) → (b && true) ≡ b
and_true true = refl
and_true false = refl

-- the test of one more
all_more : (f : ℕ → Bool) (n : ℕ) → list_all f (range_with_len 0 (n + 1)) ≡ (list_all f (range_with_len 0 n) && f n)
all_more f n =
    let e : n + 1 ≡ suc n = omega arith in
    let z : 0 + n ≡ n = omega arith in
    ap (λ k. list_all f (range_with_len 0 k)) e
    ∙ (ap (list_all f) (range_more 0 n ∙ ap (λ k. range_with_len 0 n ++ k ∷ []) z)
    ∙ (list_all-append f (range_with_len 0 n) (n ∷ []) ∙ ap (λ c. list_all f (range_with_len 0 n) && c) (and_true (f n))))

module _ (cells : Cells) (t : Division) where
  abbrev fits : ℕ → Bool
  fits = is_cell_in cells t

  fit_by : (b : Bool) (k : ℕ) → (b ≡ true → k < cells_of t) → is_cell_if b t k ≡ true
  fit_by true k below = let l : k < cells_of t = below refl in grind (arith, nat_tests)
  fit_by false k below = refl

  unfit_at : (b : Bool) (k : ℕ) → b ≡ true → cells_of t ≤ k → is_cell_if b t k ≡ false
  unfit_at true k in_set beyond = grind (arith, nat_tests)
  unfit_at false k in_set beyond = cc

  -- where the set's cells are those of the tree, they fit
  all_fit : (n : ℕ) → ((k : ℕ) → set.contains cells k ≡ true → k < cells_of t) → list_all fits (range_with_len 0 n) ≡ true
  all_fit zero below = refl
  all_fit (suc n) below =
      let e : suc n ≡ n + 1 = omega arith in
      ap (λ k. list_all fits (range_with_len 0 k)) e
      ∙ (all_more fits n ∙ (ap (λ b. b && fits n) (all_fit n below) ∙ fit_by (set.contains cells n) n (below n)))

  -- one of the set that the tree has not does not fit
  one_unfit : (n k : ℕ) → k < n → set.contains cells k ≡ true → cells_of t ≤ k → list_all fits (range_with_len 0 n) ≡ false
  one_unfit n k below in_set beyond =
      let at : get_or (range_with_len 0 n) k 0 ≡ k =
      get_or-range_with_len 0 n k 0 below ∙ (let z : 0 + k ≡ k = omega arith in z) in
      list_all_at fits (range_with_len 0 n) k 0 (subst (λ m. k < m) (sym (length-range_with_len 0 n)) below)
      (ap fits at ∙ unfit_at (set.contains cells k) k in_set beyond)

  -- where all fit, the set's cells are those of the tree
  cells_where_fit : (n k : ℕ) → list_all fits (range_with_len 0 n) ≡ true → k < n → set.contains cells k ≡ true → k < cells_of t
  cells_where_fit n k all below in_set = elim (cases_lt k (cells_of t)) [
    | inl within ↦ within
    | inr beyond ↦ absurd (true≢false (sym all ∙ one_unfit n k below in_set beyond))
  ]

  -- a test whether the set's cells are those of the tree tells whether all fit
  pub fit_where_below : (b : Bool) → ((b ≡ true) ↔ ((k : ℕ) → set.contains cells k ≡ true → k < cells_of t)) →
      ((k : ℕ) → set.contains cells k ≡ true → k < 16) → b ≡ list_all fits (range_with_len 0 16)
  fit_where_below true tells small = sym (all_fit 16 (tells.0 refl))
  fit_where_below false tells small =
      sym (false_from_ne_true (list_all fits (range_with_len 0 16)) (λ all.
      false≢true (tells.1 (λ k in_set. cells_where_fit 16 k all (small k in_set) in_set))))

-- ---- a reap

module _ (c : CellView) (from e : ℕ) (r : RealView) (at : table.get c.reals e ≡ Some r)
    (goes : true ≡ not (stray_reap (table.get c.reals e))) where
  not_stray : not (may_rise r.beat) ≡ false
  not_stray = by (may_rise r.beat) (goes ∙ ap (λ o. not (stray_reap o)) at)
    where
      by : (b : Bool) → true ≡ not (not b) → not b ≡ false
      by true h = refl
      by false h = cc

  reaps : cell_steps c (From from (Reap e)) ≡ stepped c e (reap (slot_of c e) (Some r))
  reaps =
      ap (λ o. stepped c e (unless_stray (stray_reap o) (reap (slot_of c e) o))) at
      ∙ ap (λ b. stepped c e (unless_stray b (reap (slot_of c e) (Some r)))) not_stray

  pub reaped : (reals : Map RealView) (ghosts : Map (Ghost GhostCopy)) (survey looks : List ℕ) → reals ≡ table.remove c.reals e →
      ghosts ≡ set_at c.ghosts e (ghost_after (table.get c.ghosts e) (record { beat = r.beat + 1; copy = None })) →
      survey ≡ without e c.survey → looks ≡ without e c.looks →
      record c { reals = reals; ghosts = ghosts; survey = survey; looks = looks } ≡ (cell_steps c (From from (Reap e))).state
  reaped reals ghosts survey looks m g s l =
      (λ i. record c { reals = m i; nexts = sym (set_at-same c.nexts e) i; ghosts = g i; survey = s i; looks = l i })
      ∙ sym (ap (λ t. t.state) reaps)

  pub reap_tells : drops r ≡ (cell_steps c (From from (Reap e))).sent
  reap_tells = sym (ap (λ t. t.sent) reaps)

pub not_reaped : (c : CellView) (from e : ℕ) → false ≡ not (stray_reap (table.get c.reals e)) →
    cell_steps c (From from (Reap e)) ≡ record { state = c; sent = [] }
not_reaped c from e stays =
    ap (λ b. stepped c e (unless_stray b (reap (slot_of c e) (table.get c.reals e)))) (by (stray_reap (table.get c.reals e)) stays)
  where
    by : (b : Bool) → false ≡ not b → b ≡ true
    by true h = refl
    by false h = cc

-- ---- a hand-over that comes

module _ (c : CellView) (r : RealView) where
  comes_by : (o : Option RealView) → None ≡ o → true ≡ may_come c.here c.tree r → stray_hand c.here c.tree r o ≡ false
  comes_by None none may = ap not (sym may)
  comes_by (Some q) none may = cc

  module _ (none : None ≡ table.get c.reals r.entity) (may : true ≡ may_come c.here c.tree r) where
    comes : arrives c r ≡ stepped c r.entity (hand_over_comes c.here (slot_of c r.entity) r)
    comes = ap (λ b. stepped c r.entity (unless_stray b (hand_over_comes c.here (slot_of c r.entity) r)))
        (comes_by (table.get c.reals r.entity) none may)

    pub does_come : true ≡ not (stray_hand c.here c.tree r (table.get c.reals r.entity))
    does_come = sym (ap not (comes_by (table.get c.reals r.entity) none may))

    pub arrived : (reals : Map RealView) (nexts : Map NextPlace) (ghosts : Map (Ghost GhostCopy)) →
        reals ≡ table.insert c.reals r.entity r → nexts ≡ table.remove c.nexts r.entity →
        ghosts ≡ set_at c.ghosts r.entity (ghost_after (table.get c.ghosts r.entity) (record { beat = r.beat; copy = None })) →
        record c { reals = reals; nexts = nexts; ghosts = ghosts } ≡ (arrives c r).state
    arrived reals nexts ghosts m n g = (λ i. record c { reals = m i; nexts = n i; ghosts = g i }) ∙ sym (ap (λ t. t.state) comes)

    pub arrival_told : currents c.here r ≡ (arrives c r).sent
    arrival_told = sym (ap (λ t. t.sent) comes)

  here_by : (o : Option RealView) → is_some o ≡ true → stray_hand c.here c.tree r o ≡ true
  here_by None h = cc
  here_by (Some q) h = refl

  pub real_is_here : is_some (table.get c.reals r.entity) ≡ true → arrives c r ≡ record { state = c; sent = [] }
  real_is_here h = ap (λ b. stepped c r.entity (unless_stray b (hand_over_comes c.here (slot_of c r.entity) r)))
      (here_by (table.get c.reals r.entity) h)

  pub here_stays : is_some (table.get c.reals r.entity) ≡ true → false ≡ not (stray_hand c.here c.tree r (table.get c.reals r.entity))
  here_stays h = sym (ap not (here_by (table.get c.reals r.entity) h))

  unfit_by : (o : Option RealView) → false ≡ may_come c.here c.tree r → stray_hand c.here c.tree r o ≡ true
  unfit_by None may = ap not (sym may)
  unfit_by (Some q) may = refl

  pub may_not_come : false ≡ may_come c.here c.tree r → arrives c r ≡ record { state = c; sent = [] }
  may_not_come may = ap (λ b. stepped c r.entity (unless_stray b (hand_over_comes c.here (slot_of c r.entity) r)))
      (unfit_by (table.get c.reals r.entity) may)

  pub unfit_stays : false ≡ may_come c.here c.tree r → false ≡ not (stray_hand c.here c.tree r (table.get c.reals r.entity))
  unfit_stays may = sym (ap not (unfit_by (table.get c.reals r.entity) may))
