-- A cell after a load of one entity.
use Rattle.std.proofs.Common.{◌≡◌, ◌<◌, ℕ, Bool, true, false, cond, length, List, [], ◌∷◌, Option, None, Some, Result, Ok, Err, OnOk, OnErr}
use Rattle.std.proofs.Common.{refl, sym, ap, subst, ◌∙◌, arith}
use Rattle.std.specs.Prelude.{option_map}
use Rattle.std.specs.List.{list_all}
use Rattle.std.specs.Ordering.{nat_cmp, eq_by_cmp}
use Rattle.std.specs.FinMap as table
use Rattle.std.proofs.lemmas.Bool.{eqb-true}
use Rattle.std.proofs.lemmas.Bool.Decides.{nat_tests}
use Rattle.std.proofs.Common.{◌≤◌, not, ◌&&◌, ◌==◌, nat_lt, nat_le}
use Rattle.seam_node_steps.specs.Prelude.{Boundaries, Msg, Hand, Stepped, From, are_newer, cell_count, cell_steps, cells_of}
use Rattle.seam_node_steps.specs.Prelude.{comes_late}
use Rattle.seam_node_steps.specs.Prelude.{boundaries_of, listed_if, number_in, renewed, renewed_if, stray_hand}
use Rattle.seam_node_steps.specs.Prelude.{hand_over_comes, slot_of, stepped, unless_stray, with_entity}
use Rattle.seam_cell_cases.specs.Arriving.{arrives}
use Rattle.seam_cell_cases.proofs.KeptLemmas.{other_tree}
use Rattle.seam_node_steps.specs.Prelude.{Pos, Division, IsInSpace, IsTree, Here, RealView, order_passes, created, fits_cell_part}
use Rattle.seam_node_steps.specs.Prelude.{real_begins, Map, set_at, each_value, NextPlace, NextsAreCells, CellView}
use Rattle.seam_entity.specs.WitnessLooks.{with_witness}
use Rattle.seam_node_steps.proofs.Slots.{get-set_at}
use Rattle.seam_cell_parts.specs.declared.context.CellContext.{CellContext}
use Rattle.seam_cell_parts.specs.declared.reals.Reals.{Reals}
use Rattle.seam_cell_parts.specs.declared.remotes.Remotes.{Remotes}
use Rattle.seam_cell_parts.specs.declared.lists.Lists.{Lists}
use Rattle.seam_cell_parts.specs.Kept.{here_in, cell_of, AreKept, IsRealInSpace, IsKept, AreWhole}
use Rattle.seam_table.proofs.Changed.{got_changed}

no_length : {A : Type 0} (xs : List A) → length xs ≡ 0 → xs ≡ []
no_length [] e = refl
no_length (x ∷ xs) e = absurd (omega arith)

no_entries : {X : Type 0} → table.entries (table.empty {X = X} {R = nat_cmp}) ≡ []
no_entries = no_length _ (sym (table.len-entries table.empty) ∙ table.len-empty nat_cmp _)

-- a real that has done nothing holds no calls
pub created_there : (h : Here) (t : Division) (e ty : ℕ) (p : Pos) → IsInSpace t p → IsRealInSpace h t (created h e ty p)
created_there h t e ty p inside =
    record { inside = inside; held = ap (list_all (order_passes (fits_cell_part h e ty))) no_entries }

pub witness_there : (h : Here) (t : Division) (r : RealView) → IsRealInSpace h t r → IsRealInSpace h t (with_witness h r)
witness_there h t r is = record { inside = is.inside; held = is.held }

-- ---- a real put in for an entity

abbrev pub Fits : Here → Division → ℕ → Option RealView → Type 0
Fits h t e o = (r : RealView) → o ≡ Some r → (r.entity ≡ e) × IsRealInSpace h t r

fits_by : (h : Here) (t : Division) (b : Bool) (q e : ℕ) (o p : Option RealView) → eq_by_cmp nat_cmp q e ≡ b → Fits h t e o →
    Fits h t q p → Fits h t q (cond b o p)
fits_by h t true q e o p is new old r at =
    let same : q ≡ e = grind (arith, nat_tests, is) in
    let fit = new r at in
    (fit.0 ∙ sym same, fit.1)
fits_by h t false q e o p is new old r at = old r at

pub kept_with : (c : CellView) (e : ℕ) (o : Option RealView) → IsKept c → Fits c.here c.tree e o →
    IsKept (record c { reals = set_at c.reals e o })
kept_with c e o is new =
    let all = λ (q : ℕ) (r : RealView) (at : table.get (set_at c.reals e o) q ≡ Some r).
    fits_by c.here c.tree (eq_by_cmp nat_cmp q e) q e o (table.get c.reals q) refl new
    (λ x there. (is.cell.keys q x there, is.there q x there)) r
    (sym (get-set_at c.reals e q o) ∙ at) in
    record {
      cell = record {
        me_in = is.cell.me_in;
        bases = is.cell.bases;
        cells = is.cell.cells;
        nexts = is.cell.nexts;
        keys = λ q r at. (all q r at).0;
      };
      legal = is.legal;
      size = is.size;
      there = λ q r at. (all q r at).1;
    }

pub whole_with : (k : CellContext) (r s : Reals) (p : Remotes) (l : Lists) (e : ℕ) (o : Option RealView) → AreWhole k r p l → AreKept s →
    s.items.items ≡ set_at r.items.items e o → Fits (here_in k) k.bounds.tree e o → AreWhole k s p l
whole_with k r s p l e o is kept items new = record {
  cell = subst (λ m. IsKept (record (cell_of k r p l) { reals = m })) (sym items) (kept_with (cell_of k r p l) e o is.cell new);
  marks = kept;
}

pub whole_still : (k : CellContext) (r s : Reals) (p : Remotes) (l : Lists) → AreWhole k r p l → AreKept s →
    s.items.items ≡ r.items.items → AreWhole k s p l
whole_still k r s p l is kept items = record {
  cell = subst (λ m. IsKept (record (cell_of k r p l) { reals = m })) (sym items) is.cell;
  marks = kept;
}

pub whole_or : {A E : Type 0} (k : CellContext) (r s : Reals) (p : Remotes) (l : Lists) (e : ℕ) (o : Option RealView) (res : Result A E) →
    AreWhole k r p l → AreKept s → OnOk res (s.items.items ≡ set_at r.items.items e o) → OnErr res (s.items.items ≡ r.items.items) →
    Fits (here_in k) k.bounds.tree e o → AreWhole k s p l
whole_or k r s p l e o (Ok a) is kept done failed new = whole_with k r s p l e o is kept done new
whole_or k r s p l e o (Err x) is kept done failed new = whole_still k r s p l is kept failed

-- ---- which reals these are

pub created_fits : (h : Here) (t : Division) (e ty : ℕ) (p : Pos) → IsInSpace t p → Fits h t e (Some (created h e ty p))
created_fits h t e ty p inside r at =
    let same : created h e ty p ≡ r = cc in
    (sym (ap (λ x. x.entity) same), subst (IsRealInSpace h t) same (created_there h t e ty p inside))

pub witness_fits : (h : Here) (t : Division) (e : ℕ) (o : Option RealView) → Fits h t e o → Fits h t e (option_map (with_witness h) o)
witness_fits h t e None fits r at = let not : None ≡ Some r = at in cc
witness_fits h t e (Some x) fits r at =
    let same : with_witness h x ≡ r = cc in
    let fit = fits x refl in
    (sym (ap (λ y. y.entity) same) ∙ fit.0, subst (IsRealInSpace h t) same (witness_there h t x fit.1))

-- ---- a round begins

some_same : {X : Type 0} {x y : X} → Some x ≡ Some y → x ≡ y
some_same e = cc

began : (o : Option RealView) (r : RealView) → option_map real_begins o ≡ Some r → (x : RealView) × ((o ≡ Some x) × (real_begins x ≡ r))
began None r e = let not : None ≡ Some r = e in cc
began (Some x) r e = (x, (refl, some_same e))

no_next : (m : Map NextPlace) → m ≡ table.empty → NextsAreCells m
no_next m none e n at = let not : None ≡ Some n = sym (table.get-empty nat_cmp e) ∙ (sym (ap (λ w. table.get w e) none) ∙ at) in cc

pub round_whole : (k : CellContext) (b : Boundaries) (r s : Reals) (p q : Remotes) (l m : Lists) → AreWhole k r p l → AreKept s →
    IsTree b.tree → b.tree.size ≡ k.settings.size → s.items.items ≡ each_value real_begins r.items.items → q.nexts.items ≡ table.empty →
    AreWhole (record k { bounds = b }) s q m
round_whole k b r s p q l m is kept tree size items none =
    let begins = λ (e : ℕ) (x : RealView) (at : table.get s.items.items e ≡ Some x).
    began (table.get r.items.items e) x
    (sym (got_changed real_begins r.items.items e) ∙ (sym (ap (λ w. table.get w e) items) ∙ at)) in
    let there = other_tree (here_in k) k.bounds.tree b.tree r.items.items (is.cell.size ∙ sym size) is.cell.there in
    record {
      cell = record {
        cell = record {
          me_in = is.cell.cell.me_in;
          bases = is.cell.cell.bases;
          cells = tree.cells_to;
          nexts = no_next q.nexts.items none;
          keys = λ e x at. let b = begins e x at in sym (ap (λ y. y.entity) b.1.1) ∙ is.cell.cell.keys e b.0 b.1.0;
        };
        legal = is.cell.legal;
        size = size;
        there =
            λ e x at.
            let n = begins e x at in
            let old = there e n.0 n.1.0 in
            subst (IsRealInSpace (here_in k) b.tree) n.1.1 (record { inside = old.inside; held = old.held });
      };
      marks = kept;
    }

-- ---- boundaries that come

-- a cell that goes by other boundaries of its space is whole
pub bounds_whole : (k : CellContext) (b x : Boundaries) (r : Reals) (p : Remotes) (l m : Lists) → x ≡ b → AreWhole k r p l →
    IsTree b.tree → b.tree.size ≡ k.settings.size → AreWhole (record k { bounds = x }) r p m
bounds_whole k b x r p l m same is tree size =
    let c = is.cell.cell in
    subst (λ y. AreWhole (record k { bounds = y }) r p m) (sym same) (record {
      cell = record {
        cell = record { me_in = c.me_in; bases = c.bases; cells = tree.cells_to; nexts = c.nexts; keys = c.keys };
        legal = is.cell.legal;
        size = size;
        there = other_tree (here_in k) k.bounds.tree b.tree r.items.items (is.cell.size ∙ sym size) is.cell.there;
      };
      marks = is.marks;
    })

-- so is one with another list of those that are to settle
pub listed_whole : (k : CellContext) (r : Reals) (p : Remotes) (l m : Lists) → AreWhole k r p l → AreWhole k r p m
listed_whole k r p l m is =
    let c = is.cell.cell in
    record {
      cell = record {
        cell = record { me_in = c.me_in; bases = c.bases; cells = c.cells; nexts = c.nexts; keys = c.keys };
        legal = is.cell.legal;
        size = is.cell.size;
        there = is.cell.there;
      };
      marks = is.marks;
    }

-- newer ones are of the cell's space
newer_fits_by : (x y z : Bool) → (x && (y && z)) ≡ true → y ≡ true
newer_fits_by true true z h = refl
newer_fits_by true false z h = cc
newer_fits_by false y z h = cc

pub newer_fits : (c : CellView) (b : Boundaries) → are_newer c b ≡ true → b.tree.size ≡ c.here.settings.size
newer_fits c b newer =
    eqb-true b.tree.size c.here.settings.size
    (newer_fits_by (nat_lt c.number b.number) (b.tree.size == c.here.settings.size) (nat_le (cells_of b.tree) cell_count) newer)

-- newer ones by the tests of the code
pub newer_size : (n m s : ℕ) (t : Division) → IsTree t → n < m →
    (t.size == s) ≡ (nat_lt n m && (t.size == s && nat_le (cells_of t) cell_count))
newer_size n m s t tree lt =
    let most = tree.cells_to in
    let few : nat_le (cells_of t) cell_count ≡ true = grind (arith, nat_tests, most) in
    let less : nat_lt n m ≡ true = grind (arith, nat_tests, lt) in
    sym (ap (λ d. d && (t.size == s && nat_le (cells_of t) cell_count)) less
    ∙ (ap (λ d. t.size == s && d) few ∙ and_true (t.size == s)))
  where
    and_true : (b : Bool) → (b && true) ≡ b
    and_true true = refl
    and_true false = refl

pub not_newer : (n m : ℕ) (rest : Bool) → m ≤ n → nat_lt n m ≡ (nat_lt n m && rest)
not_newer n m rest le = let less : nat_lt n m ≡ false = grind (arith, nat_tests, le) in less ∙ sym (ap (λ d. d && rest) less)

-- ---- a hand-over that comes

module _ (c : CellView) (from : ℕ) (r : RealView) where
  abbrev comes : Bool
  comes = not (stray_hand c.here c.tree r (table.get c.reals r.entity))

  -- with newer boundaries the real comes to a cell that goes by them
  pub comes_newer : (b : Boundaries) → are_newer c b ≡ true → cell_steps c (From from (Hand r (Some b))) ≡ arrives (renewed_if true c b) r
  comes_newer b newer =
      let steps : CellView → Stepped CellView Msg = λ d. listed_if (comes_late d (Hand r (Some b))) r.entity (arrives d r) in
      let same : nat_lt b.number b.number ≡ false = grind (arith, nat_tests) in
      let d = renewed_if true c b in
      ap (λ x. steps (renewed_if x c b)) newer
      ∙ ap (λ x. listed_if (x && not (stray_hand d.here d.tree r (table.get d.reals r.entity))) r.entity (arrives d r)) same

  -- else it is to settle where its sender's are older ones
  module _ (o : Option Boundaries) (same : renewed c o ≡ c) where
    steps_are : cell_steps c (From from (Hand r o)) ≡ listed_if (comes_late c (Hand r o)) r.entity (arrives c r)
    steps_are = ap (λ d. listed_if (comes_late d (Hand r o)) r.entity (arrives d r)) same

    pub comes_in_time : c.number ≤ number_in o → cell_steps c (From from (Hand r o)) ≡ arrives c r
    comes_in_time le =
        let not_late : nat_lt (number_in o) c.number ≡ false = grind (arith, nat_tests, le) in
        steps_are ∙ ap (λ x. listed_if (x && comes) r.entity (arrives c r)) not_late

    pub comes_late_by : (b : Bool) → number_in o < c.number → b ≡ comes →
        cell_steps c (From from (Hand r o)) ≡ listed_if b r.entity (arrives c r)
    comes_late_by b lt is =
        let late : nat_lt (number_in o) c.number ≡ true = grind (arith, nat_tests, lt) in
        steps_are ∙ (ap (λ x. listed_if (x && comes) r.entity (arrives c r)) late ∙ ap (λ x. listed_if x r.entity (arrives c r)) (sym is))

-- a real that was settled by the cell's own boundaries: the step of its slot alone
pub comes_own : (c : CellView) (r : RealView) → cell_steps c (From 0 (Hand r (Some (boundaries_of c)))) ≡ arrives c r
comes_own c r =
    let b = boundaries_of c in
    let same : nat_lt c.number c.number ≡ false = grind (arith, nat_tests) in
    let fits = c.tree.size == c.here.settings.size && nat_le (cells_of c.tree) cell_count in
    comes_in_time c 0 r (Some b) (ap (λ d. renewed_if (d && fits) c b) same) (omega arith)

-- ---- the cell's boundaries and its list exchanged

-- by newer ones
pub newer_is : (c d : CellView) (b x : Boundaries) (s : List ℕ) → d ≡ record c { tree = x.tree; number = x.number; survey = s } → x ≡ b →
    s ≡ table.keys c.reals → d ≡ renewed_if true c b
newer_is c d b x s is same all = is ∙ (λ i. record c { tree = (same i).tree; number = (same i).number; survey = all i })

-- and back
pub put_back : (c d : CellView) (b x : Boundaries) (s t : List ℕ) → d ≡ record c { tree = b.tree; number = b.number; survey = s } →
    x ≡ boundaries_of c → t ≡ c.survey → record d { tree = x.tree; number = x.number; survey = t } ≡ c
put_back c d b x s t is same list = λ i. record (is i) { tree = (same i).tree; number = (same i).number; survey = list i }

-- a real that comes leaves the list
survey_by : (b : Bool) (c : CellView) (r : RealView) →
    (stepped c r.entity (unless_stray b (hand_over_comes c.here (slot_of c r.entity) r))).state.survey ≡ c.survey
survey_by true c r = refl
survey_by false c r = refl

-- one that comes late is put onto it
pub comes_listed : (c : CellView) (from : ℕ) (r : RealView) (o : Option Boundaries) → renewed c o ≡ c → number_in o < c.number →
    (d : CellView) (listed : List ℕ) → d ≡ (arrives c r).state → listed ≡ with_entity r.entity c.survey →
    true ≡ not (stray_hand c.here c.tree r (table.get c.reals r.entity)) →
    record d { survey = listed } ≡ (cell_steps c (From from (Hand r o))).state
comes_listed c from r o same lt d listed is list came =
    let survey = survey_by (stray_hand c.here c.tree r (table.get c.reals r.entity)) c r in
    (λ i. record (is i) { survey = (list ∙ ap (with_entity r.entity) (sym survey)) i })
    ∙ sym (ap (λ t. t.state) (comes_late_by c from r o same true lt came))
