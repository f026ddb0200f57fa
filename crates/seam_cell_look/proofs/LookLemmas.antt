-- A look of a witness, from what the cell knows, is that of the cell's step.
use Rattle.std.proofs.Common.{◌≡◌, ℕ, ◌<◌, ◌+◌, ◌++◌, Bool, true, false, cond, not, eqb, List, [], ◌∷◌, length, is_some}
use Rattle.std.proofs.Common.{Option, None, Some, refl, sym, ap, ◌∙◌, take, get_or, arith}
use Rattle.std.specs.Prelude.{◌≢◌}
use Rattle.std.specs.List.{filter_map}
use Rattle.std.specs.FinMap as table
use Rattle.std.proofs.lemmas.List.{take_more}
use Rattle.std.proofs.lemmas.List.Elements.{filter_map-append}
use Rattle.std.proofs.lemmas.Bool.Decides.{nat_tests}
use Rattle.seam_view.specs.declared.Look.{Look}
use Rattle.seam_node_steps.specs.Prelude.{Here, base_of, is_small, RealView, WitnessView, Map, set_at, unless_stray, rests, Known, known_of}
use Rattle.seam_node_steps.specs.Prelude.{numbered, looks_of, shown_of, after_looking, stray_look_by, looks_with, look_by, own_due}
use Rattle.seam_node_steps.specs.Prelude.{all_shown, shown_for, CellView, slot_of, known_to, stepped, looks_around, look_next, cell_rests}
use Rattle.seam_node_steps.specs.Prelude.{known_at}
use Rattle.seam_node_steps.proofs.Slots.{set_at-same}
use Rattle.seam_node_steps.proofs.Knowing.{known_of_others, known_without_own}
use Rattle.seam_cell_parts.specs.News.{listed}
use Rattle.seam_cell_parts.proofs.NewsLemmas.{one_listed}
use Rattle.seam_cell_look.specs.Looking.{looked_by, looked, told_by_look}
use Rattle.seam_cell_look.specs.Looking.{told_at_look, own_told, real_has_witness}
use Rattle.seam_cell_parts.specs.Sets.{first_of}
use Rattle.seam_cell_parts.proofs.MarkLemmas.{put_again, put_back}

-- ---- what is known of an entity

module _ (d : CellView) (own e : ℕ) where
  pub self_unknown : e ≡ own → None ≡ known_of e (known_to d own)
  self_unknown same = sym (known_of_others d own e ∙ ap (λ b. cond (not b) (known_at d e) None) same_yes)
    where
      same_yes : eqb e own ≡ true
      same_yes = grind (arith, nat_tests, same)

  module _ (apart : e ≢ own) where
    pub known_here : known_of e (known_to d own) ≡ known_at d e
    known_here =
        let no : eqb e own ≡ false = grind (arith, nat_tests, apart) in
        known_of_others d own e ∙ ap (λ b. cond (not b) (known_at d e) None) no

-- ---- what is shown

pub shown_more : {A B : Type 0} (f : A → Option B) (xs : List A) (i : ℕ) (d : A) → i < length xs →
    filter_map f (take (i + 1) xs) ≡ filter_map f (take i xs) ++ listed (f (get_or xs i d))
shown_more f xs i d small =
    ap (filter_map f) (take_more xs i d small)
    ∙ (filter_map-append f (take i xs) (get_or xs i d ∷ [])
    ∙ ap (λ l. filter_map f (take i xs) ++ l) (one_listed (f (get_or xs i d))))

pub all_is_shown : (h : Here) (r : RealView) (w : WitnessView) (known : List Known) (looks : List Look) →
    own_told h r w.told ++ filter_map (shown_for known) looks ≡ all_shown h r w known looks
all_is_shown h r w known looks = by (own_due w.told r.version) refl
  where
    by : (b : Bool) → own_due w.told r.version ≡ b →
        own_told h r w.told ++ filter_map (shown_for known) looks ≡ all_shown h r w known looks
    by true due = rw due refl
    by false due = rw due refl

-- ---- updates whose numbers are small, and others

module _ (h : Here) (r : RealView) (w : WitnessView) (known : List Known) where
  pub stray_stays : false ≡ is_small (w.sent + length (shown_of h r w known)) → w ≡ looked h r w known
  stray_stays is = ap (λ b. looked_by (not b) h r w known) is

  pub stray_is_silent : false ≡ is_small (w.sent + length (shown_of h r w known)) → [] ≡ told_at_look h r w known
  stray_is_silent is = ap (λ b. told_by_look (not b) h r w known) is

  pub small_looks : true ≡ is_small (w.sent + length (shown_of h r w known)) →
      after_looking known (looks_of r w known) (shown_of h r w known) r w ≡ looked h r w known
  small_looks is = ap (λ b. looked_by (not b) h r w known) is

  pub small_tells : true ≡ is_small (w.sent + length (shown_of h r w known)) →
      numbered (base_of h r.entity) r.entity w.sent (shown_of h r w known) ≡ told_at_look h r w known
  small_tells is = ap (λ b. told_by_look (not b) h r w known) is

-- ---- the look is that of the step

module _ (c : CellView) (e : ℕ) (r : RealView) (w : WitnessView) (at : table.get c.reals e ≡ Some r) (has : r.witness ≡ Some w) where
  around : looks_around c e (table.get c.reals e) (known_to c e)
      ≡ unless_stray (stray_look_by c.here r (Some w) (known_to c e))
      (looks_with c.here (slot_of c e) r w (known_to c e) (shown_of c.here r w (known_to c e)))
  around = ap (λ o. looks_around c e o (known_to c e)) at
      ∙ ap (λ o. unless_stray (stray_look_by c.here r o (known_to c e)) (look_by c.here (slot_of c e) r o (known_to c e))) has

  same_real : record r { witness = Some w } ≡ r
  same_real = ap (λ o. record r { witness = o }) (sym has)

  left_by : (b : Bool) → record c { reals = table.insert c.reals e (record r { witness = Some (looked_by b c.here r w (known_to c e)) }) }
      ≡ (stepped c e (unless_stray b (looks_with c.here (slot_of c e) r w (known_to c e) (shown_of c.here r w (known_to c e))))).state
  left_by true =
      ap (λ q. record c { reals = table.insert c.reals e q }) same_real
      ∙ ap (λ m. record c { reals = m }) (ap (set_at c.reals e) (sym at) ∙ set_at-same c.reals e)
  left_by false = λ i. record c {
    reals = table.insert c.reals e (record r {
      witness = Some (after_looking (known_to c e) (looks_of r w (known_to c e))
          (shown_of c.here r w (known_to c e)) r w);
    });
    nexts = sym (set_at-same c.nexts e) i;
    ghosts = sym (set_at-same c.ghosts e) i;
  }

  pub look_left : (reals : Map RealView) (q : RealView) → reals ≡ table.insert c.reals e q →
      q ≡ record r { witness = Some (looked c.here r w (known_to c e)) } →
      record c { reals = reals } ≡ (stepped c e (looks_around c e (table.get c.reals e) (known_to c e))).state
  look_left reals q put is =
      ap (λ m. record c { reals = m }) (put ∙ ap (table.insert c.reals e) is)
      ∙ (left_by (stray_look_by c.here r (Some w) (known_to c e)) ∙ ap (λ t. (stepped c e t).state) (sym around))

  sent_by : (b : Bool) → told_by_look b c.here r w (known_to c e)
      ≡ (unless_stray b (looks_with c.here (slot_of c e) r w (known_to c e) (shown_of c.here r w (known_to c e)))).sent
  sent_by true = refl
  sent_by false = refl

  pub look_sent : told_at_look c.here r w (known_to c e) ≡ (stepped c e (looks_around c e (table.get c.reals e) (known_to c e))).sent
  look_sent = sent_by (stray_look_by c.here r (Some w) (known_to c e)) ∙ ap (λ t. t.sent) (sym around)

  -- with the real taken out, which is not known to itself
  module _ (m : Map RealView) (r0 : RealView) (out : m ≡ table.remove c.reals e) (bare : r0 ≡ record r { witness = None }) where
    bare_looked : (b : Bool) (known : List Known) →
        looked_by b c.here (record r { witness = None }) w known ≡ looked_by b c.here r w known
    bare_looked true known = refl
    bare_looked false known = refl

    bare_told : (b : Bool) (known : List Known) →
        told_by_look b c.here (record r { witness = None }) w known ≡ told_by_look b c.here r w known
    bare_told true known = refl
    bare_told false known = refl

    known_so : known_to (record c { reals = m }) e ≡ known_to c e
    known_so = ap (λ n. known_to (record c { reals = n }) e) out ∙ known_without_own c e

    pub looked_around : (reals : Map RealView) (q : RealView) (v : WitnessView) →
        v ≡ looked c.here r0 w (known_to (record c { reals = m }) e) → q ≡ record r0 { witness = Some v } →
        reals ≡ table.insert m e q →
        record c { reals = reals } ≡ (stepped c e (looks_around c e (table.get c.reals e) (known_to c e))).state
    looked_around reals q v is back put = look_left reals q
        (put ∙ (ap (λ n. table.insert n e q) out ∙ put_again c.reals e q))
        (back ∙ ((λ i. record (bare i) { witness = Some v })
        ∙ ap (λ x. record r { witness = Some x }) (is ∙ ((λ i. looked c.here (bare i) w (known_so i))
        ∙ bare_looked (stray_look_by c.here r (Some w) (known_to c e)) (known_to c e)))))

    pub told_around : told_at_look c.here r0 w (known_to (record c { reals = m }) e)
        ≡ (stepped c e (looks_around c e (table.get c.reals e) (known_to c e))).sent
    told_around = (λ i. told_at_look c.here (bare i) w (known_so i))
        ∙ (bare_told (stray_look_by c.here r (Some w) (known_to c e)) (known_to c e) ∙ look_sent)

    -- where the witness stays as it was
    pub put_as_it_was : (reals : Map RealView) (q : RealView) (v : WitnessView) → v ≡ w → q ≡ record r0 { witness = Some v } →
        reals ≡ table.insert m e q → reals ≡ c.reals
    put_as_it_was reals q v same back put =
        put
        ∙ (ap (λ n. table.insert n e q) out
        ∙ (ap (table.insert (table.remove c.reals e) e) (back ∙ ((λ i. record (bare i) { witness = Some (same i) }) ∙ same_real))
        ∙ put_back c.reals e r at))

-- without a witness nothing is told, and nothing changes
pub blind : (c : CellView) (e : ℕ) → false ≡ real_has_witness (table.get c.reals e) →
    (looks_around c e (table.get c.reals e) (known_to c e)) ≡ rests
blind c e is = by (table.get c.reals e) is
  where
    by_witness : (r : RealView) (o : Option WitnessView) → false ≡ is_some o →
        unless_stray (stray_look_by c.here r o (known_to c e)) (look_by c.here (slot_of c e) r o (known_to c e)) ≡ rests
    by_witness r None no_witness = refl
    by_witness r (Some w) no_witness = cc

    by : (o : Option RealView) → false ≡ real_has_witness o → looks_around c e o (known_to c e) ≡ rests
    by None no_witness = refl
    by (Some r) no_witness = by_witness r r.witness no_witness

-- ---- the look list

pub next_look : (c : CellView) (e : ℕ) (es : List ℕ) → c.looks ≡ e ∷ es →
    look_next c c.looks ≡ stepped (record c { looks = es }) e (looks_around c e (table.get c.reals e) (known_to c e))
next_look c e es is = ap (look_next c) is

pub no_look : (c : CellView) → None ≡ first_of c.looks → look_next c c.looks ≡ cell_rests c
no_look c none = ap (look_next c) (empty c.looks none)
  where
    empty : (l : List ℕ) → None ≡ first_of l → l ≡ []
    empty [] h = refl
    empty (x ∷ xs) h = cc
