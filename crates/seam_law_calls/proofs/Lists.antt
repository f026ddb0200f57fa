-- Lists of sends, of orders and of entities, as one entity sees them.
use Rattle.seam_law_calls.proofs.Prelude.{◌≡◌, ℕ, ◌+◌, Bool, true, false, not, cond, eqb, List, [], ◌∷◌, filter, Option, None, Some, refl}
use Rattle.seam_law_calls.proofs.Prelude.{sym, ap, ◌∙◌, AllByRecursion, eq-eqb, ne_eqb, eqb-true, items_to, Order, Msg, about, letters_of}
use Rattle.seam_law_calls.proofs.Prelude.{more_letter, concerned, concerns, kept_if, mine, concerning, order_concerns, orders_of}
use Rattle.seam_law_calls.proofs.Prelude.{one_more_if, times}
use Rattle.seam_node_steps.specs.Prelude.{without}

-- ---- filters

module _ {A : Type 0} (test : A → Bool) where
  pub all_pass : (xs : List A) → AllByRecursion (λ x. test x ≡ true) xs → filter test xs ≡ xs
  all_pass [] h = refl
  all_pass (x ∷ xs) h = ap (λ b. cond b (x ∷ filter test xs) (filter test xs)) h.0 ∙ ap (λ l. x ∷ l) (all_pass xs h.1)

  pub none_passes : (xs : List A) → AllByRecursion (λ x. test x ≡ false) xs → filter test xs ≡ []
  none_passes [] h = refl
  none_passes (x ∷ xs) h = ap (λ b. cond b (x ∷ filter test xs) (filter test xs)) h.0 ∙ none_passes xs h.1

-- ---- what concerns the entity

pub concerned_own : (e : ℕ) (o : Option ℕ) → o ≡ Some e → concerned e o ≡ true
concerned_own e o is = ap (concerned e) is ∙ eq-eqb e e refl

pub concerned_other : (e x : ℕ) (o : Option ℕ) → o ≡ Some x → (x ≡ e → ⊥) → concerned e o ≡ false
concerned_other e x o is n = ap (concerned e) is ∙ ne_eqb x e n

pub mine_own : (e : ℕ) (m : Msg) → about m ≡ Some e → mine e m ≡ Some m
mine_own e m is = ap (λ b. kept_if b m) (concerned_own e (about m) is)

pub mine_other : (e x : ℕ) (m : Msg) → about m ≡ Some x → (x ≡ e → ⊥) → mine e m ≡ None
mine_other e x m is n = ap (λ b. kept_if b m) (concerned_other e x (about m) is n)

-- each of the sends is about the entity
abbrev pub AllAbout : ℕ → List (ℕ × Msg) → Type 0
AllAbout x ps = AllByRecursion (λ p. about p.1 ≡ Some x) ps

each_own : (e : ℕ) (ps : List (ℕ × Msg)) → AllAbout e ps → AllByRecursion (λ p. concerns e p.1 ≡ true) ps
each_own e [] h = tt
each_own e (p ∷ ps) h = (concerned_own e (about p.1) h.0, each_own e ps h.1)

each_other : (e x : ℕ) (ps : List (ℕ × Msg)) → AllAbout x ps → (x ≡ e → ⊥) → AllByRecursion (λ p. concerns e p.1 ≡ false) ps
each_other e x [] h n = tt
each_other e x (p ∷ ps) h n = (concerned_other e x (about p.1) h.0 n, each_other e x ps h.1 n)

pub concerning_own : (e : ℕ) (ps : List (ℕ × Msg)) → AllAbout e ps → concerning e ps ≡ ps
concerning_own e ps h = all_pass (λ p. concerns e p.1) ps (each_own e ps h)

pub concerning_other : (e x : ℕ) (ps : List (ℕ × Msg)) → AllAbout x ps → (x ≡ e → ⊥) → concerning e ps ≡ []
concerning_other e x ps h n = none_passes (λ p. concerns e p.1) ps (each_other e x ps h n)

-- the letters to one node are what it gets of the sends that concern the entity
letters_by : (e j : ℕ) (p : ℕ × Msg) (ps : List (ℕ × Msg)) (a b : Bool) →
    letters_of (mine e) (items_to j ps) ≡ items_to j (concerning e ps) → eqb p.0 j ≡ a → concerns e p.1 ≡ b →
    letters_of (mine e) (cond a (p.1 ∷ items_to j ps) (items_to j ps)) ≡ items_to j (cond b (p ∷ concerning e ps) (concerning e ps))
letters_by e j p ps true true ih at is =
    ap (λ b. more_letter (kept_if b p.1) (letters_of (mine e) (items_to j ps))) is ∙
    (ap (λ l. p.1 ∷ l) ih ∙ sym (ap (λ b. cond b (p.1 ∷ items_to j (concerning e ps)) (items_to j (concerning e ps))) at))
letters_by e j p ps true false ih at is = ap (λ b. more_letter (kept_if b p.1) (letters_of (mine e) (items_to j ps))) is ∙ ih
letters_by e j p ps false true ih at is =
    ih ∙ sym (ap (λ b. cond b (p.1 ∷ items_to j (concerning e ps)) (items_to j (concerning e ps))) at)
letters_by e j p ps false false ih at is = ih

pub letters_are : (e j : ℕ) (ps : List (ℕ × Msg)) → letters_of (mine e) (items_to j ps) ≡ items_to j (concerning e ps)
letters_are e j [] = refl
letters_are e j (p ∷ ps) = letters_by e j p ps (eqb p.0 j) (concerns e p.1) (letters_are e j ps) refl refl

-- ---- orders

pub orders_own : (e : ℕ) (o : Order) (os : List Order) → order_concerns e o ≡ true → orders_of e (o ∷ os) ≡ o ∷ orders_of e os
orders_own e o os is = ap (λ b. cond b (o ∷ orders_of e os) (orders_of e os)) is

pub orders_other : (e : ℕ) (o : Order) (os : List Order) → order_concerns e o ≡ false → orders_of e (o ∷ os) ≡ orders_of e os
orders_other e o os is = ap (λ b. cond b (o ∷ orders_of e os) (orders_of e os)) is

-- ---- how often the entity is in a list

pub times_own : (e : ℕ) (l : List ℕ) → times e (e ∷ l) ≡ times e l + 1
times_own e l = ap (λ b. one_more_if b (times e l)) (eq-eqb e e refl)

pub times_other : (e x : ℕ) (l : List ℕ) → (x ≡ e → ⊥) → times e (x ∷ l) ≡ times e l
times_other e x l n = ap (λ b. one_more_if b (times e l)) (ne_eqb x e n)

times_by : (e x y : ℕ) (l : List ℕ) (b : Bool) → eqb y x ≡ b → (x ≡ e → ⊥) → times e (without x l) ≡ times e l →
    times e (cond (not b) (y ∷ without x l) (without x l)) ≡ one_more_if (eqb y e) (times e l)
times_by e x y l true is n ih =
    let same : y ≡ x = eqb-true y x is in
    ih ∙ sym (ap (λ b. one_more_if b (times e l)) (ne_eqb y e (λ q. n (sym same ∙ q))))
times_by e x y l false is n ih = ap (λ m. one_more_if (eqb y e) m) ih

pub times_without_other : (e x : ℕ) (l : List ℕ) → (x ≡ e → ⊥) → times e (without x l) ≡ times e l
times_without_other e x [] n = refl
times_without_other e x (y ∷ l) n = times_by e x y l (eqb y x) refl n (times_without_other e x l n)

gone_by : (e y : ℕ) (l : List ℕ) (b : Bool) → eqb y e ≡ b → times e (without e l) ≡ 0 →
    times e (cond (not b) (y ∷ without e l) (without e l)) ≡ 0
gone_by e y l true is ih = ih
gone_by e y l false is ih = ap (λ b. one_more_if b (times e (without e l))) is ∙ ih

pub times_without : (e : ℕ) (l : List ℕ) → times e (without e l) ≡ 0
times_without e [] = refl
times_without e (y ∷ l) = gone_by e y l (eqb y e) refl (times_without e l)
