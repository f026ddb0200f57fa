-- What more cells are told, and that all of it is what the definitions of steps say.
use Rattle.std.proofs.Common.{◌≡◌, ◌+◌, ◌++◌, ◌||◌, ◌&&◌, not, ℕ, ◌≤◌, zero, suc, Bool, true, false, cond, eqb, [], ◌∷◌, Option, None, Some}
use Rattle.std.proofs.Common.{refl, sym, ap, ◌∙◌, arith}
use Rattle.std.specs.List.{filter_map, cons_option, range_with_len}
use Rattle.std.specs.Ordering.{nat_cmp}
use Rattle.std.specs.FinSet as set
use Rattle.std.specs.Cmp.{nat_cmp_total, unsigned_tied}
use Rattle.std.proofs.lemmas.Bool.{ne_eqb}
use Rattle.std.proofs.lemmas.List.{append-nil}
use Rattle.std.proofs.lemmas.List.Elements.{filter_map-append}
use Rattle.seam_node_steps.specs.Prelude.{Cells, GhostCopy, RealView, Here, cell_numbers, told, told_unless, ghost_message, ghost_messages}
use Rattle.seam_node_steps.specs.Prelude.{Telling, Nothing, word}
use Rattle.seam_haunt.specs.Telling.{word_at}
use Rattle.seam_cell_parts.specs.News.{message_for, listed, told_by, news, IsTellingOf}

pub range_more : (a n : ℕ) → range_with_len a (suc n) ≡ range_with_len a n ++ (a + n) ∷ []
range_more a zero = ap (λ k. k ∷ []) (let e : a ≡ a + zero = omega arith in e)
range_more a (suc n) =
    ap (λ l. a ∷ l)
    (range_more (a + 1) n ∙ ap (λ k. range_with_len (a + 1) n ++ k ∷ []) (let e : (a + 1) + n ≡ a + suc n = omega arith in e))

pub one_listed : {A : Type 0} (o : Option A) → cons_option o [] ≡ listed o
one_listed None = refl
one_listed (Some x) = refl

-- what is told to one more
pub told_more : {A : Type 0} (f : ℕ → Option A) (n : ℕ) →
    filter_map f (range_with_len 0 (n + 1)) ≡ filter_map f (range_with_len 0 n) ++ listed (f n)
told_more f n =
    let e : n + 1 ≡ suc n = omega arith in
    ap (λ k. filter_map f (range_with_len 0 k)) e
    ∙ (ap (filter_map f) (range_more 0 n ∙ ap (λ k. range_with_len 0 n ++ k ∷ []) (let z : 0 + n ≡ n = omega arith in z))
    ∙ (filter_map-append f (range_with_len 0 n) (n ∷ []) ∙ ap (λ l. filter_map f (range_with_len 0 n) ++ l) (one_listed (f n))))

pub news_more : (t : Telling) (g : GhostCopy) (n : ℕ) → news t g (n + 1) ≡ news t g n ++ listed (message_for t g n (word t n))
news_more t g n = told_more (told_by t g) n

unless_here : (b changed : Bool) → cond b Nothing (word_at false false changed) ≡ Nothing
unless_here true changed = refl
unless_here false changed = refl

-- a cell that is no haunt and was none is told nothing
pub news_same : (t : Telling) (g : GhostCopy) (n : ℕ) → set.contains t.haunts n ≡ false → set.contains t.old n ≡ false →
    news t g (n + 1) ≡ news t g n
news_same t g n away was =
    let nothing : word t n ≡ Nothing = rw (away, was) (unless_here (eqb n t.me || eqb n t.home) t.changed) in
    news_more t g n ∙ (ap (λ w. news t g n ++ listed (message_for t g n w)) nothing ∙ append-nil (news t g n))

-- no cell from n on is a haunt or was one
abbrev pub NoneFrom : Telling → ℕ → Type 0
NoneFrom t n = (k : ℕ) → n ≤ k → (set.contains t.haunts k ≡ false) × (set.contains t.old k ≡ false)

-- then nothing more is told
pub news_end : (t : Telling) (g : GhostCopy) (n m : ℕ) → NoneFrom t n → news t g (n + m) ≡ news t g n
news_end t g n zero none = ap (news t g) (let e : n + 0 ≡ n = omega arith in e)
news_end t g n (suc m) none =
    let last = none (n + m) (omega arith) in
    ap (news t g) (let e : n + suc m ≡ (n + m) + 1 = omega arith in e)
    ∙ (news_same t g (n + m) last.0 last.1 ∙ news_end t g n m none)

-- in these sets nothing is missing of the haunts, now and before, from cell n on
abbrev pub AreLeft : Cells → Cells → Telling → ℕ → Type 0
AreLeft haunts old t n =
    (k : ℕ) → n ≤ k → (set.contains haunts k ≡ set.contains t.haunts k) × (set.contains old k ≡ set.contains t.old k)

pub left_later : (haunts old : Cells) (t : Telling) (n : ℕ) → AreLeft haunts old t n → AreLeft haunts old t (n + 1)
left_later haunts old t n left k low = left k (omega (arith, low))

still_there : (s : Cells) (n k : ℕ) → n + 1 ≤ k → set.contains (set.remove s n) k ≡ set.contains s k
still_there s n k low =
    set.contains-remove nat_cmp_total s n k
    ∙ ap (λ b. not b && set.contains s k) (unsigned_tied k n ∙ ne_eqb k n (λ e. absurd (omega (arith, low, e))))

-- also without that cell
pub left_without : (haunts old : Cells) (t : Telling) (n : ℕ) → AreLeft haunts old t n →
    AreLeft (set.remove haunts n) (set.remove old n) t (n + 1)
left_without haunts old t n left k low =
    let both = left k (omega (arith, low)) in (still_there haunts n k low ∙ both.0, still_there old n k low ∙ both.1)

pub left_none : (haunts old : Cells) (t : Telling) (n : ℕ) → AreLeft haunts old t n → haunts ≡ set.empty → old ≡ set.empty →
    NoneFrom t n
left_none haunts old t n left none was k low =
    let both = left k low in (
      sym both.0 ∙ (ap (λ s. set.contains s k) none ∙ set.contains-empty nat_cmp k),
      sym both.1 ∙ (ap (λ s. set.contains s k) was ∙ set.contains-empty nat_cmp k),
    )

module _ (t : Telling) (g : GhostCopy) (k : ℕ) where
  word_told : (a b c : Bool) → message_for t g k (word_at a b c) ≡ told_unless false k (told t.entity t.beat g a b c)
  word_told true true true = refl
  word_told true true false = refl
  word_told true false c = refl
  word_told false true c = refl
  word_told false false c = refl

  said_told : (b : Bool) → message_for t g k (cond b Nothing (word_at (set.contains t.haunts k) (set.contains t.old k) t.changed))
      ≡ told_unless b k (told t.entity t.beat g (set.contains t.haunts k) (set.contains t.old k) t.changed)
  said_told true = refl
  said_told false = word_told (set.contains t.haunts k) (set.contains t.old k) t.changed

-- the same for the real of which is told
one_told : (h : Here) (r : RealView) (t : Telling) (g : GhostCopy) → IsTellingOf h r t g → (k : ℕ) →
    told_by t g k ≡ ghost_message h r t.home t.haunts t.changed k
one_told h r t g is k =
    said_told t g k (eqb k t.me || eqb k t.home)
    ∙ λ i. told_unless (eqb k (is.me i) || eqb k t.home) k
    (told (is.entity i) (is.beat i) (is.copy i) (set.contains t.haunts k) (set.contains (is.old i) k) t.changed)

pub all_told : (h : Here) (r : RealView) (t : Telling) (g : GhostCopy) → IsTellingOf h r t g →
    news t g 16 ≡ ghost_messages h r t.home t.haunts t.changed
all_told h r t g is = ap (λ f. filter_map f cell_numbers) (λ i k. one_told h r t g is k i)
