-- Queues in a vector, seen as a list of lists.
use Rattle.std.proofs.Common.{◌≡◌, ℕ, zero, suc, ◌<◌, ◌≤◌, List, [], ◌∷◌, length, Some, get_or, set, drop, map, refl, sym, ap, ◌∙◌}
use Rattle.std.proofs.Common.{arith}
use Rattle.std.proofs.lemmas.List.{map-set, length-map, length-set, get_or-set_same}
use Rattle.std.proofs.Math.Seq.{map-set_same}
use Rattle.seam_machine.specs.declared.machines.Input.TheVariants.{From}
use Rattle.seam_machine.specs.Nets.{row_less, letter}

-- a queue is replaced by one with the same items
pub view-same : {Q M : Type 0} (qs : List Q) (f : Q → List M) (i : ℕ) (q d : Q) → f q ≡ f d → d ≡ get_or qs i d →
    map f (set qs i q) ≡ map f qs
view-same qs f i q d e h = map-set_same f qs i q d (e ∙ ap f h)

pub get_or-map_in : {Q M : Type 0} (qs : List Q) (f : Q → List M) (i : ℕ) (d : Q) → i < length qs →
    get_or (map f qs) i [] ≡ f (get_or qs i d)
get_or-map_in [] f i d h = absurd (omega (arith, h))
get_or-map_in (q ∷ qs) f zero d h = refl
get_or-map_in (q ∷ qs) f (suc i) d h = get_or-map_in qs f i d (omega (arith, h))

-- what a queue that was read shows of its link
pub link_read : {Q M : Type 0} (qs : List Q) (f : Q → List M) (row : List (List M)) (i : ℕ) (d : Q) → map f qs ≡ row → i < length qs →
    d ≡ get_or qs i d → get_or row i [] ≡ f d
link_read qs f row i d v lt h = ap (λ r. get_or r i []) (sym v) ∙ (get_or-map_in qs f i d lt ∙ sym (ap f h))

pub past_view : {Q M : Type 0} (qs : List Q) (f : Q → List M) (row : List (List M)) (i : ℕ) → map f qs ≡ row → length qs ≤ i →
    get_or row i [] ≡ []
past_view [] f row i v le = ap (λ r. get_or r i []) (sym v)
past_view (q ∷ qs) f row zero v le = absurd (omega (arith, le))
past_view (q ∷ qs) f row (suc i) v le = ap (λ r. get_or r (suc i) []) (sym v) ∙ past_view qs f (map f qs) i refl (omega (arith, le))

-- a queue was replaced: its link, and the row
pub link_replaced : {Q M : Type 0} (qs : List Q) (f : Q → List M) (i : ℕ) (q : Q) → i < length qs → get_or (map f (set qs i q)) i [] ≡ f q
link_replaced qs f i q lt = get_or-map_in (set qs i q) f i q (omega (arith, lt, length-set qs i q)) ∙ ap f (get_or-set_same qs i q q lt)

pub row_replaced : {Q M : Type 0} (qs : List Q) (f : Q → List M) (row : List (List M)) (i : ℕ) (q : Q) → map f qs ≡ row → i < length qs →
    map f (set qs i q) ≡ set row i (get_or (map f (set qs i q)) i [])
row_replaced qs f row i q v lt = map-set f qs i q ∙ (ap (λ l. set (map f qs) i l) (sym (link_replaced qs f i q lt))
    ∙ ap (λ r. set r i (get_or (map f (set qs i q)) i [])) v)

-- the first item of a queue leaves
pub take_first : {Q M : Type 0} (qs : List Q) (f : Q → List M) (i : ℕ) (q d : Q) → i < length qs → f q ≡ drop 1 (f d) → d ≡ get_or qs i d →
    map f (set qs i q) ≡ row_less (map f qs) i
take_first qs f i q d lt e h =
    let two : get_or (map f qs) i [] ≡ f d = get_or-map_in qs f i d lt ∙ sym (ap f h) in
    map-set f qs i q ∙ ap (λ v. set (map f qs) i v) (e ∙ sym (ap (drop 1) two))

holds_in : {M : Type 0} (row : List (List M)) (i : ℕ) → 0 < length (get_or row i []) → i < length row
holds_in [] i h = absurd (omega (arith, h))
holds_in (q ∷ qs) zero h = omega arith
holds_in (q ∷ qs) (suc i) h = let k = holds_in qs i h in omega (arith, k)

-- what the first item of a queue feeds
pub feeds : {Q M : Type 0} (qs : List Q) (f : Q → List M) (row : List (List M)) (a i : ℕ) (d : Q) (m : M) (ms : List M) → map f qs ≡ row →
    i < length qs → d ≡ get_or qs i d → f d ≡ m ∷ ms → letter a (get_or row i []) ≡ Some (From a m)
feeds qs f row a i d m ms v lt h e = ap (letter a) (link_read qs f row i d v lt h ∙ e)

pub in_view : {Q M : Type 0} (qs : List Q) (f : Q → List M) (row : List (List M)) (i : ℕ) → map f qs ≡ row → 0 < length (get_or row i []) →
    i < length qs
in_view qs f row i v h = let k = holds_in row i h in let l = ap length v in omega (arith, k, l, length-map qs f)
