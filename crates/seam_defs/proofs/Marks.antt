-- Lists of values some of which are left out.
use Rattle.std.proofs.Common.{◌≡◌, ◌≢◌, ◌↔◌, ℕ, zero, suc, ◌+◌, ◌*◌, ◌^◌, ◌<◌, ◌≤◌, ◌/◌, ◌%◌, refl, sym, ap, ◌∙◌, List, [], ◌∷◌, ◌++◌}
use Rattle.std.proofs.Common.{length, Bool, true, false, inl, inr, arith, take, drop, get_or, length-take, append_assoc, drop-cons, add-one}
use Rattle.std.proofs.Common.{if◌then◌else◌}
use Rattle.std.proofs.lemmas.Bool.{cases_Bool}
use Rattle.std.proofs.Math.Nat.{pow-succ', mul_left_comm}
use Rattle.std.specs.Prelude.{◌==◌}
use Rattle.std.proofs.lemmas.List.{take_more, take_all, drop_all, append-nil}
use Rattle.std.proofs.lemmas.List.{get_or_default}
use Rattle.std.specs.Prelude.{pos}
use Rattle.seam_value.specs.declared.values.Value.{Value}
use Rattle.seam_value.specs.declared.values.Value.TheVariants.{Number}
use Rattle.seam_defs.specs.Groups.{in_group}
use Rattle.seam_defs.specs.declared.flags.Group.{Group}
use Rattle.seam_defs.specs.declared.types.Property.{Property}
use Rattle.seam_defs.specs.Marks.{kept}
use Rattle.seam_defs.specs.Remaining.{shown_of}
use Rattle.seam_defs.proofs.PropertyPlaces.{zip-nil}

-- the lowest digit of a number is 1 exactly where 2 does not divide it
pub even : (n : ℕ) → n % 2 ≡ 0 → (n % 2 == 1) ≡ false
even n e = rw e refl

pub odd : (n : ℕ) → n % 2 ≢ 0 → (n % 2 == 1) ≡ true
odd n e = let one : n % 2 ≡ 1 = omega arith in rw one refl

-- a list is at least as long as what is kept of it
pub kept-length : (marks : ℕ) (values : List Value) → length (kept marks values) ≤ length values
kept-length marks [] = omega arith
kept-length marks (v ∷ values) =
    let rest = kept-length (marks / 2) values in
    elim (cases_Bool (marks % 2 == 1)) [ inl out ↦ rw out (omega arith) | inr inside ↦ rw inside (omega arith) ]

pub kept-all : (values : List Value) → kept 0 values ≡ values
kept-all [] = refl
kept-all (v ∷ values) = ap (λ l. v ∷ l) (kept-all values)

doubled : (digit n : ℕ) → digit * 2 ^ suc n ≡ 2 * (digit * 2 ^ n)
doubled digit n = ap (λ m. digit * m) (pow-succ' 2 n) ∙ mul_left_comm digit 2 (2 ^ n)

rest : (marks digit n : ℕ) → marks < 2 ^ suc n → ((marks + digit * 2 ^ suc n) % 2 ≡ marks % 2) ×
    ((marks + digit * 2 ^ suc n) / 2 ≡ marks / 2 + digit * 2 ^ n) × (marks / 2 < 2 ^ n)
rest marks digit n below =
    let twice = doubled digit n in
    let power = pow-succ' 2 n in
    (omega arith, omega arith, omega arith)

-- a value more at the end, beside a digit more at the top
pub kept-more : (values : List Value) (marks digit : ℕ) (v : Value) → marks < 2 ^ length values →
    kept (marks + digit * 2 ^ length values) (values ++ v ∷ []) ≡ kept marks values ++ kept digit (v ∷ [])
kept-more [] zero digit v below = let e : zero + digit * 1 ≡ digit = omega arith in rw e refl
kept-more [] (suc marks) digit v below = absurd (omega arith)
kept-more (w ∷ values) marks digit v below =
    let r = rest marks digit (length values) below in
    let more = kept-more values (marks / 2) digit v r.2 in
    rw (r.0, r.1, more)
    (elim (cases_Bool (marks % 2 == 1)) [
      | inl out ↦ rw out refl
      | inr inside ↦ rw inside refl
    ])

module _ (values : List Value) (i : ℕ) (v : Value) (within : i < length values) (here : v ≡ get_or values i v) where
  digit-more : (marks digit : ℕ) → marks < 2 ^ i →
      kept (marks + digit * 2 ^ i) (take (i + 1) values) ≡ kept marks (take i values) ++ kept digit (v ∷ [])
  digit-more marks digit below =
      let long : length (take i values) ≡ i = omega (arith, length-take i values) in
      let whole : take (i + 1) values ≡ take i values ++ v ∷ [] = take_more values i v within
      ∙ ap (λ w. take i values ++ w ∷ []) (sym here) in
      let more = kept-more (take i values) marks digit v (rw long below) in
      ap (kept (marks + digit * 2 ^ i)) whole ∙ ap (λ n. kept (marks + digit * 2 ^ n) (take i values ++ v ∷ [])) (sym long) ∙ more

  dropped : drop i values ≡ v ∷ drop (i + 1) values
  dropped = rw add-one (drop-cons values i v within ∙ ap (λ w. w ∷ drop (suc i) values) (sym here))

  pub kept-passed : (marks : ℕ) → (marks % 2 == 1) ≡ true → kept marks (drop i values) ≡ kept (marks / 2) (drop (i + 1) values)
  kept-passed marks out = rw (dropped, out) refl

  pub kept-next : (marks : ℕ) → (marks % 2 == 1) ≡ false → kept marks (drop i values) ≡ v ∷ kept (marks / 2) (drop (i + 1) values)
  kept-next marks inside = rw (dropped, inside) refl

  -- one value more is marked
  pub marked : (g : Group) (ps qs : List Property) (before marks : ℕ) (is_kept : Bool) → marks < 2 ^ i →
      shown_of g ps (kept before (drop i values)) ≡ (if is_kept then v ∷ shown_of g qs (kept (before / 2) (drop (i + 1) values))
      else shown_of g qs (kept (before / 2) (drop (i + 1) values))) →
      kept (if is_kept then marks else marks + 2 ^ i) (take (i + 1) values) ++ shown_of g qs (kept (before / 2) (drop (i + 1) values))
      ≡ kept marks (take i values) ++ shown_of g ps (kept before (drop i values))
  marked g ps qs before marks true below next =
      let more = digit-more marks 0 below in
      let same : marks + 0 * 2 ^ i ≡ marks = omega arith in
      rw (next, ← same, more, same) (append_assoc (kept marks (take i values)) (v ∷ []) _)
  marked g ps qs before marks false below next =
      let more = digit-more marks 1 below in
      let same : marks + 1 * 2 ^ i ≡ marks + 2 ^ i = omega arith in
      rw (next, ← same, more)
      (ap (λ l. l ++ shown_of g qs (kept (before / 2) (drop (i + 1) values))) (append-nil (kept marks (take i values))))

-- the same where no value was left out before, and a property is the next
pub marked-all : (values : List Value) (i : ℕ) (g : Group) (p : Property) (qs : List Property) (marks : ℕ) → i < length values →
    marks < 2 ^ i →
    kept (if in_group p.flag g then marks else marks + 2 ^ i) (take (i + 1) values) ++ shown_of g qs (drop (i + 1) values)
    ≡ kept marks (take i values) ++ shown_of g (p ∷ qs) (drop i values)
marked-all values i g p qs marks within below =
    let v = get_or values i (Number (pos 0)) in
    let here : v ≡ get_or values i v = get_or_default values i (Number (pos 0)) v within in
    let next : shown_of g (p ∷ qs) (kept 0 (drop i values))
    ≡ (if in_group p.flag g then v ∷ shown_of g qs (kept 0 (drop (i + 1) values)) else shown_of g qs (kept 0 (drop (i + 1) values))) =
    rw (kept-next values i v within here 0 refl) (elim (cases_Bool (in_group p.flag g)) [
      | inl seen ↦ rw seen refl
      | inr hidden ↦
          rw hidden refl
    ]) in
    rw (kept-all (drop (i + 1) values), kept-all (drop i values)) at
    (marked values i v within here g (p ∷ qs) qs 0 marks (in_group p.flag g) below next)

-- a value beyond the properties is left out
pub marked-out : (values : List Value) (i marks : ℕ) → i < length values → marks < 2 ^ i →
    kept (marks + 2 ^ i) (take (i + 1) values) ≡ kept marks (take i values)
marked-out values i marks within below =
    let v = get_or values i (Number (pos 0)) in
    let more = digit-more values i v within (get_or_default values i (Number (pos 0)) v within) marks 1 below in
    let same : marks + 1 * 2 ^ i ≡ marks + 2 ^ i = omega arith in
    rw same at (more ∙ append-nil (kept marks (take i values)))

-- two lists are the same from a place on where their values there are, and the lists from the next place on
module _ (vs ws : List Value) (i : ℕ) (v w : Value) (vs-within : i < length vs) (ws-within : i < length ws) (v-here : v ≡ get_or vs i v)
    (w-here : w ≡ get_or ws i w) (marks : ℕ) where
  pub both-passed : (marks % 2 == 1) ≡ true →
      (kept marks (drop i vs) ≡ kept marks (drop i ws)) ↔ (kept (marks / 2) (drop (i + 1) vs) ≡ kept (marks / 2) (drop (i + 1) ws))
  both-passed out =
      let one = kept-passed vs i v vs-within v-here marks out in
      let other = kept-passed ws i w ws-within w-here marks out in
      ((λ e. cc), (λ e. cc))

  pub both-next : (marks % 2 == 1) ≡ false → v ≡ w →
      (kept marks (drop i vs) ≡ kept marks (drop i ws)) ↔ (kept (marks / 2) (drop (i + 1) vs) ≡ kept (marks / 2) (drop (i + 1) ws))
  both-next inside same =
      let one = kept-next vs i v vs-within v-here marks inside in
      let other = kept-next ws i w ws-within w-here marks inside in
      ((λ e. cc), (λ e. cc))

  -- where one value differs the lists do
  pub one-differs : (marks % 2 == 1) ≡ false → kept marks (drop i vs) ≡ kept marks (drop i ws) → v ≡ w
  one-differs inside same =
      let one = kept-next vs i v vs-within v-here marks inside in
      let other = kept-next ws i w ws-within w-here marks inside in
      cc

-- every value is marked
pub all-marked : (values : List Value) (n : ℕ) → length values ≤ n → (g : Group) (ps : List Property) (before marks : ℕ) →
    kept marks (take n values) ++ shown_of g ps (kept before (drop n values)) ≡ kept marks values
all-marked values n long g ps before marks =
    rw (take_all n values long, drop_all n values long, zip-nil {B = Value} ps) (append-nil (kept marks values))
